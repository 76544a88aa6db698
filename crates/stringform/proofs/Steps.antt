-- What the reader and the writer answer and leave, for each outcome of what they ask on the way.
-- Each law takes what the code then knows; where the notepack reader is asked, by the laws of its answer.
use Prim.Native.Nat.{ℕ, ◌+◌, ◌≤◌, ◌<◌}
use mathlib.Core.Path.{◌≡◌, refl, sym, ap, ◌∙◌}
use mathlib.Core.Bool.{Bool, true, false}
use mathlib.Core.List.{List, ◌∷◌, ◌++◌}
use native.Mathlib.Omega.{arith}
use lib.ListN.{length, get_or, drop, length-append}
use borrow.Author.Tests.{lt-ltb, le-ltb}
use Rattle.std.specs.Prelude.{Result, Ok, Err}
use Rattle.scan.specs.Choice.{Answer, shown, refused}
use Rattle.scan.specs.Place.{stands_at, run_at}
use Rattle.scan.proofs.Many.{shown_same}
use Rattle.scan.proofs.AllLaws.{all_places}
use Rattle.scan.proofs.SpanLaws.{span_fits}
use Rattle.scan.proofs.PlaceLaws.{stands_span}
use Rattle.buffer.specs.Entry.{written, filled, writes, leaves}
use Rattle.base64text.specs.Base64.{in_alphabet, encoded, decoded, ends_whole}
use Rattle.event.specs.Event.{Event}
use Rattle.event.specs.declared.Refusal.{Refusal}
use Rattle.event.specs.inner.Told.{answer, number_of}
use Rattle.notepack.specs.declared.Head.{Head}
use Rattle.notepack.specs.declared.Tally.{Tally}
use Rattle.notepack.specs.Strict.{pack}
use Rattle.notepack.specs.Unpack.{unpack}
use Rattle.notepack.specs.inner.Again.{event_again}
use Rattle.notepack.specs.inner.Answers.{Walked, walk, walk_at}
use Rattle.notepack.proofs.Walking.{walk_refuses}
use Rattle.notepack.proofs.Again.{Accepted, accepted as notepack-accepted}
use Rattle.strict.specs.inner.Copy.{packed_pieces}
use Rattle.strict.proofs.Laws.{pack_written}
use Rattle.versioned.specs.Versioned.{start_of}
use Rattle.versioned.specs.Views.{numbers_given}
use Rattle.versioned.specs.Moves.{accepted}
use Rattle.versioned.specs.inner.Moved.{moved}
use Rattle.versioned.proofs.Starting.{clash, refused_as, versioned_starts}
use Rattle.versioned.proofs.Accepted.{accepted_refused, accepted_shown}
use Rattle.stringform.specs.StringForm.{prefix, front, string_form, event_string, held_bytes, read_string}

-- the string form's length
pub length_string : (bare : Bool) (b : List ℕ) {m n : ℕ} → m ≡ length (prefix bare) → n ≡ length (encoded b) → m + n ≡ length (string_form bare b)
unfolding string_form
length_string bare b f e = omega (arith, f, e, length-append (prefix bare) (encoded b))

-- ---- the reader

module _ (bare : Bool) (t : List ℕ) where
  pub not_prefixed : stands_at (prefix bare) t 0 ≡ false → read_string bare t ≡ refused 20 0
  unfolding read_string held_bytes
  not_prefixed p = rw p

  module _ (p : stands_at (prefix bare) t 0 ≡ true) {k : ℕ} (f : k ≡ length (prefix bare)) where
    -- the prefix takes the first bytes
    pub prefix_fits : k ≤ length t
    prefix_fits = omega (arith, f, span_fits (stands_span (prefix bare) t 0 p))

    pub outside : {r : ℕ} → r ≡ run_at in_alphabet t k → r < length t → read_string bare t ≡ refused 21 r
    unfolding read_string held_bytes
    outside e q = let h = rw f at e in rw (p, lt-ltb (run_at in_alphabet t (length (prefix bare))) (length t) (omega (arith, h, q)), h)

    module _ {r : ℕ} (e : r ≡ run_at in_alphabet t k) (q : length t ≤ r) where
      pub unfinished : ends_whole (drop k t) ≡ false → read_string bare t ≡ refused 21 (length t)
      unfolding read_string held_bytes
      unfinished h =
          let e' = rw f at e in
          let h' = rw f at h in
          rw (p, le-ltb (run_at in_alphabet t (length (prefix bare))) (length t) (omega (arith, e', q)), h')

      pub holds : ends_whole (drop k t) ≡ true → read_string bare t ≡ accepted bare (decoded (drop k t))
      unfolding read_string held_bytes
      holds h =
          let e' = rw f at e in
          let h' = rw f at h in
          rw (p, le-ltb (run_at in_alphabet t (length (prefix bare))) (length t) (omega (arith, e', q)), h', f)

-- the bytes b were decoded, and the notepack reader was asked of them
module _ (bare : Bool) (b : List ℕ) {c : List ℕ} (e : c ≡ b) where
  pub held_refused : {n q : ℕ} → refused n q ≡ numbers_given bare c → accepted bare b ≡ refused n q
  held_refused h = accepted_refused bare b (h ∙ ap (numbers_given bare) e) refl

  pub held_shown : {k : Head} → shown k ≡ numbers_given bare c → accepted bare b ≡ shown b
  held_shown h = accepted_shown bare b (h ∙ ap (numbers_given bare) e) refl

-- an answer that is a refusal, and the buffer as it was
pub tells : {A : Type 0} (text : A → List ℕ) {a : Answer A} {n q : ℕ} (d : List ℕ) → a ≡ refused n q → (refused n q ≡ writes text a d) × (d ≡ leaves text a d)
tells text d e = rw e (refl, refl)

-- ---- the writer

-- a slice that was walked to its end shows an event
pub walked_event : (s : List ℕ) → ((i : ℕ) → get_or s i 0 < 256) → (bare : Bool) (f : Result (Head × Tally) Refusal) {w : Head × Tally}
    → walk f ≡ walk_at s → shown w ≡ moved bare (answer f) → Accepted s (record { head = w.0; tally = w.1 })
walked_event s y bare (Ok v) {w} e k =
    let q : v ≡ w = shown_same (sym k) in
    notepack-accepted s (all_places s y) _ _ e (ap (λ (x : Head × Tally). walk (Ok x)) q)
walked_event s y bare (Err r) e k = clash (sym k)

-- at most one byte stands in front
front_most : (bare : Bool) (l : List ℕ) → length (front bare ++ l) ≤ length l + 1
unfolding front
front_most true l = omega arith
front_most false l = omega arith

module _ (bare : Bool) (s : List ℕ) (w : Walked) (g : Accepted s w) where
  -- the bytes have room where there is room for one more than the strict ones
  pub pieces_fit : (n : ℕ) → w.tally.len < n → length (front bare ++ packed_pieces s w.head) ≤ n
  pieces_fit n h = rw (pack_written s w g) (omega (arith, h, g.len, front_most bare (pack (event_again s w.head))))

  -- and in any case where there is room for the longest input and one more
  pub pieces_most : length (front bare ++ packed_pieces s w.head) ≤ 65_537
  pieces_most = rw (pack_written s w g) (omega (arith, g.sound.least, g.sound.short, front_most bare (pack (event_again s w.head))))

  -- bytes that are strict already
  pub strict_already : w.tally.len ≡ length s → w.tally.hollow ≡ false → s ≡ pack (event_again s w.head)
  strict_already n k = g.piece.same (sym g.len ∙ n) k

  -- the string form of the strict bytes is that of the event
  pub wrote_event : (d : List ℕ) {b d' : List ℕ} {a : Answer ℕ} → b ≡ front bare ++ pack (event_again s w.head)
      → (a ≡ written (string_form bare b) d) × (d' ≡ filled (string_form bare b) d)
      → (a ≡ writes (event_string bare) (moved bare (unpack s)) d) × (d' ≡ leaves (event_string bare) (moved bare (unpack s)) d)
  unfolding event_string
  wrote_event d e p = rw (g.shows, sym e) p

  pub wrote_pieces : (d : List ℕ) {d' : List ℕ} {a : Answer ℕ}
      → (a ≡ written (string_form bare (front bare ++ packed_pieces s w.head)) d) × (d' ≡ filled (string_form bare (front bare ++ packed_pieces s w.head)) d)
      → (a ≡ writes (event_string bare) (moved bare (unpack s)) d) × (d' ≡ leaves (event_string bare) (moved bare (unpack s)) d)
  wrote_pieces d p = wrote_event d (ap (λ (l : List ℕ). front bare ++ l) (pack_written s w g)) p

-- the notepack reader's refusal
pub bare_refused : (bare : Bool) (s : List ℕ) (f : Result (Head × Tally) Refusal) {n q : ℕ} → walk f ≡ walk_at s → refused n q ≡ moved bare (answer f)
    → ◌≡◌ {A = Answer Event} (moved bare (unpack s)) (refused n q)
bare_refused bare s (Ok v) e k = clash k
bare_refused bare s (Err r) e k = ap (moved bare) (walk_refuses s (number_of r.reason) r.place (sym e)) ∙ refused_as (sym k)

-- the bare bytes and what stands in front of them are the input
pub front_whole : (bare : Bool) (s : List ℕ) {k : ℕ} → start_of bare s ≡ shown k → s ≡ front bare ++ drop k s
unfolding front start_of
front_whole true s {k} e = let f : ◌≡◌ {A = ℕ} 0 k = cc in rw (sym f)
front_whole false s {k} e = let v = versioned_starts s e in v.whole ∙ ap (λ (j : ℕ). 1 ∷ drop j s) (sym v.one)
