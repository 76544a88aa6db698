-- A refusal of the reader of the pointer form has one of its numbers, and its place is in the input or at its end.
-- Along the definitions: a header that is accepted has 168 bytes behind it, and every table lies in the data.
use Prim.{Unit, tt}
use Prim.Native.Nat.{ℕ, ◌+◌, ◌*◌, ◌%◌, ◌≤◌}
use mathlib.Core.Path.{◌≡◌, refl, ap}
use mathlib.Core.Bool.{◌&&◌}
use mathlib.Core.List.{List}
use native.Mathlib.Omega.{arith}
use lib.ListN.{length}
use lib.IntN.{ℤ}
use lib.Dec.{leb, eqb}
use Rattle.scan.specs.Choice.{Answer, Read, many}
use Rattle.scan.proofs.Reading.{Gives, gives, lacks}
use Rattle.utf8.specs.inner.Width.{is_utf8}
use Rattle.moment.specs.Moment.{Second, whole, split, seconds_of}
use Rattle.event.specs.Event.{Event}
use Rattle.event.specs.inner.Tells.{Tells, value, refusal}
use Rattle.event.proofs.TellsLaws.{then_tells, pick_tells, less_tells}
use Rattle.notepack.specs.declared.Part.{Part}
use Rattle.notepack.specs.Unpack.{bytes_of}
use Rattle.pointer.specs.Pointer.{word_at, lower, upper, is_header, header_at, asked, data_size, piece_at, table_at, entries_in, pointed_text, pointed_text_at, tag_table_at, pointed_tag_at, kind_at, millis_at, second_told, second_at, time_at, tags_table_at, pointed_tags_at, Form, form_at, pointer_event}
use Rattle.pointer.specs.inner.Numbers.{pointer_numbers}
use Rattle.pointer.proofs.Items.{many_eight_tells}
use Rattle.pointer.proofs.Pieces.{Headed, Pointed, Tabled, TextRead, TagTabled, header_gives, piece_gives, table_gives, text_gives, tag_table_gives}

-- what is known of a value beside what may be told
gives_tells : {A : Type 0} {P Q : A → Type 0} {r : Answer A} {numbers : List ℕ} {most : ℕ} → Gives P r → Tells numbers most Q r → Tells numbers most P r
gives_tells (gives g) (value q) = value g
gives_tells lacks (refusal o h) = refusal o h

module _ (s : List ℕ) where
  -- an answer of the reader
  abbrev Says : {A : Type 0} → (A → Type 0) → Answer A → Type 0
  Says {A} = Tells pointer_numbers (length s)

  pub header_tells : Says (Headed s) (header_at s)
  unfolding header_at
  header_tells =
      gives_tells (header_gives s)
      (pick_tells {P = λ (v : ℕ). Unit {0}} (leb (length s) 65_536)
      (λ _. pick_tells (is_header (word_at s 0) s) (λ _. value tt) (λ _. refusal refl (omega arith)))
      (λ _. refusal refl (omega arith)))

  -- a header that is accepted has the whole form around the data behind it
  long : (v : ℕ) → Headed s v → 168 ≤ length s
  long v h = omega (arith, h.least, h.size)

  module _ (whole-form : 168 ≤ length s) where
    piece_tells : (at : ℕ) → at ≤ length s → Says (Pointed s at) (piece_at s at)
    unfolding piece_at
    piece_tells at h =
        let w = word_at s at in
        gives_tells (piece_gives s at)
        (pick_tells {P = λ (p : Part). Unit {0}} (eqb (upper w % 8) 0 && leb (upper w + lower w) (data_size s)) (λ _. value tt) (λ _. refusal refl h))

    table_tells : (at : ℕ) → at ≤ length s → Says (Tabled s at) (table_at s at)
    unfolding table_at
    table_tells at h =
        gives_tells (table_gives s at)
        (then_tells {Q = λ (p : Part). Unit {0}} _ (piece_tells at h)
        (λ p g. pick_tells (eqb (p.len % 8) 0) (λ _. value tt) (λ _. refusal refl h)))

    -- where a piece starts and ends
    piece_starts : (at : ℕ) (p : Part) → Pointed s at p → p.at ≤ length s
    piece_starts at p g = let e = ap (λ (x : Part). x.at) g.is in omega (arith, e, g.inside.ends)

    table_ends : (at : ℕ) (p : Part) → Tabled s at p → p.at + 8 * entries_in p ≤ length s
    table_ends at p g =
        let e = ap (λ (x : Part). x.at) g.pointed.is in
        let f = ap (λ (x : Part). x.len) g.pointed.is in
        omega (arith, e, f, g.pointed.inside.ends, g.eights)

    module _ (version : ℕ) where
      text_tells : (at : ℕ) → at ≤ length s → Says (TextRead version s at) (pointed_text_at version s at)
      unfolding pointed_text_at pointed_text
      text_tells at h =
          gives_tells (text_gives s version at)
          (then_tells {Q = λ (r : Read Part). Unit {0}} _
          (then_tells {Q = λ (p : Part). Unit {0}} _ (piece_tells at h)
          (λ p g. pick_tells (asked version (is_utf8 (bytes_of s p))) (λ _. value tt) (λ _. refusal refl (piece_starts at p g))))
          (λ p _. value tt))

      tag_table_tells : (at : ℕ) → at ≤ length s → Says (TagTabled version s at) (tag_table_at version s at)
      unfolding tag_table_at
      tag_table_tells at h =
          gives_tells (tag_table_gives s version at)
          (then_tells {Q = λ (p : Part). Unit {0}} _ (table_tells at h)
          (λ p g.
          pick_tells (asked version (leb (entries_in p) 255))
          (λ _. pick_tells (asked version (leb 1 (entries_in p))) (λ _. value tt) (λ _. refusal refl h))
          (λ _. refusal refl h)))

      texts_tell : (n at : ℕ) → at + 8 * n ≤ length s → Says (λ (r : Read (List Part)). Unit {0}) (many (pointed_text_at version s) n at)
      texts_tell = many_eight_tells _ (λ at h. less_tells (λ r g. g.next) (text_tells at h))

      tag_tells : (at : ℕ) → at ≤ length s → Says (λ (r : Read (List Part)). r.next ≡ at + 8) (pointed_tag_at version s at)
      unfolding pointed_tag_at
      tag_tells at h =
          then_tells _ (tag_table_tells at h)
          (λ p g. then_tells _ (texts_tell (entries_in p) p.at (table_ends at p g.tabled)) (λ ts _. value refl))

      tags_tell : Says (λ (l : List (List Part)). Unit {0}) (pointed_tags_at version s)
      unfolding pointed_tags_at tags_table_at
      tags_tell =
          then_tells {P = Tabled s 64} _
          (then_tells _ (table_tells 64 (omega arith))
          (λ p g. pick_tells (asked version (leb (entries_in p) 1_000)) (λ _. value g) (λ _. refusal refl (omega arith))))
          (λ p g. then_tells _ (many_eight_tells _ tag_tells (entries_in p) p.at (table_ends 64 p g)) (λ ts _. value tt))

      kind_tells : Says (λ (k : ℕ). Unit {0}) (kind_at version s)
      unfolding kind_at
      kind_tells = pick_tells (asked version (leb (word_at s 40) 65_535)) (λ _. value tt) (λ _. refusal refl (omega arith))

    second_tells : Says (λ (t : ℕ). Unit {0}) (second_at s)
    unfolding second_at
    second_tells = go (seconds_of (millis_at s))
      where
        go : (x : Second) → Says (λ (t : ℕ). Unit {0}) (second_told x)
        go (whole n) = value tt
        go split = refusal {p = 48} refl (omega arith)

    time_tells : (version : ℕ) → Says (λ (t : ℤ). Unit {0}) (time_at version s)
    unfolding time_at
    time_tells version = pick_tells (eqb version 1) (λ _. value tt) (λ _. then_tells _ second_tells (λ t _. value tt))

  -- the form
  pub form_tells : Tells pointer_numbers (length s) (λ (f : Form). Unit {0}) (form_at s)
  unfolding form_at
  form_tells =
      then_tells _ header_tells
      (λ v d.
      let h = long v d in
      then_tells _ (kind_tells h v)
      (λ k _.
      then_tells _ (time_tells h v)
      (λ t _.
      then_tells _ (text_tells h v 56 (omega arith))
      (λ c _. then_tells _ (tags_tell h v) (λ ts _. value tt)))))

  -- the event
  pub event_tells : Tells pointer_numbers (length s) (λ (e : Event). Unit {0}) (pointer_event s)
  unfolding pointer_event
  event_tells =
      then_tells _ header_tells
      (λ v d.
      let h = long v d in
      pick_tells (eqb v 0) (λ _. then_tells _ form_tells (λ f _. then_tells _ (second_tells h) (λ t _. value tt)))
      (λ _. refusal refl (omega arith)))
