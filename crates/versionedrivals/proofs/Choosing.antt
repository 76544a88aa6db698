-- What is read of two inputs, each of either form, tells the choice between their events.
-- By what each input tells: its start's refusal, or what is told of its bare bytes, moved.
use Prim.Native.Nat.{ℕ}
use mathlib.Core.Path.{◌≡◌, refl, sym, ap, ◌∙◌}
use mathlib.Core.Bool.{Bool}
use mathlib.Core.List.{List}
use lib.ListN.{drop}
use Rattle.scan.specs.Choice.{Answer, shown, refused, and_then}
use Rattle.notepack.specs.declared.Head.{Head}
use Rattle.notepack.specs.Unpack.{unpack}
use Rattle.notepack.specs.Views.{numbers_of}
use Rattle.notepack.proofs.Telling.{unpack_tells}
use Rattle.notepack.proofs.Viewing.{numbers_event, numbers_refused}
use Rattle.rivals.specs.Rivals.{chosen, first_refused, second_refused, rivals}
use Rattle.rivals.specs.inner.Answers.{kept_there}
use Rattle.rivals.proofs.Choosing.{told_there}
use Rattle.versioned.specs.Versioned.{start_of, given}
use Rattle.versioned.specs.inner.Moved.{moved}
use Rattle.versioned.proofs.Moving.{given_start, given_none}
use Rattle.versionedrivals.specs.Rivals.{rivals_given}
use Rattle.versionedrivals.specs.inner.Read.{read_given}

-- what is read of an input, and what its event is
data Reads (b : Bool) (s : List ℕ) : Answer (ℕ × Head) → Type 0 where
  refuses : {n p : ℕ} → given b unpack s ≡ refused n p → Reads b s (refused n p)
  shows : {k : ℕ} {h : Head} → numbers_of (drop k s) ≡ shown h → given b unpack s ≡ unpack (drop k s) → Reads b s (shown (k, h))

reads : (b : Bool) (s : List ℕ) → Reads b s (read_given b s)
reads b s = by_start (start_of b s) refl
  where
    by_numbers : (k : ℕ) → start_of b s ≡ shown k → (x : Answer Head) → numbers_of (drop k s) ≡ x → Reads b s (and_then (moved b x) λ h. shown (k, h))
    by_numbers k e (shown h) q =
        let v = numbers_event (drop k s) h q in
        let w = given_start s b unpack e (unpack_tells (drop k s)) in
        shows q (w ∙ ap (moved b) v.shows ∙ sym v.shows)
    by_numbers k e (refused n p) q = refuses (given_start s b unpack e (unpack_tells (drop k s)) ∙ ap (moved b) (numbers_refused (drop k s) n p q))

    by_start : (x : Answer ℕ) → start_of b s ≡ x → Reads b s (and_then x λ k. and_then (moved b (numbers_of (drop k s))) λ h. shown (k, h))
    by_start (shown k) e = by_numbers k e (numbers_of (drop k s)) refl
    by_start (refused n p) e = refuses (given_none b unpack s e)

module _ (s : List ℕ) (b : Bool) where
  read_refused : {n p : ℕ} → refused n p ≡ read_given b s → given b unpack s ≡ refused n p
  read_refused {n} {p} e = go (reads b s) e
    where
      go : {x : Answer (ℕ × Head)} → Reads b s x → refused n p ≡ x → given b unpack s ≡ refused n p
      go (refuses {n = m} {p = q} v) e =
          let i : m ≡ n = cc in
          let j : q ≡ p = cc in
          rw (i, j) at v
      go (shows v w) e = absurd (cc)

  read_shown : {k : ℕ} {h : Head} → shown (k, h) ≡ read_given b s → (numbers_of (drop k s) ≡ shown h) × (given b unpack s ≡ unpack (drop k s))
  read_shown {k} {h} e = go (reads b s) e
    where
      go : {x : Answer (ℕ × Head)} → Reads b s x → shown (k, h) ≡ x → (numbers_of (drop k s) ≡ shown h) × (given b unpack s ≡ unpack (drop k s))
      go (refuses v) e = absurd (cc)
      go (shows {k = m} {h = g} v w) e =
          let f : ◌≡◌ {A = ℕ × Head} (k, h) (m, g) = cc in
          let i : k ≡ m = ap (λ (x : ℕ × Head). x.0) f in
          let j : h ≡ g = ap (λ (x : ℕ × Head). x.1) f in
          rw (i, j) (v, w)

module _ (s : List ℕ) (b : Bool) (t : List ℕ) (c : Bool) where
  pub no_first : {n p : ℕ} → refused n p ≡ read_given b s → first_refused n p ≡ rivals_given s b t c
  unfolding rivals_given
  no_first e = rw (read_refused s b e)

  pub no_second : {k : ℕ} {h : Head} {n p : ℕ} → shown (k, h) ≡ read_given b s → refused n p ≡ read_given c t → second_refused n p ≡ rivals_given s b t c
  unfolding rivals_given
  no_second {k} {h} e f =
      let v = read_shown s b e in
      rw (v.1, (numbers_event (drop k s) h v.0).shows, read_refused t c f)

  pub both_read : {k m : ℕ} {h g : Head} → shown (k, h) ≡ read_given b s → shown (m, g) ≡ read_given c t
      → chosen (kept_there (drop k s) h (drop m t) g) ≡ rivals_given s b t c
  unfolding rivals_given rivals
  both_read {k} {m} {h} {g} e f =
      let v = read_shown s b e in
      let w = read_shown t c f in
      rw (v.1, w.1) (told_there (drop k s) (drop m t) h g _ _ refl v.0 refl w.0)
