-- What a function answers and leaves of an input of either form, by what it answers and leaves of the bare bytes.
-- One law where the start is refused, one where the bare bytes were asked: the refusal is moved, and nothing else.
use Prim.Native.Nat.{ℕ}
use mathlib.Core.Path.{◌≡◌, refl, sym, ap, ◌∙◌}
use mathlib.Core.Bool.{Bool}
use mathlib.Core.List.{List}
use lib.ListN.{length, drop}
use lib.Dec.{leb}
use Rattle.scan.specs.Choice.{Answer, shown, refused}
use Rattle.scan.proofs.Step.{pick_by}
use Rattle.buffer.specs.Entry.{writes}
use Rattle.event.specs.Event.{Event}
use Rattle.event.specs.inner.Tells.{Tells}
use Rattle.notepack.specs.inner.Numbers.{packed_numbers}
use Rattle.nson.specs.Nson.{nson}
use Rattle.nson.specs.inner.Decision.{carries}
use Rattle.nson.specs.Entries.{carried}
use Rattle.pointer.specs.Entries.{within65536}
use Rattle.pointer.specs.Written.{pointer_form}
use Rattle.versioned.specs.Versioned.{start_of, given}
use Rattle.versioned.specs.inner.Moved.{is_readers, moved_place, moved}
use Rattle.versioned.proofs.Moving.{Other, another, Passes, given_start, given_none, entry_moved, written_other}

-- a buffer that a refusal leaves as it was
abbrev pub Keeps : {A : Type 0} → (Answer A → List ℕ) → List ℕ → Type 0
Keeps left d = (n p : ℕ) → left (refused n p) ≡ d

module _ {A : Type 0} (f : List ℕ → Answer A) (b : Bool) (s : List ℕ) where
  -- the start is refused
  pub none_told : {n p : ℕ} → start_of b s ≡ refused n p → refused n p ≡ given b f s
  none_told e = sym (given_none b f s e)

  pub none_written : (entry : Answer A → Answer ℕ) → Passes entry → {n p : ℕ} → start_of b s ≡ refused n p → refused n p ≡ entry (given b f s)
  none_written entry c {n} {p} e = sym (ap entry (given_none b f s e) ∙ c.refuses n p)

  pub none_left : (left : Answer A → List ℕ) (d : List ℕ) → Keeps left d → {n p : ℕ} → start_of b s ≡ refused n p → d ≡ left (given b f s)
  none_left left d h {n} {p} e = sym (ap left (given_none b f s e) ∙ h n p)

  -- the bare bytes t were asked
  module _ {P : A → Type 0} (tells : (u : List ℕ) → Tells packed_numbers (length u) P (f u)) {k : ℕ} (e : start_of b s ≡ shown k) {t : List ℕ} (r : t ≡ drop k s) where
    pub some_told : {x : Answer A} → x ≡ f t → moved b x ≡ given b f s
    some_told q = ap (moved b) (q ∙ ap f r) ∙ sym (given_start s b f e (tells (drop k s)))

    pub some_written : (entry : Answer A → Answer ℕ) → Passes entry → {x : Answer ℕ} → x ≡ entry (f t) → moved b x ≡ entry (given b f s)
    some_written entry c q =
        ap (moved b) (q ∙ ap (λ (u : List ℕ). entry (f u)) r) ∙ sym (ap entry (given_start s b f e (tells (drop k s))) ∙ entry_moved b entry c (f (drop k s)))

    pub some_left : (left : Answer A → List ℕ) (d : List ℕ) → Keeps left d → {d' : List ℕ} → d' ≡ left (f t) → d' ≡ left (given b f s)
    some_left left d h q =
        q ∙ ap (λ (u : List ℕ). left (f u)) r ∙ sym (ap left (given_start s b f e (tells (drop k s))) ∙ still (f (drop k s)))
      where
        still : (x : Answer A) → left (moved b x) ≡ left x
        still (shown a) = refl
        still (refused n p) = h n (moved_place b n p) ∙ sym (h n p)

-- the NSON writer: neither 17 nor 11 is one of the reader's numbers
pub nson_passes : (d : List ℕ) → Passes (λ (x : Answer Event). writes nson (carried x) d)
unfolding is_readers
nson_passes d =
    record {
      refuses = λ n p. refl;
      answers = λ e. pick_by (λ (x : Answer Event). Other (writes nson x d)) (carries e) (λ _. written_other (nson e) d) (λ _. another refl);
    }

-- the writer of the pointer form: neither 29 nor 11 is one of them
pub pointer_passes : (d : List ℕ) → Passes (λ (x : Answer Event). writes pointer_form (within65536 pointer_form x) d)
unfolding is_readers
pointer_passes d =
    record {
      refuses = λ n p. refl;
      answers =
          λ e.
          pick_by (λ (x : Answer Event). Other (writes pointer_form x d)) (leb (length (pointer_form e)) 65_536) (λ _. written_other (pointer_form e) d) (λ _. another refl);
    }
