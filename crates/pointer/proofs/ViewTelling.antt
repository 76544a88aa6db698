-- A refusal of a question about a pointer form, and of converting it, has one of its numbers and a place in the input
-- or at its end: the reader's, and 19 or 29 at 0.
use Prim.{Unit, tt}
use Prim.Native.Nat.{ℕ, zero, suc}
use mathlib.Core.Path.{refl}
use mathlib.Core.List.{List, [], ◌∷◌}
use native.Mathlib.Omega.{arith}
use lib.ListN.{length}
use lib.Dec.{leb}
use Rattle.event.specs.Event.{Event}
use Rattle.event.specs.inner.Tells.{Tells, value, refusal}
use Rattle.event.proofs.TellsLaws.{then_tells, pick_tells, wider}
use Rattle.notepack.specs.declared.Part.{Part}
use Rattle.notepack.specs.Strict.{pack}
use Rattle.notepack.specs.Views.{nth}
use Rattle.pointer.specs.Pointer.{Form, form_at}
use Rattle.pointer.specs.Entries.{pointer_texts, pointer_element, convertible}
use Rattle.pointer.specs.inner.Numbers.{question_numbers, converting_numbers}
use Rattle.pointer.proofs.Telling.{form_tells, event_tells}

module _ (s : List ℕ) where
  nth_tells : {A : Type 0} (i : ℕ) (l : List A) → Tells question_numbers (length s) (λ (x : A). Unit {0}) (nth i l)
  nth_tells i [] = refusal {p = 0} refl (omega arith)
  nth_tells zero (x ∷ l) = value tt
  nth_tells (suc i) (x ∷ l) = nth_tells i l

  asked_form : Tells question_numbers (length s) (λ (f : Form). Unit {0}) (form_at s)
  asked_form = wider refl (omega arith) (form_tells s)

  pub texts_tell : (i : ℕ) → Tells question_numbers (length s) (λ (n : ℕ). Unit {0}) (pointer_texts i s)
  unfolding pointer_texts
  texts_tell i = then_tells _ asked_form (λ f _. then_tells _ (nth_tells i f.tags) (λ t _. value tt))

  pub element_tells : (i j : ℕ) → Tells question_numbers (length s) (λ (p : Part). Unit {0}) (pointer_element i j s)
  unfolding pointer_element
  element_tells i j = then_tells _ asked_form (λ f _. then_tells _ (nth_tells i f.tags) (λ t _. nth_tells j t))

  pub convertible_tells : Tells converting_numbers (length s) (λ (e : Event). Unit {0}) (convertible s)
  convertible_tells =
      then_tells _ (wider refl (omega arith) (event_tells s))
      (λ e _. pick_tells (leb (length (pack e)) 65_536) (λ _. value tt) (λ _. refusal refl (omega arith)))
