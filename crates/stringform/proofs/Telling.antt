-- The reader of string forms refuses with 20, 21 or a number of the notepack reader, of the versioned form with 25 too,
-- at a place in the text or at its end: the bytes that a text holds are fewer than its own.
use Prim.{Unit}
use Prim.Native.Nat.{ℕ, ◌≤◌}
use mathlib.Core.Path.{refl}
use mathlib.Core.Bool.{Bool, true, false}
use mathlib.Core.List.{List, [], ◌∷◌}
use native.Mathlib.Omega.{arith}
use lib.ListN.{length, drop, length-drop}
use lib.Dec.{ltb}
use borrow.Author.Tests.{ltb-true}
use Rattle.scan.specs.Place.{stands_at, run_at}
use Rattle.event.specs.inner.Tells.{Tells, value, refusal}
use Rattle.event.proofs.TellsLaws.{then_tells, pick_tells, wider}
use Rattle.base64text.specs.Base64.{in_alphabet, ends_whole}
use Rattle.base64text.proofs.Texts.{length_decoded}
use Rattle.versioned.specs.Moves.{accepted}
use Rattle.versioned.specs.inner.Numbers.{given_numbers}
use Rattle.versioned.proofs.Telling.{accepted_tells}
use Rattle.stringform.specs.StringForm.{prefix, held_bytes, read_string}
use Rattle.stringform.specs.inner.Numbers.{string_numbers}

held_tells : (bare : Bool) (t : List ℕ) → Tells (20 ∷ 21 ∷ []) (length t) (λ (b : List ℕ). length b ≤ length t) (held_bytes bare t)
unfolding held_bytes
held_tells bare t =
    let k = length (prefix bare) in
    pick_tells (stands_at (prefix bare) t 0)
    (λ p.
    pick_tells (ltb (run_at in_alphabet t k) (length t)) (λ q. refusal refl (omega (arith, ltb-true (run_at in_alphabet t k) (length t) q)))
    (λ q. pick_tells (ends_whole (drop k t)) (λ r. value (omega (arith, length_decoded (drop k t), length-drop k t))) (λ r. refusal refl (omega arith))))
    (λ p. refusal refl (omega arith))

pub string_tells : (bare : Bool) (t : List ℕ) → Tells (string_numbers bare) (length t) (λ (b : List ℕ). Unit {0}) (read_string bare t)
unfolding read_string
string_tells true t =
    then_tells (accepted true) (wider {a = 20 ∷ 21 ∷ []} refl (omega arith) (held_tells true t)) (λ b h. wider {a = given_numbers true} refl h (accepted_tells true b))
string_tells false t =
    then_tells (accepted false) (wider {a = 20 ∷ 21 ∷ []} refl (omega arith) (held_tells false t)) (λ b h. wider {a = given_numbers false} refl h (accepted_tells false b))
