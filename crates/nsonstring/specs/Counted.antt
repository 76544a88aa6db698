-- The bytes between two quotes of NSON: the earliest fault (rules 6 and 11). Assumes nothing.
use Rattle.std.specs.Prelude.{ℕ, zero, suc, ◌-◌, Bool, true, List, [], ◌∷◌, ltb, eqb}
use Rattle.scan.specs.Choice.{pick}
use Rattle.scan.specs.Place.{byte_at}
use Rattle.utf8.specs.inner.Width.{width_of}

-- the letters behind a backslash: n " \
unfoldable pub is_letter : ℕ → Bool
is_letter b = pick (eqb b 0x6E) true (pick (eqb b 0x22) true (eqb b 0x5C))

-- The number of the earliest fault, 0 where there is none (rule 6.25): 13 is a quote without a backslash, 14 a byte
-- below 20 or a backslash without its letter, 5 UTF-8 that is ill-formed or cut.
-- `skip` bytes of the escape or sequence at hand are still to pass.
unfoldable pub fault_from : (skip : ℕ) → List ℕ → ℕ
fault_from zero [] = 0
fault_from (suc k) [] = 0
fault_from (suc k) (b ∷ l) = fault_from k l
fault_from zero (b ∷ l) =
    let w = width_of b (byte_at l 0) (byte_at l 1) (byte_at l 2) in pick (eqb b 0x22) 13
    (pick (ltb b 0x20) 14
    (pick (eqb b 0x5C) (pick (is_letter (byte_at l 0)) (fault_from 1 l) 14) (pick (eqb w 0) 5 (fault_from (w - 1) l))))

unfoldable pub fault_in : List ℕ → ℕ
fault_in l = fault_from 0 l
