-- The alphabet and its inverse: the six bits of a value's character are the value, and a byte of the alphabet is the
-- character of its six bits. And what the code has in their place: the table of all bytes, and the ranges.
-- The first and the ranges by a test that is computed for every value or byte; the second by where a run stops.
use Prim.Native.Nat.{ℕ, zero, suc, ◌+◌, ◌-◌, ◌<◌, ◌≤◌}
use mathlib.Core.Path.{◌≡◌, refl, sym, ap, ◌∙◌}
use mathlib.Core.Bool.{Bool, true, false}
use mathlib.Core.List.{List, [], ◌∷◌, ◌++◌}
use native.Mathlib.Nat.{add-zero}
use native.Mathlib.Omega.{arith}
use native.Mathlib.Decide.{dec_lt}
use mathlib.Core.Logic.{dite}
use lib.ListN.{length, get_or, drop, length-append, length-drop}
use lib.Seq.{drop-drop}
use lib.Dec.{ltb, eqb}
use borrow.Author.Tests.{eqb-true, ltb-true, lt-ltb, le-ltb}
use Rattle.scan.specs.Bytes.{All, none, also}
use Rattle.scan.specs.Choice.{pick}
use Rattle.scan.specs.Place.{run, run_at}
use Rattle.scan.specs.inner.Blocks.{sum_of}
use Rattle.scan.proofs.Step.{false_true}
use Rattle.scan.proofs.PlaceLaws.{run_stops}
use Rattle.base64text.specs.Base64.{alphabet, character_of, six_bits, in_alphabet}
use Rattle.base64text.specs.inner.Tables.{bits_from, bits_table, is_outside}
use Rattle.base64text.proofs.Below.{every, every_at}

pub alphabet_long : (t : List ℕ) → t ≡ alphabet → length t ≡ 64
unfolding alphabet
alphabet_long t e = rw e

-- ---- there and back

-- the six bits of a value's character are the value
pub bits_character : (v : ℕ) → v < 64 → six_bits (character_of v) ≡ v
unfolding six_bits character_of alphabet run
bits_character v h = eqb-true (six_bits (character_of v)) v (every_at (λ k. eqb (six_bits (character_of k)) k) 64 0 refl v (omega arith) (omega arith))

-- a byte of the alphabet is the character of its six bits
pub character_bits : (b : ℕ) → six_bits b < 64 → character_of (six_bits b) ≡ b
unfolding six_bits character_of run_at
character_bits b h = found (eqb (character_of (six_bits b)) b) refl (run_stops (λ c. pick (eqb c b) false true) alphabet 0 (rw (alphabet_long alphabet refl) h))
  where
    found : (t : Bool) → eqb (character_of (six_bits b)) b ≡ t → pick t false true ≡ false → character_of (six_bits b) ≡ b
    found true e h = eqb-true (character_of (six_bits b)) b e
    found false e h = absurd (false_true (sym h))

-- ---- what is outside

-- no byte above 7F is of the alphabet
pub none_above : (b : ℕ) → 128 ≤ b → in_alphabet b ≡ false
unfolding in_alphabet character_of alphabet
none_above b h =
    le-ltb (six_bits b) 64
    (dite (dec_lt (six_bits b) 64) (λ l. absurd (omega (arith, below (six_bits b) l, character_bits b l))) (λ g. omega (arith, g)))
  where
    below : (v : ℕ) → v < 64 → character_of v < 128
    below v l = ltb-true (character_of v) 128 (every_at (λ k. ltb (character_of k) 128) 64 0 refl v (omega arith) (omega arith))

-- nor are `=`, `-`, `_`, a blank, a tab and the line ends
pub none_named : All (λ b. in_alphabet b ≡ false) (0x3D ∷ 0x2D ∷ 0x5F ∷ 0x20 ∷ 0x09 ∷ 0x0A ∷ 0x0D ∷ [])
unfolding in_alphabet six_bits alphabet run
none_named = also refl (also refl (also refl (also refl (also refl (also refl (also refl none))))))

-- ---- the table of all bytes

bits_from_lem : (n i k : ℕ) → k < n → get_or (bits_from n i) k 0 ≡ six_bits (i + k)
bits_from_lem zero i k h = absurd (omega arith)
bits_from_lem (suc n) i zero h = ap six_bits (sym (add-zero i))
bits_from_lem (suc n) i (suc k) h =
    let e : i + 1 + k ≡ i + suc k = omega arith in
    bits_from_lem n (i + 1) k (omega arith) ∙ ap six_bits e

pub table_bits : (t : List ℕ) (b : ℕ) → t ≡ bits_table → b < 256 → get_or t b 0 ≡ six_bits b
unfolding bits_table
table_bits t b e h = let z : 0 + b ≡ b = omega arith in rw e (bits_from_lem 256 0 b h ∙ ap six_bits z)

-- ---- the ranges, and the bytes between them

in_range : (f : ℕ → ℕ) (n i : ℕ) → every (λ k. eqb (six_bits k) (f k)) n i ≡ true → (b : ℕ) → i ≤ b → b < i + n → six_bits b ≡ f b
in_range f n i e b l h = eqb-true (six_bits b) (f b) (every_at (λ k. eqb (six_bits k) (f k)) n i e b l h)

module _ (b : ℕ) where
  pub bits_upper : 65 ≤ b → b ≤ 90 → six_bits b ≡ b - 65
  unfolding six_bits alphabet run
  bits_upper l h = in_range (λ k. k - 65) 26 65 refl b l (omega arith)

  pub bits_lower : 97 ≤ b → b ≤ 122 → six_bits b ≡ b - 71
  unfolding six_bits alphabet run
  bits_lower l h = in_range (λ k. k - 71) 26 97 refl b l (omega arith)

  pub bits_number : 48 ≤ b → b ≤ 57 → six_bits b ≡ b + 4
  unfolding six_bits alphabet run
  bits_number l h = in_range (λ k. k + 4) 10 48 refl b l (omega arith)

  pub bits_plus : b ≡ 43 → six_bits b ≡ 62
  unfolding six_bits alphabet run
  bits_plus e = rw e

  pub bits_slash : b ≡ 47 → six_bits b ≡ 63
  unfolding six_bits alphabet run
  bits_slash e = rw e

  pub bits_below_plus : b < 43 → six_bits b ≡ 64
  unfolding six_bits alphabet run
  bits_below_plus h = in_range (λ k. 64) 43 0 refl b (omega arith) (omega arith)

  pub bits_below_slash : 43 < b → b < 47 → six_bits b ≡ 64
  unfolding six_bits alphabet run
  bits_below_slash l h = in_range (λ k. 64) 3 44 refl b l (omega arith)

  pub bits_below_upper : 57 < b → b < 65 → six_bits b ≡ 64
  unfolding six_bits alphabet run
  bits_below_upper l h = in_range (λ k. 64) 7 58 refl b l (omega arith)

  pub bits_below_lower : 90 < b → b < 97 → six_bits b ≡ 64
  unfolding six_bits alphabet run
  bits_below_lower l h = in_range (λ k. 64) 6 91 refl b l (omega arith)

  pub bits_above : 122 < b → b < 256 → six_bits b ≡ 64
  unfolding six_bits alphabet run
  bits_above l h = in_range (λ k. 64) 133 123 refl b l (omega arith)

  -- and so which bytes count as outside
  pub outside_not : six_bits b < 64 → is_outside b ≡ 0
  unfolding is_outside in_alphabet
  outside_not h = rw (lt-ltb (six_bits b) 64 h)

  pub outside_is : 64 ≤ six_bits b → is_outside b ≡ 1
  unfolding is_outside in_alphabet
  outside_is h = rw (le-ltb (six_bits b) 64 h)

pub ruleset ranges = (bits_upper, bits_lower, bits_number, bits_plus, bits_slash, bits_below_plus, bits_below_slash, bits_below_upper, bits_below_lower, bits_above)

pub ruleset outside = (ranges, outside_not, outside_is)

-- ---- a byte that counts, and one that does not

counts_in : (b : ℕ) {n : ℕ} → n ≡ is_outside b → n ≡ 0 → in_alphabet b ≡ true
unfolding is_outside
counts_in b e z = go (in_alphabet b) (sym e ∙ z)
  where
    go : (t : Bool) → ◌≡◌ {A = ℕ} (pick t 0 1) 0 → t ≡ true
    go true h = refl
    go false h = absurd (omega arith)

-- the test of a byte that counts is whether it is of the alphabet
pub inside_zero : (b : ℕ) → eqb (is_outside b) 0 ≡ in_alphabet b
unfolding is_outside
inside_zero b = go (in_alphabet b)
  where
    go : (t : Bool) → eqb (pick t 0 1) 0 ≡ t
    go true = refl
    go false = refl

-- a block in which none counts is passed
passed : (x r : List ℕ) (i : ℕ) → sum_of is_outside x ≡ 0 → run in_alphabet (x ++ r) i ≡ run in_alphabet r (i + length x)
unfolding run sum_of
passed [] r i e = rw add-zero
passed (b ∷ x) r i e =
    let p = counts_in b refl (omega arith) in
    let k : i + 1 + length x ≡ i + suc (length x) = omega arith in
    rw p (passed x r (i + 1) (omega arith) ∙ ap (run in_alphabet r) k)

pub block_passed : (t : List ℕ) (i : ℕ) (x r : List ℕ) → i ≤ length t → drop i t ≡ x ++ r → sum_of is_outside x ≡ 0
    → (i + length x ≤ length t) × (r ≡ drop (i + length x) t) × (run_at in_alphabet t i ≡ run_at in_alphabet t (i + length x))
unfolding run_at
block_passed t i x r l e z =
    let n = ap length e ∙ length-append x r in
    let d : r ≡ drop (i + length x) t = sym (drop_front x r) ∙ ap (drop (length x)) (sym e) ∙ drop-drop (length x) i t in
    (omega (arith, n, length-drop i t), d, ap (λ (s : List ℕ). run in_alphabet s i) e ∙ passed x r i z ∙ ap (λ (s : List ℕ). run in_alphabet s (i + length x)) d)
  where
    drop_front : (x r : List ℕ) → drop (length x) (x ++ r) ≡ r
    drop_front [] r = refl
    drop_front (b ∷ x) r = drop_front x r
