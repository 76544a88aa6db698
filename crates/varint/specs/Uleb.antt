-- ULEB128: which bytes spell a number, and none longer than it needs. Assumes nothing.
use Rattle.std.specs.Prelude.{ℕ, zero, suc, ◌+◌, ◌*◌, ◌/◌, ◌%◌, ◌<◌, ◌^◌, List, [], ◌∷◌, ltb}
use Rattle.scan.specs.Choice.{pick}

-- seven bits a byte, the lowest first; the top bit is set on every byte but the last, and what follows such a byte is
-- not zero
pub data Uleb : ℕ → List ℕ → Type 0 where
  last : {b : ℕ} → b < 128 → Uleb b (b ∷ [])
  more : {b n : ℕ} {l : List ℕ} → b < 128 → 0 < n → Uleb n l → Uleb (b + 128 * n) ((128 + b) ∷ l)

-- the same without that condition: a number in groups of seven bits, which may be more than it needs
pub data Groups : ℕ → List ℕ → Type 0 where
  top : {b : ℕ} → b < 128 → Groups b (b ∷ [])
  below : {b n : ℕ} {l : List ℕ} → b < 128 → Groups n l → Groups (b + 128 * n) ((128 + b) ∷ l)

-- A varint: the spelling of a number that 64 bits hold. (It has at most ten bytes, and a tenth is then 01.)
pub record Spells (n : ℕ) (l : List ℕ) : Type 0 where
  pub digits : Uleb n l
  pub holds : n < 2 ^ 64

-- the shortest spelling, by as many steps as the fuel allows
unfoldable pub uleb_in : ℕ → ℕ → List ℕ
uleb_in zero n = n ∷ []
uleb_in (suc k) n = let longer = (128 + n % 128) ∷ uleb_in k (n / 128) in pick (ltb n 128) (n ∷ []) longer

-- the shortest spelling of n
unfoldable pub uleb : ℕ → List ℕ
uleb n = uleb_in n n
