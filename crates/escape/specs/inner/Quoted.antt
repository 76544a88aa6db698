-- What may stand between two quotes: bare bytes, and letters behind a backslash. Assumes nothing.
use Rattle.std.specs.Prelude.{ℕ, ◌≤◌, ◌≡◌, List, [], ◌∷◌}

pub data Quoted (Bare Letter : ℕ → Type 0) : List ℕ → Type 0 where
  none : Quoted Bare Letter []
  bare : {b : ℕ} {l : List ℕ} → Bare b → Quoted Bare Letter l → Quoted Bare Letter (b ∷ l)
  escape : {c : ℕ} {l : List ℕ} → Letter c → Quoted Bare Letter l → Quoted Bare Letter (0x5C ∷ c ∷ l)

-- in NSON no byte below 20, no quote and no backslash stands bare
pub data NsonBare : ℕ → Type 0 where
  nson_bare : {b : ℕ} → 0x20 ≤ b → (b ≡ 0x22 → ⊥) → (b ≡ 0x5C → ⊥) → NsonBare b

-- and the letters are \n \" \\
pub data NsonLetter : ℕ → Type 0 where
  letter_n : NsonLetter 0x6E
  letter_quote : NsonLetter 0x22
  letter_backslash : NsonLetter 0x5C

-- in the canonical text none of the seven bytes stands bare
pub data CanonicalBare : ℕ → Type 0 where
  canonical_bare : {b : ℕ} → (b ≡ 0x0A → ⊥) → (b ≡ 0x22 → ⊥) → (b ≡ 0x5C → ⊥) → (b ≡ 0x0D → ⊥) → (b ≡ 0x09 → ⊥) → (b ≡ 0x08 → ⊥) → (b ≡ 0x0C → ⊥) → CanonicalBare b

-- and the letters are those of NSON and \r \t \b \f
pub data CanonicalLetter : ℕ → Type 0 where
  letter_nson : {c : ℕ} → NsonLetter c → CanonicalLetter c
  letter_r : CanonicalLetter 0x72
  letter_t : CanonicalLetter 0x74
  letter_b : CanonicalLetter 0x62
  letter_f : CanonicalLetter 0x66
