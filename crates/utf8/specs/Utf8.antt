-- Well-formed UTF-8: the ABNF of RFC 3629, section 4, row by row, in its order. Assumes nothing.
use Rattle.std.specs.Prelude.{ℕ, ◌≤◌, List, [], ◌∷◌, ◌++◌}

-- %xLOW-HIGH
pub data Octet (low high : ℕ) : ℕ → Type 0 where
  octet : {b : ℕ} → low ≤ b → b ≤ high → Octet low high b

-- UTF8-tail = %x80-BF
abbrev pub Tail : ℕ → Type 0
Tail = Octet 0x80 0xBF

-- UTF8-char = UTF8-1 / UTF8-2 / UTF8-3 / UTF8-4
pub data Char : List ℕ → Type 0 where
  -- UTF8-1 = %x00-7F
  one : {a : ℕ} → Octet 0x00 0x7F a → Char (a ∷ [])
  -- UTF8-2 = %xC2-DF UTF8-tail
  two : {a b : ℕ} → Octet 0xC2 0xDF a → Tail b → Char (a ∷ b ∷ [])
  -- UTF8-3 = %xE0 %xA0-BF UTF8-tail / %xE1-EC 2( UTF8-tail ) / %xED %x80-9F UTF8-tail / %xEE-EF 2( UTF8-tail )
  three_E0 : {b c : ℕ} → Octet 0xA0 0xBF b → Tail c → Char (0xE0 ∷ b ∷ c ∷ [])
  three_E1 : {a b c : ℕ} → Octet 0xE1 0xEC a → Tail b → Tail c → Char (a ∷ b ∷ c ∷ [])
  three_ED : {b c : ℕ} → Octet 0x80 0x9F b → Tail c → Char (0xED ∷ b ∷ c ∷ [])
  three_EE : {a b c : ℕ} → Octet 0xEE 0xEF a → Tail b → Tail c → Char (a ∷ b ∷ c ∷ [])
  -- UTF8-4 = %xF0 %x90-BF 2( UTF8-tail ) / %xF1-F3 3( UTF8-tail ) / %xF4 %x80-8F 2( UTF8-tail )
  four_F0 : {b c d : ℕ} → Octet 0x90 0xBF b → Tail c → Tail d → Char (0xF0 ∷ b ∷ c ∷ d ∷ [])
  four_F1 : {a b c d : ℕ} → Octet 0xF1 0xF3 a → Tail b → Tail c → Tail d → Char (a ∷ b ∷ c ∷ d ∷ [])
  four_F4 : {b c d : ℕ} → Octet 0x80 0x8F b → Tail c → Tail d → Char (0xF4 ∷ b ∷ c ∷ d ∷ [])

-- UTF8-octets = *( UTF8-char )
pub data Utf8 : List ℕ → Type 0 where
  none : Utf8 []
  char : {c l : List ℕ} → Char c → Utf8 l → Utf8 (c ++ l)
