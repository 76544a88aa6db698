-- The escapings of texts: in the canonical text and in NSON (rules 5 and 6). Assumes nothing.
use Rattle.std.specs.Prelude.{ℕ, ◌≤◌, List, [], ◌∷◌, ◌++◌, eqb}
use Rattle.scan.specs.Choice.{pick}

-- a backslash and a letter
abbrev pub backslashed : ℕ → List ℕ
backslashed c = 0x5C ∷ c ∷ []

-- NSON: 0A 22 5C become \n \" \\, and every other byte stands as it is
unfoldable pub nson_byte : ℕ → List ℕ
nson_byte b = pick (eqb b 0x0A) (backslashed 0x6E) (pick (eqb b 0x22) (backslashed 0x22) (pick (eqb b 0x5C) (backslashed 0x5C) (b ∷ [])))

-- canonical text: also 0D 09 08 0C become \r \t \b \f, and every other byte stands as it is, 01 and 7F included
unfoldable pub canonical_byte : ℕ → List ℕ
canonical_byte b =
    pick (eqb b 0x0D) (backslashed 0x72)
    (pick (eqb b 0x09) (backslashed 0x74) (pick (eqb b 0x08) (backslashed 0x62) (pick (eqb b 0x0C) (backslashed 0x66) (nson_byte b))))

-- a text, byte after byte
unfoldable pub escaped : (ℕ → List ℕ) → List ℕ → List ℕ
escaped f [] = []
escaped f (b ∷ t) = f b ++ escaped f t

-- a byte that NSON can carry: none below 20 other than 0A
pub data Carried : ℕ → Type 0 where
  newline : Carried 0x0A
  other : {b : ℕ} → 0x20 ≤ b → Carried b
