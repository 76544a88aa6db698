-- The text that an escaped text stands for; `proofs/TextLaws` shows that escaping comes back by it. Assumes nothing.
use Rattle.std.specs.Prelude.{ℕ, Bool, true, false, List, [], ◌∷◌, eqb}
use Rattle.scan.specs.Choice.{pick}

-- the byte that a letter behind a backslash stands for
unfoldable pub meaning : ℕ → ℕ
meaning c =
    pick (eqb c 0x6E) 0x0A
    (pick (eqb c 0x72) 0x0D (pick (eqb c 0x74) 0x09 (pick (eqb c 0x62) 0x08 (pick (eqb c 0x66) 0x0C c))))

-- the text that an escaped text stands for; `after` says that a backslash stands before
unfoldable pub plain_from : Bool → List ℕ → List ℕ
plain_from after [] = []
plain_from true (c ∷ l) = meaning c ∷ plain_from false l
plain_from false (b ∷ l) = pick (eqb b 0x5C) (plain_from true l) (b ∷ plain_from false l)

unfoldable pub plain : List ℕ → List ℕ
plain l = plain_from false l
