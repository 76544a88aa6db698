-- Whether NSON can carry a text, decided by a count; `QuotedLaws.nson_text_lem` shows that `nson_text` is
-- `All Carried`. Assumes nothing.
use Rattle.std.specs.Prelude.{ℕ, ◌+◌, Bool, List, [], ◌∷◌, ltb, eqb}
use Rattle.scan.specs.Choice.{pick}

-- 1 for a byte that NSON can't carry
unfoldable pub is_uncarried : ℕ → ℕ
is_uncarried b = pick (ltb b 0x20) (pick (eqb b 0x0A) 0 1) 0

unfoldable pub controls : List ℕ → ℕ
controls [] = 0
controls (b ∷ t) = is_uncarried b + controls t

-- whether NSON can carry the text
unfoldable pub nson_text : List ℕ → Bool
nson_text t = eqb (controls t) 0
