-- The fast look at a spelled string: whether every backslash begins \n or \". Assumes nothing.
use Rattle.std.specs.Prelude.{ℕ, ◌-◌, Bool, List, get_or, drop, eqb}
use Rattle.scan.specs.Choice.{pick}
use Rattle.scan.specs.inner.Blocks.{is_one, neighbours}

-- 1 for a byte b that stands behind a backslash and is neither n nor a quote, and else 0
unfoldable pub odd_of : ℕ → ℕ → ℕ
odd_of p b = pick (eqb p 0x5C) (1 - is_one b 0x6E - is_one b 0x22) 0

-- no such byte in t
unfoldable pub even_pairs : List ℕ → Bool
even_pairs t = eqb (neighbours odd_of (get_or t 0 0) (drop 1 t)) 0
