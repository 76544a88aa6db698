-- A print of a name: a number by which most names that differ are told apart without looking at their bytes.
-- Assumes nothing.
use Rattle.std.specs.Prelude.{ℕ, ◌+◌, ◌*◌, ◌%◌, List, [], ◌∷◌}
use Rattle.archive.specs.Archive.{Name, under, alone}

-- a number and one byte more
unfoldable pub mixed : ℕ → ℕ → ℕ
mixed h b = (h % 4_294_967_296 * 31 + b) % 4_294_967_296

abbrev pub folded : ℕ → List ℕ → ℕ
folded h [] = h
folded h (b ∷ l) = folded (mixed h b) l

unfoldable pub print_of : Name → ℕ
print_of (under k) = folded (folded k.kind k.pubkey) k.text
print_of (alone i) = folded 0 i
