-- The meaning of the code's answers, and the two numbers that C gets. `Answer` itself is of crate scan. Assumes
-- nothing.
use Rattle.std.specs.Prelude.{ℕ}
use Rattle.scan.specs.Choice.{Answer, shown, refused}

-- The answer of a C entry, refusal and value: 0 and what the entry shows, or the number of refusal and its place.
abbrev pub two_numbers : Answer ℕ → ℕ × ℕ
two_numbers (shown v) = (0, v)
two_numbers (refused n p) = (n, p)
