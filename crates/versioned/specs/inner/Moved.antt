-- A refusal of the bare bytes told of the bytes given: behind a version byte the place is one further on where the
-- number is one of the notepack reader's; 11 names a length, and 17, 19, 22, 23, 29 and 34 no place of the input.
-- `proofs/Moving` shows that this is `behind`. Assumes nothing.
use Rattle.std.specs.Prelude.{ℕ, ◌+◌, Bool, leb, ltb, eqb}
use Rattle.scan.specs.Choice.{pick, Answer, shown, refused}

-- the reader's numbers: 1 to 10, and 24
unfoldable pub is_readers : ℕ → Bool
is_readers n = pick (leb n 10) (leb 1 n) (eqb n 24)

-- no place behind a version byte passes 65,536
unfoldable pub moved_place : Bool → ℕ → ℕ → ℕ
moved_place bare n p = pick bare p (pick (is_readers n) (pick (ltb p 65_536) (p + 1) p) p)

abbrev pub moved : {A : Type 0} → Bool → Answer A → Answer A
moved bare (shown a) = shown a
moved bare (refused n p) = refused n (moved_place bare n p)
