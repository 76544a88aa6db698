-- The versioned form of a packed event (rules 17): the byte 01, and behind it the bare form. Where the bare bytes of a
-- packed input start, and what is told of them. Assumes nothing.
use Rattle.std.specs.Prelude.{ℕ, ◌+◌, Bool, List, length, drop, leb, eqb}
use Rattle.scan.specs.Choice.{pick, Answer, shown, refused, and_then}
use Rattle.scan.specs.Place.{byte_at}

-- the place behind the version byte: 1 first of all, then 2 for no byte at all, then 25 for another byte than 01
unfoldable pub version_at : List ℕ → Answer ℕ
version_at s =
    pick (leb (length s) 65_536)
    (pick (eqb (length s) 0) (refused 2 0) (pick (eqb (byte_at s 0) 1) (shown 1) (refused 25 0)))
    (refused 1 0)

-- where the bare bytes start: all of a bare input is they
unfoldable pub start_of : Bool → List ℕ → Answer ℕ
start_of bare s = pick bare (shown 0) (version_at s)

-- a refusal of the bytes from place k on, with its place counted in the whole
abbrev pub behind : {A : Type 0} → ℕ → Answer A → Answer A
behind k (shown a) = shown a
behind k (refused n p) = refused n (p + k)

-- What f tells of the bare bytes of an input, with places counted in the bytes given. The caller says whether they are
-- bare.
unfoldable pub given : {A : Type 0} → Bool → (List ℕ → Answer A) → List ℕ → Answer A
given bare f s = and_then (start_of bare s) λ k. behind k (f (drop k s))
