-- Where the bare bytes of an input start, and the numbers that are read of them, with places counted in the bare bytes;
-- a refusal is told of the bytes given. `proofs/Choosing` shows that two of these tell `rivals_given`. Assumes nothing.
use Rattle.std.specs.Prelude.{ℕ, Bool, List, drop}
use Rattle.scan.specs.Choice.{Answer, shown, and_then}
use Rattle.notepack.specs.declared.Head.{Head}
use Rattle.notepack.specs.Views.{numbers_of}
use Rattle.versioned.specs.Versioned.{start_of}
use Rattle.versioned.specs.inner.Moved.{moved}

abbrev pub read_given : Bool → List ℕ → Answer (ℕ × Head)
read_given bare s =
    and_then (start_of bare s) λ k.
    and_then (moved bare (numbers_of (drop k s))) λ h.
    shown (k, h)
