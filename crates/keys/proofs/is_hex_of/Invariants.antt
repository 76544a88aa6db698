-- `is_hex_of` compares a text with the hex of bytes, two digits for each. The invariant is one equation: the answer is
-- that for what is left of both.
-- Each turn and each end is one law of `Loops`; a slice's numbers are bytes.
use Rattle.std.proofs.Common.{◌≡◌, drop}
use Rattle.hexdigits.specs.Hex.{hexes}
use Rattle.scan.specs.Compare.{same_bytes}
use Rattle.keys.proofs.is_hex_of.Given as goal

abbrev pub invariant-loop-b : goal.invariant-loop-b
invariant-loop-b l = same_bytes (hexes l.a) l.t ≡ same_bytes (hexes (drop l.b-index l.a)) l.rest
