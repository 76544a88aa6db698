-- `hex_all` stores two digits for each byte. The invariant: what is left to write is the hex of the bytes from i on.
-- A turn opens `hexes` once and stores two bytes; the room is arithmetic on the requirement. The upper half of a byte
-- is below 16.
use Rattle.std.proofs.Common.{◌+◌, ◌*◌, drop}
use Rattle.buffer.proofs.Laws.{Left}
use Rattle.hexdigits.specs.Hex.{hexes}
use Rattle.hexdigits.proofs.hex_all.Given as goal

abbrev pub invariant-loop-i : goal.invariant-loop-i
invariant-loop-i l = Left l.initial.out l.at (hexes l.s) l.out (l.at + 2 * l.i) (hexes (drop l.i l.s))
