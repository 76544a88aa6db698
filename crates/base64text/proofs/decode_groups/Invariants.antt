-- `decode_groups` turns four characters into three bytes a turn. The invariant: what is left to write is the decoding
-- of the characters that are left, whole groups, and there is room for it.
-- A turn is `decode_turn` and three stores.
use Rattle.std.proofs.Common.{◌+◌, ◌*◌, ◌/◌, ◌%◌, ◌≤◌, ◌≡◌, length}
use Rattle.buffer.proofs.Laws.{Left}
use Rattle.base64text.specs.Base64.{decoded}
use Rattle.base64text.proofs.decode_groups.Given as goal

abbrev pub invariant-loop-left : goal.invariant-loop-left
invariant-loop-left l =
    (length l.left % 4 ≡ 0)
    × (l.o + length l.left / 4 * 3 ≤ length l.out)
    × Left l.initial.out l.at (decoded l.t) l.out l.o (decoded l.left)

abbrev pub decreases-loop-left : goal.decreases-loop-left
decreases-loop-left l = length l.left
