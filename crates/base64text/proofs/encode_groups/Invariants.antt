-- `encode_groups` turns three bytes into four characters a turn. The invariant: what is left to write is the encoding
-- of the bytes that are left, whole groups, and there is room for it.
-- A turn is `encode_turn` and four stores.
use Rattle.std.proofs.Common.{◌+◌, ◌*◌, ◌/◌, ◌%◌, ◌<◌, ◌≤◌, ◌≡◌, ℕ, length, get_or}
use Rattle.buffer.proofs.Laws.{Left}
use Rattle.base64text.specs.Base64.{encoded}
use Rattle.base64text.proofs.encode_groups.Given as goal

abbrev pub invariant-loop-left : goal.invariant-loop-left
invariant-loop-left l =
    (length l.left % 3 ≡ 0)
    × (l.o + length l.left / 3 * 4 ≤ length l.out)
    × Left l.initial.out l.at (encoded l.s) l.out l.o (encoded l.left)
    × ((j : ℕ) → get_or l.left j 0 < 256)

abbrev pub decreases-loop-left : goal.decreases-loop-left
decreases-loop-left l = length l.left
