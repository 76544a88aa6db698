-- `load` stores the block's words. The invariant: those stored so far, and those of the bytes that are left, are all.
-- Each turn is `words_turn`, the end `words_done`.
use Rattle.std.proofs.Common.{◌≡◌, ◌*◌, ◌++◌, take, drop}
use Rattle.sha256.specs.Compression.{words_of}
use Rattle.sha256.proofs.load.Given as goal

abbrev pub invariant-loop-t : goal.invariant-loop-t
invariant-loop-t l = take l.t l.w ++ words_of (drop (4 * l.t) l.block) ≡ words_of l.block
