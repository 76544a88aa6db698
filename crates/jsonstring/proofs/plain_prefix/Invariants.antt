-- `plain_prefix` keeps the least place of a special byte. The invariant: the first of them stands there, or further on.
-- Each turn is `stop_more`; at the end it is the least place, or the whole block.
use Rattle.std.proofs.Common.{◌≡◌, ◌+◌, ◌≤◌, length, drop, min}
use Rattle.scan.specs.inner.Blocks.{before_stop}
use Rattle.jsonstring.specs.inner.Plain.{is_special}
use Rattle.jsonstring.proofs.plain_prefix.Given as goal

abbrev pub invariant-loop-i : goal.invariant-loop-i
invariant-loop-i l = (l.m ≤ length l.block) × (before_stop is_special l.block ≡ min l.m (l.i + before_stop is_special (drop l.i l.block)))
