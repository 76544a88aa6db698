-- `put_spelled_unhex` writes a byte for each two digits of the text: what is left is behind the half that is read.
-- A turn writes a run, by `unhex_run`, and an escape, by `unhex_escape`; the half that is left over goes on.
use Rattle.std.proofs.Common.{◌-◌, length, drop, unwrap_or}
use Rattle.buffer.proofs.Laws.{Left}
use Rattle.hexdigits.specs.Hex.{unhex}
use Rattle.jsontext.specs.inner.Escape.{unescape}
use Rattle.jsonunescape.specs.inner.Half.{held}
use Rattle.jsonunescape.proofs.put_spelled_unhex.Given as goal

abbrev pub invariant-loop-i : goal.invariant-loop-i
invariant-loop-i l = Left l.initial.out l.at (unhex (unescape l.t)) l.out l.half.at (unhex (held (unwrap_or l.half.value 16) (unescape (drop l.i l.t))))

abbrev pub decreases-loop-i : goal.decreases-loop-i
decreases-loop-i l = length l.t - l.i
