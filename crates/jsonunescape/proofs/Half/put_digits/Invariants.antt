-- `Half::put_digits` writes a byte for each two digits. The invariant: what is left to write are the bytes of the half
-- that is read and of t from here on.
-- A turn takes one digit off by `held_append`.
use Rattle.std.proofs.Common.{◌≡◌, drop, unwrap_or}
use Rattle.buffer.proofs.Laws.{Left}
use Rattle.hexdigits.specs.Hex.{unhex}
use Rattle.jsonunescape.specs.inner.Half.{held, half_behind}
use Rattle.jsonunescape.proofs.Half.put_digits.Given as goal

abbrev pub invariant-loop-b : goal.invariant-loop-b
invariant-loop-b l = record {
  left : Left l.initial.out l.fn.self.at (unhex (held (unwrap_or l.fn.self.value 16) l.t)) l.out l.half.at (unhex (held (unwrap_or l.half.value 16) (drop l.b-index l.t)));
  behind : half_behind (unwrap_or l.fn.self.value 16) l.t ≡ half_behind (unwrap_or l.half.value 16) (drop l.b-index l.t);
}
