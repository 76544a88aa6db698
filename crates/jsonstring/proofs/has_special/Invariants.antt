-- `has_special` asks each byte of a block. The invariant: the answer so far is that of the bytes passed.
use Rattle.std.proofs.Common.{◌≡◌, take}
use Rattle.std.specs.List.{list_any}
use Rattle.jsonstring.specs.inner.Plain.{is_special}
use Rattle.jsonstring.proofs.has_special.Given as goal

abbrev pub invariant-loop-b : goal.invariant-loop-b
invariant-loop-b l = l.any ≡ list_any is_special (take l.b-index l.block)
