-- `compare` tells which of two packed events is kept: the refusals of the first come before those of the second.
-- By the laws of `Choosing` for each way it can end; `Marking` says what was read behind `map_err`.
use Rattle.std.proofs.Common.{ap}
use Rattle.std.proofs.lemmas.Result.{err_from_is_err_and}
use Rattle.event.specs.inner.Told.{answer}
use Rattle.rivals.specs.declared.RefusedInput.TheVariants as input
use Rattle.rivals.proofs.Marking.{was_ok, was_err}
use Rattle.rivals.proofs.Choosing.{refused_first, refused_second, told_there}
use Rattle.rivals.proofs.compare.Goals as goal

pub returns-in_err-h : goal.returns-in_err-h
returns-in_err-h c =
    let a = c.args in
    let p = err_from_is_err_and c.from_residual.result c.from_residual.ensures.1 in
    let e = was_err input.First c.read_packed.result c.map_err.ensures.cases c.in_err-h.was in
    rw (p.1, p.2, e.2) (refused_first a.s.now a.t.now _ _ _ c.read_packed.ensures (ap answer e.1))

pub returns-in_err-k : goal.returns-in_err-k
returns-in_err-k c =
    let a = c.args in
    let p = err_from_is_err_and c.from_residual-in_err-k.result c.from_residual-in_err-k.ensures.1 in
    let h = was_ok input.First c.read_packed.result c.map_err.ensures.cases c.in_ok-h.was in
    let e = was_err input.Second c.read_packed-2.result c.map_err-2.ensures.cases c.in_err-k.was in
    rw (p.1, p.2, e.2) (refused_second a.s.now a.t.now _ _ _ _ _ c.read_packed.ensures (ap answer h) c.read_packed-2.ensures (ap answer e.1))

pub returns : goal.returns
returns c =
    let a = c.args in
    let h = was_ok input.First c.read_packed.result c.map_err.ensures.cases c.in_ok-h.was in
    let k = was_ok input.Second c.read_packed-2.result c.map_err-2.ensures.cases c.in_ok-k.was in
    rw c.kept_there.ensures (told_there a.s.now a.t.now _ _ _ _ c.read_packed.ensures (ap answer h) c.read_packed-2.ensures (ap answer k))
