-- `compare` tells which of two records of either form is kept: the refusals of the first come before those of the
-- second.
-- By the laws of `Choosing` for each way it can end; `Marking` says what was read behind `map_err`.
use Rattle.std.proofs.Common.{sym, ap, ◌∙◌}
use Rattle.std.proofs.lemmas.Result.{err_from_is_err_and}
use Rattle.event.specs.inner.Told.{answer}
use Rattle.rivals.specs.declared.RefusedInput.TheVariants as input
use Rattle.rivals.proofs.Marking.{was_ok, was_err}
use Rattle.versionedrivals.proofs.Choosing.{no_first, no_second, both_read}
use Rattle.versionedrivals.proofs.compare.Goals as goal

pub returns-in_err-k : goal.returns-in_err-k
returns-in_err-k c =
    let a = c.args in
    let p = err_from_is_err_and c.from_residual.result c.from_residual.ensures.1 in
    let e = was_err input.First c.read.result c.map_err.ensures.cases c.in_err-k.was in
    rw (p.1, p.2, e.2) (no_first a.s.now a.bare a.t.now a.second_bare (sym (ap answer e.1) ∙ c.read.ensures))

pub returns-in_err-m : goal.returns-in_err-m
returns-in_err-m c =
    let a = c.args in
    let p = err_from_is_err_and c.from_residual-in_err-m.result c.from_residual-in_err-m.ensures.1 in
    let h = was_ok input.First c.read.result c.map_err.ensures.cases c.in_ok-k.was in
    let e = was_err input.Second c.read-2.result c.map_err-2.ensures.cases c.in_err-m.was in
    rw (p.1, p.2, e.2) (no_second a.s.now a.bare a.t.now a.second_bare (sym (ap answer h) ∙ c.read.ensures) (sym (ap answer e.1) ∙ c.read-2.ensures))

pub returns : goal.returns
returns c =
    let a = c.args in
    let h = was_ok input.First c.read.result c.map_err.ensures.cases c.in_ok-k.was in
    let k = was_ok input.Second c.read-2.result c.map_err-2.ensures.cases c.in_ok-m.was in
    rw (c.kept_there.ensures, c.from.ensures, c.from-2.ensures) (both_read a.s.now a.bare a.t.now a.second_bare (sym (ap answer h) ∙ c.read.ensures) (sym (ap answer k) ∙ c.read-2.ensures))
