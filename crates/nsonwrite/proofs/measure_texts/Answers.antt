-- `measure_texts` measures the content and the tags, and writes all descriptors.
-- Four writers in a row are one.
use native.Mathlib.Omega.{arith}
use Rattle.buffer.proofs.Laws.{then}
use Rattle.buffer.proofs.Places.{ends}
use Rattle.nsonwrite.proofs.Turns.{texts_all_fit, content_misfit, tags_misfit, texts_length_lem, counts_wrote}
use Rattle.nsonwrite.proofs.measure_texts.Goals as goal

pub returns-in_err-n-clause-cases : goal.returns-in_err-n-clause-cases
returns-in_err-n-clause-cases c = let a = c.args in rw c.from_residual.ensures (content_misfit a.s.now a.h c.in_err-n.ensures)

pub returns-in_err-tags-clause-cases : goal.returns-in_err-tags-clause-cases
returns-in_err-tags-clause-cases c =
    let a = c.args in
    rw c.from_residual-in_err-tags.ensures (tags_misfit a.s.now a.h c.in_ok-n.ensures.fits c.in_err-tags.ensures.cases)

pub returns-clause-bounds : goal.returns-clause-bounds
returns-clause-bounds c =
    let w = then (then (then c.put_byte-a.ensures c.put_word-b.ensures) c.put_byte-c.ensures) c.in_ok-tags.ensures.cases.wrote in
    let most = (ends w).most in
    omega (arith, c.well_formed, c.in_ok-n.ensures.short, c.in_ok-tags.ensures.len_bound)

pub returns-clause-cases : goal.returns-clause-cases
returns-clause-cases c =
    let a = c.args in
    let n = c.in_ok-n.ensures in
    let t = c.in_ok-tags.ensures.cases in
    let w = then (then (then c.put_byte-a.ensures c.put_word-b.ensures) c.put_byte-c.ensures) t.wrote in
    record {
      fit = texts_all_fit a.s.now a.h n.fits t.fit;
      wrote = counts_wrote a.s.now a.h c.decimal_len-kind.ensures.value n.len w;
      len = texts_length_lem a.s.now a.h n.len t.len;
    }
