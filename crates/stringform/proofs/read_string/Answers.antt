-- `read_string` refuses as the definition does, test by test; what a text holds is the text behind the prefix, decoded.
-- Each return is the law of its outcome. The text behind the prefix is all of t from there on.
use mathlib.Core.Path.{sym, ap, ◌∙◌}
use lib.ListN.{length}
use Rattle.scan.proofs.Step.{rest_whole}
use Rattle.stringform.specs.StringForm.{itself}
use Rattle.stringform.proofs.Steps.{not_prefixed, prefix_fits, outside, unfinished, holds, tells}
use Rattle.stringform.proofs.read_string.Goals as goal

pub returns-then-not-is_prefixed : goal.returns-then-not-is_prefixed
returns-then-not-is_prefixed c =
    let a = c.args in
    let k = tells itself a.out.now (not_prefixed a.bare a.t.now (sym c.is_prefixed.ensures ∙ c.if-not-is_prefixed.true)) in
    record { result_value = k.0; out_after = k.1 }

pub returns-then-end-t : goal.returns-then-end-t
returns-then-end-t c =
    let a = c.args in
    let p = sym c.is_prefixed.ensures ∙ c.if-not-is_prefixed.false in
    let k = tells itself a.out.now (outside a.bare a.t.now p (ap length c.prefix-prefix.ensures.value) c.alphabet_end-end.ensures c.if-end-t.true) in
    record { result_value = k.0; out_after = k.1 }

pub slice_bounds-text-count : goal.slice_bounds-text-count
slice_bounds-text-count c =
    let p = sym c.is_prefixed.ensures ∙ c.if-not-is_prefixed.false in
    prefix_fits _ _ p (ap length c.prefix-prefix.ensures.value)

pub slice_bounds-text-start : goal.slice_bounds-text-start
slice_bounds-text-start c =
    let p = sym c.is_prefixed.ensures ∙ c.if-not-is_prefixed.false in
    prefix_fits _ _ p (ap length c.prefix-prefix.ensures.value)

pub returns-then-not-ends_whole : goal.returns-then-not-ends_whole
returns-then-not-ends_whole c =
    let a = c.args in
    let p = sym c.is_prefixed.ensures ∙ c.if-not-is_prefixed.false in
    let h = rw (rest_whole a.t.now) at (sym c.ends_whole.ensures ∙ c.if-not-ends_whole.true) in
    let k = tells itself a.out.now (unfinished a.bare a.t.now p (ap length c.prefix-prefix.ensures.value) c.alphabet_end-end.ensures c.if-end-t.false h) in
    record { result_value = k.0; out_after = k.1 }

pub returns : goal.returns
returns c =
    let a = c.args in
    let p = sym c.is_prefixed.ensures ∙ c.if-not-is_prefixed.false in
    let h = rw (rest_whole a.t.now) at (sym c.ends_whole.ensures ∙ c.if-not-ends_whole.false) in
    let k = holds a.bare a.t.now p (ap length c.prefix-prefix.ensures.value) c.alphabet_end-end.ensures c.if-end-t.false h in
    record {
      result_value = rw k (rw (rest_whole a.t.now) at c.read_all.ensures.result_value);
      out_after = rw k (rw (rest_whole a.t.now) at c.read_all.ensures.out_after);
    }
