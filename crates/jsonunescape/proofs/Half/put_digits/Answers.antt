use Rattle.std.proofs.Common.{List, ◌∷◌, [], ℕ, ◌+◌, drop, unwrap_or, ap, sym, ◌∙◌}
use Rattle.scan.proofs.Step.{rest_none, rest_more}
use Rattle.buffer.proofs.Laws.{part, also, done}
use Rattle.hexdigits.specs.Hex.{unhex}
use Rattle.jsonunescape.specs.inner.Half.{held, half_behind}
use Rattle.jsonunescape.proofs.Parts.{held_append, held_end, behind_more, behind_end, with_half}
use Rattle.jsonunescape.proofs.Half.put_digits.Goals as goal

pub loop-b-preserved : goal.loop-b-preserved
loop-b-preserved c =
    let q = c.loop-b in
    let r = rest_more c.args.t.now q.b-index c.loop-b-test.true in
    let h = unwrap_or q.half.value 16 in
    let d = c.put_digit-half.ensures in
    let rest = drop (q.b-index + 1) c.args.t.now in
    let left = also (ap (λ (l : List ℕ). unhex (held h l)) r ∙ held_append h (_ ∷ []) rest) q.invariant.left in
    record {
      left = with_half _ _ _ d.value_value (part left d.wrote);
      behind = q.invariant.behind ∙ ap (half_behind h) r ∙ behind_more h _ _ ∙ ap (λ (k : ℕ). half_behind k rest) (sym d.value_value);
    }

pub returns-clause-wrote : goal.returns-clause-wrote
returns-clause-wrote c =
    let q = c.loop-b in
    let n = rest_none c.args.t.now q.b-index c.loop-b-test.false in
    let h = unwrap_or q.half.value 16 in
    done (also (ap (λ (l : List ℕ). unhex (held h l)) n ∙ held_end h) q.invariant.left)

pub returns-clause-value_value : goal.returns-clause-value_value
returns-clause-value_value c =
    let q = c.loop-b in
    let n = rest_none c.args.t.now q.b-index c.loop-b-test.false in
    sym (q.invariant.behind ∙ ap (half_behind _) n ∙ behind_end _)
