use Prim.Native.Nat.{◌+◌, ◌-◌}
use mathlib.Core.Path.{◌≡◌, refl, ap, ◌∙◌}
use native.Mathlib.Omega.{arith}
use lib.ListN.{length}
use Rattle.scan.proofs.AllLaws.{all_places}
use Rattle.buffer.proofs.Laws.{part, done, also}
use Rattle.escape.specs.Escape.{nson_byte}
use Rattle.notepack.proofs.Again.{texts_count, tags_turn, tags_left_lem, count_few}
use Rattle.jsontags.proofs.Turns.{arrays_count, arrays_left}
use Rattle.nsonwrite.proofs.Turns.{tags_fit_more, tags_fit_stops, tags_fit_none, counts_more, counts_none}
use Rattle.nsonwrite.proofs.measure_tags.Goals as goal

pub overflow_cast-n : goal.overflow_cast-n
overflow_cast-n c =
    let s = c.args.s.now in
    let bytes = all_places s (λ i. omega (arith, c.type_inv.s i)) in
    omega (arith, c.count_again-n.ensures.count_value, count_few s bytes c.loop-i.next)

pub returns-in_err-elements-clause-cases : goal.returns-in_err-elements-clause-cases
returns-in_err-elements-clause-cases c =
    let q = c.loop-i in
    let r = c.count_again-n.ensures in
    let t = tags_turn c.args.s.now (c.args.count - q.i) q.next (omega arith) r.count_value r.next_value refl in
    rw c.from_residual.ensures (q.invariant.0 ∙ tags_fit_stops t c.in_err-elements.ensures.cases)

pub loop-i-preserved : goal.loop-i-preserved
loop-i-preserved c =
    let elements = c.in_ok-elements.ensures in
    let q = c.loop-i in
    let s = c.args.s.now in
    let r = c.count_again-n.ensures in
    let left = c.args.count - q.i in
    let t = tags_turn s left q.next (omega arith) r.count_value r.next_value elements.next_value in
    let n = arrays_count nson_byte s left q.next (omega arith) r.count_value r.next_value elements.next_value in
    let one : c.args.count - (q.i + 1) ≡ left - 1 = omega arith in
    rw one (
      q.invariant.0 ∙ tags_fit_more t elements.cases.fit,
      part (part (also (counts_more t (texts_count s _ _)) q.invariant.1) c.put_byte-out.ensures) elements.cases.wrote,
      omega (arith, q.invariant.2, n, elements.cases.len, c.comma_len.ensures.value),
      omega (arith, q.invariant.3, elements.len_bound, c.comma_len.ensures.upper_bound),
    )

pub returns-clause-cases : goal.returns-clause-cases
returns-clause-cases c =
    let q = c.loop-i in
    let s = c.args.s.now in
    let left = c.args.count - q.i in
    let t = tags_left_lem s left q.next (omega arith) in
    record {
      fit = q.invariant.0 ∙ tags_fit_none t;
      wrote = done (also (counts_none t) q.invariant.1);
      len = omega (arith, q.invariant.2, ap length (arrays_left nson_byte s left q.next (omega arith)));
    }
