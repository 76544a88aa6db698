use Prim.Native.Nat.{◌+◌, ◌-◌}
use mathlib.Core.Path.{◌≡◌, sym, ap, ◌∙◌}
use native.Mathlib.Omega.{arith}
use lib.ListN.{length}
use Rattle.buffer.proofs.Laws.{part, done, also}
use Rattle.escape.specs.Escape.{nson_byte}
use Rattle.notepack.specs.Unpack.{text_of}
use Rattle.notepack.proofs.Again.{texts_turn, texts_left}
use Rattle.jsontags.proofs.Texts.{length_quoted}
use Rattle.jsontags.proofs.Turns.{strings_count, strings_left}
use Rattle.nson.specs.Nson.{escaped_size}
use Rattle.nsonwrite.proofs.Turns.{all_fit_more, all_fit_stops, all_fit_none, words_more, words_none}
use Rattle.nsonwrite.proofs.measure_elements.Goals as goal

pub returns-in_err-n-clause-cases : goal.returns-in_err-n-clause-cases
returns-in_err-n-clause-cases c =
    let q = c.loop-i in
    let r = c.part_again-behind.ensures in
    let t = texts_turn c.args.s.now (c.args.count - q.i) q.next (omega arith) r.part_value r.next_value in
    rw c.from_residual.ensures (q.invariant.0 ∙ all_fit_stops t.0 c.in_err-n.ensures)

pub loop-i-preserved : goal.loop-i-preserved
unfolding escaped_size
loop-i-preserved c =
    let comma = c.comma_len.ensures in
    let n = c.in_ok-n.ensures in
    let q = c.loop-i in
    let s = c.args.s.now in
    let r = c.part_again-behind.ensures in
    let t = texts_turn s (c.args.count - q.i) q.next (omega arith) r.part_value r.next_value in
    let k = strings_count nson_byte s (c.args.count - q.i) q.next (omega arith) r.part_value r.next_value in
    let one : c.args.count - (q.i + 1) ≡ c.args.count - q.i - 1 = omega arith in
    rw one (
      q.invariant.0 ∙ all_fit_more t.0 n.fits,
      part (also (words_more t.0 n.len) q.invariant.1) c.put_word-out.ensures,
      omega (arith, q.invariant.2, k, length_quoted nson_byte (text_of s c.part_again-behind.result.0), n.len, comma.value),
      q.invariant.3 ∙ t.1,
      omega (arith, q.invariant.4, n.short, comma.upper_bound),
    )

pub returns-clause-cases : goal.returns-clause-cases
returns-clause-cases c =
    let q = c.loop-i in
    let s = c.args.s.now in
    let t = texts_left s (c.args.count - q.i) q.next (omega arith) in
    record {
      fit = q.invariant.0 ∙ all_fit_none t.0;
      wrote = done (also (words_none t.0) q.invariant.1);
      len = omega (arith, q.invariant.2, ap length (strings_left nson_byte s (c.args.count - q.i) q.next (omega arith)));
    }

pub returns-clause-next_value : goal.returns-clause-next_value
returns-clause-next_value c =
    let q = c.loop-i in
    sym (q.invariant.3 ∙ (texts_left c.args.s.now (c.args.count - q.i) q.next (omega arith)).1)
