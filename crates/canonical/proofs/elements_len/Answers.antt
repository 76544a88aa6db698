use Rattle.std.proofs.Math.Nat.{sub-zero}
use Prim.Native.Nat.{◌+◌, ◌-◌}
use mathlib.Core.Path.{◌≡◌, refl, sym, ap, ◌∙◌}
use native.Mathlib.Omega.{arith}
use lib.ListN.{length}
use Rattle.escape.specs.Escape.{canonical_byte}
use Rattle.notepack.proofs.Again.{texts_turn, texts_left}
use Rattle.jsontags.proofs.Turns.{strings_count, strings_left}
use Rattle.canonical.proofs.elements_len.Goals as goal

pub loop-i-init : goal.loop-i-init
loop-i-init c = rw sub-zero (refl, refl, omega arith)

pub overflow_add-n-in-loop-i : goal.overflow_add-n-in-loop-i
overflow_add-n-in-loop-i c =
    omega (arith, c.loop-i.invariant.2, c.requires, c.comma_len.ensures.upper_bound, c.quoted_len.ensures.upper_bound)

pub loop-i-preserved : goal.loop-i-preserved
loop-i-preserved c =
    let q = c.loop-i in
    let s = c.args.packed.now.bytes.now in
    let r = c.part_again-next.ensures in
    let n = strings_count canonical_byte s (c.args.count - q.i) q.at (omega arith) r.part_value r.next_value in
    let one : c.args.count - (q.i + 1) ≡ c.args.count - q.i - 1 = omega arith in
    rw one (
      omega (arith, q.invariant.0, n, c.comma_len.ensures.value, c.quoted_len.ensures.value),
      q.invariant.1 ∙ (texts_turn s (c.args.count - q.i) q.at (omega arith) r.part_value r.next_value).1,
      omega (arith, q.invariant.2, c.comma_len.ensures.upper_bound, c.quoted_len.ensures.upper_bound),
    )

pub returns : goal.returns
returns c =
    let q = c.loop-i in
    let s = c.args.packed.now.bytes.now in
    record {
      len_value = omega (arith, q.invariant.0, ap length (strings_left canonical_byte s (c.args.count - q.i) q.at (omega arith)));
      next_value = sym (q.invariant.1 ∙ (texts_left s (c.args.count - q.i) q.at (omega arith)).1);
      len_bound = omega (arith, q.invariant.2, c.requires);
    }
