use Rattle.std.proofs.Math.Nat.{sub-zero}
use Prim.Native.Nat.{◌+◌, ◌-◌}
use mathlib.Core.Path.{◌≡◌, refl, ap}
use native.Mathlib.Omega.{arith}
use lib.ListN.{length}
use Rattle.escape.specs.Escape.{canonical_byte}
use Rattle.notepack.proofs.Again.{count_most}
use Rattle.jsontags.proofs.Turns.{arrays_count, arrays_left}
use Rattle.canonical.proofs.tags_len.Goals as goal

pub loop-i-init : goal.loop-i-init
loop-i-init c = rw sub-zero (refl, omega arith)

pub elements_len-len-requires : goal.elements_len-len-requires
elements_len-len-requires c =
    omega (arith, c.count_again-texts.ensures.count_value, count_most c.args.packed.now.bytes.now c.loop-i.at)

pub overflow_add-n-in-loop-i-2 : goal.overflow_add-n-in-loop-i-2
overflow_add-n-in-loop-i-2 c =
    omega (arith, c.loop-i.invariant.1, c.args.packed.now.tags_bound, c.elements_len-len.ensures.len_bound, c.comma_len.ensures.upper_bound)

pub loop-i-preserved : goal.loop-i-preserved
loop-i-preserved c =
    let elements = c.elements_len-len.ensures in
    let q = c.loop-i in
    let n = c.args.packed.now.head.tag_count in
    let r = c.count_again-texts.ensures in
    let turn = arrays_count canonical_byte c.args.packed.now.bytes.now (n - q.i) q.at (omega arith) r.count_value r.next_value elements.next_value in
    let one : n - (q.i + 1) ≡ n - q.i - 1 = omega arith in
    rw one (
      omega (arith, q.invariant.0, turn, elements.len_value, c.comma_len.ensures.value),
      omega (arith, q.invariant.1, elements.len_bound, c.comma_len.ensures.upper_bound),
    )

pub returns : goal.returns
returns c =
    let q = c.loop-i in
    let p = c.args.packed.now in
    record {
      value = omega (arith, q.invariant.0, ap length (arrays_left canonical_byte p.bytes.now (p.head.tag_count - q.i) q.at (omega arith)));
      upper_bound = omega (arith, q.invariant.1, p.tags_bound);
    }
