use Rattle.std.proofs.Math.Nat.{sub-zero}
use native.Mathlib.Omega.{arith}
use Prim.Native.Nat.{◌+◌, ◌-◌}
use mathlib.Core.Path.{◌≡◌, refl, sym, ◌∙◌}
use Rattle.buffer.proofs.Laws.{start, part, done, also, same}
use Rattle.escape.specs.inner.Which.{byte_of}
use Rattle.notepack.proofs.Again.{texts_turn, texts_left}
use Rattle.jsontags.proofs.Turns.{strings_turn, strings_left}
use Rattle.jsontags.proofs.put_strings.Goals as goal

pub loop-n-init : goal.loop-n-init
loop-n-init c = rw sub-zero (start, refl)

pub loop-n-preserved : goal.loop-n-preserved
loop-n-preserved c =
    let q = c.loop-n in
    let a = c.args in
    let r = c.part_again-next.ensures in
    let left = also (strings_turn (byte_of a.k) a.s.now (c.args.count - q.n) q.i (omega arith) r.part_value r.next_value) q.invariant.0 in
    let one : c.args.count - (q.n + 1) ≡ c.args.count - q.n - 1 = omega arith in
    rw one (part (part left c.put_quoted-o.ensures) c.put_comma-o.ensures, q.invariant.1 ∙ (texts_turn a.s.now (c.args.count - q.n) q.i (omega arith) r.part_value r.next_value).1)

pub shape_of-out : goal.shape_of-out
shape_of-out c = same c.loop-n.invariant.0

pub returns : goal.returns
returns c =
    let q = c.loop-n in
    let a = c.args in
    record {
      wrote = done (also (strings_left (byte_of a.k) a.s.now (c.args.count - q.n) q.i (omega arith)) q.invariant.0);
      next_value = sym (q.invariant.1 ∙ (texts_left a.s.now (c.args.count - q.n) q.i (omega arith)).1);
    }
