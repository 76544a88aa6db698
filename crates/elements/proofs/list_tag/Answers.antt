-- `list_tag` lists what is asked for of one tag: it passes some elements, writes some rows and passes the others.
-- By `some_again`, and the ends of three runs, one behind the other.
use Prim.Native.Nat.{◌+◌, ◌-◌}
use mathlib.Core.Path.{◌≡◌, ◌∙◌}
use native.Mathlib.Omega.{arith}
use Rattle.notepack.specs.inner.Again.{texts_end}
use Rattle.elements.proofs.Again.{some_again, ends_two, room_left}
use Rattle.elements.proofs.list_tag.Goals as goal

pub returns : goal.returns
returns c =
    let s = c.args.s.now in
    let count = c.args.count in
    let from = c.args.from in
    let g = c.args.listing in
    let put = c.put_rows-end.ensures in
    let first = c.texts_end-first.ensures in
    let x = c.min-before.ensures in
    let y = c.min-shown.ensures in
    let n = c.min-before.result in
    let m = c.min-shown.result in
    let rest = count - n - m in
    let all : n + (m + rest) ≡ count = omega (arith, x, y) in
    record {
      wrote = rw (some_again s c.args.tag g.room g.skip count from x y, ← first) put.wrote;
      next_value =
          c.texts_end.ensures ∙ rw (put.next_value, first, ends_two s m rest (texts_end n s from), ends_two s n (m + rest) from, all);
      skip_value = omega (arith, x);
      room_value = room_left g.room g.skip count x y;
    }
