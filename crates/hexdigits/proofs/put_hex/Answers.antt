-- `put_hex` writes all the digits where they fit, and else as many as there is room for.
-- `hexes_cut`: what is behind the buffer's end does not matter.
use Prim.Native.Nat.{◌-◌, ◌/◌, ◌%◌}
use mathlib.Core.Path.{◌≡◌}
use native.Mathlib.Omega.{arith}
use lib.ListN.{length, get_or, length-take}
use Rattle.buffer.proofs.Laws.{full}
use Rattle.hexdigits.proofs.Turn.{hexes_cut}
use Rattle.hexdigits.proofs.put_hex.Goals as goal

pub returns-then-out-at : goal.returns-then-out-at
returns-then-out-at c = full c.if-out-at.true

pub slice_bounds-hex_all-end : goal.slice_bounds-hex_all-end
slice_bounds-hex_all-end c = simp length-take (omega arith)

pub hex_all-o-requires : goal.hex_all-o-requires
hex_all-o-requires c = simp length-take (omega arith)

pub returns : goal.returns
returns c =
    let a = c.args in
    let room = (length a.out.now - a.at) / 2 in
    let b = get_or a.s.now room 0 in
    let upper : b / 16 % 16 ≡ b / 16 = omega (arith, c.type_inv.s room) in
    let digit = rw (c.digit_of.ensures, upper) at c.put_byte.ensures in
    hexes_cut a.s.now room (omega arith) (omega arith) c.hex_all-o.ensures digit
