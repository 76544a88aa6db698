-- `put_decoded` writes as many whole groups as there is room for, and then one group more, whatever of it fits.
-- `decoded_cut`: what is behind the buffer's end does not matter.
use mathlib.Core.Path.{refl, sym}
use native.Mathlib.Omega.{arith}
use lib.ListN.{length}
use Rattle.scan.proofs.Step.{rest_whole}
use Rattle.buffer.proofs.Laws.{full}
use Rattle.base64text.proofs.Turns.{fours_fit, decoded_cut}
use Rattle.base64text.proofs.put_decoded.Goals as goal

pub returns-then-out-at : goal.returns-then-out-at
returns-then-out-at c = full c.if-out-at.true

pub slice_bounds-decode_groups-end : goal.slice_bounds-decode_groups-end
slice_bounds-decode_groups-end c =
    let a = c.args in
    sym (fours_fit a.t.now (length a.out.now) a.at _ c.if-out-at.false c.min-groups.ensures).1

pub decode_groups-o-requires : goal.decode_groups-o-requires
decode_groups-o-requires c =
    let a = c.args in
    let f = fours_fit a.t.now (length a.out.now) a.at _ c.if-out-at.false c.min-groups.ensures in
    record { t_len = omega (arith, f.1); t_in_bounds = f.2 }

pub returns : goal.returns
returns c =
    let a = c.args in
    let last = rw (rest_whole a.t.now) at c.decode_group.ensures in
    decoded_cut a.t.now _ _ c.if-out-at.false c.min-groups.ensures refl c.decode_groups-o.ensures last
