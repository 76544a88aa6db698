-- `put_encoded` writes as many whole groups as there is room for, and then one group more, whatever of it fits.
-- `encoded_cut`: what is behind the buffer's end does not matter.
use mathlib.Core.Path.{refl, sym}
use native.Mathlib.Omega.{arith}
use lib.ListN.{length}
use Rattle.scan.proofs.Step.{rest_whole}
use Rattle.buffer.proofs.Laws.{full}
use Rattle.base64text.proofs.Turns.{threes_fit, encoded_cut}
use Rattle.base64text.proofs.put_encoded.Goals as goal

pub returns-then-out-at : goal.returns-then-out-at
returns-then-out-at c = full c.if-out-at.true

pub slice_bounds-encode_groups-end : goal.slice_bounds-encode_groups-end
slice_bounds-encode_groups-end c =
    let a = c.args in
    sym (threes_fit a.s.now (length a.out.now) a.at _ c.if-out-at.false c.min-groups.ensures).1

pub encode_groups-o-requires : goal.encode_groups-o-requires
encode_groups-o-requires c =
    let a = c.args in
    let f = threes_fit a.s.now (length a.out.now) a.at _ c.if-out-at.false c.min-groups.ensures in
    record { s_len = omega (arith, f.1); s_in_bounds = f.2 }

pub returns : goal.returns
returns c =
    let a = c.args in
    let last = rw (rest_whole a.s.now) at c.encode_group.ensures in
    encoded_cut a.s.now _ _ c.if-out-at.false c.min-groups.ensures refl c.encode_groups-o.ensures last
