-- `add` takes a piece in. Where nothing waits it is settled as it is (`none_waits`). A piece that stays within its
-- block waits there (`short_piece`); of any other the first bytes end the block and the rest is settled
-- (`rest_settled`).
use Rattle.std.proofs.Common.{◌≡◌, length, ◌∙◌, arith, rules}
use Rattle.sha256.proofs.Filling.{is_long, not_long, none_waits, short_piece, rest_settled}
use Rattle.sha256.proofs.add.Goals as goal

pub returns-then-is_too_long : goal.returns-then-is_too_long
returns-then-is_too_long c = is_long _ _ _ c.is_too_long.ensures c.if-is_too_long.true

pub overflow_add-count : goal.overflow_add-count
overflow_add-count c = omega (arith, (not_long c.args.s c.args.piece.now _ c.is_too_long.ensures c.if-is_too_long.false).1)

pub returns-then-waits-eq0 : goal.returns-then-waits-eq0
returns-then-waits-eq0 c =
    let fits = not_long c.args.s c.args.piece.now _ c.is_too_long.ensures c.if-is_too_long.false in
    rw fits.0 (c.settle.ensures ∙ none_waits c.args.s c.args.piece.now c.if-waits-eq0.true)

pub returns-then-piece-room : goal.returns-then-piece-room
returns-then-piece-room c =
    let long : length c.args.s.pending ≡ 64 = search rules in
    let fits = not_long c.args.s c.args.piece.now _ c.is_too_long.ensures c.if-is_too_long.false in
    rw fits.0 (short_piece c.args.s c.args.piece.now long _ c.if-piece-room.true c.block_of.ensures)

pub returns : goal.returns
returns c =
    let s = c.args.s in
    let p = c.args.piece.now in
    let long : length s.pending ≡ 64 = search rules in
    let fits = not_long s p _ c.is_too_long.ensures c.if-is_too_long.false in
    let block = rw c.split_at.ensures.front at c.block_of-block.ensures in
    rw fits.0 (rest_settled s p long _ _ _ _ c.if-piece-room.false block c.whole_blocks.ensures c.split_at.ensures.back c.settle-2.ensures)
