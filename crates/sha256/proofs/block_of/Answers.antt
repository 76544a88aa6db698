-- `block_of` puts two parts into a block of zeros: they stand at its start, and the zeros behind them stay.
use Rattle.std.proofs.Common.{◌≤◌, ◌++◌, length, arith, length-append}
use Rattle.buffer.proofs.Laws.{then}
use Rattle.sha256.proofs.Filling.{block_filled}
use Rattle.sha256.proofs.block_of.Goals as goal

pub returns : goal.returns
returns c =
    let a = c.args in
    let h : length (a.front.now ++ a.piece.now) ≤ 64 = simp length-append (omega arith) in
    block_filled (then c.put_bytes-a.ensures c.put_bytes.ensures) h
