use Rattle.std.proofs.Common.{arith, rules}
use Rattle.sha256.proofs.Turns.{words_turn, chunk_word, words_done}
use Rattle.sha256.proofs.load.Goals as goal

pub loop-t-preserved : goal.loop-t-preserved
loop-t-preserved c =
    let q = c.loop-t in
    let f = c.as_chunks.ensures in
    let word = chunk_word c.args.block.now _ _ q.t f.front (omega (arith, f.front_len, c.loop-t-test.true)) c.word_of.ensures in
    words_turn _ _ q.t _ c.requires (search rules) (omega (arith, f.front_len, c.requires, c.loop-t-test.true)) q.invariant word

pub returns : goal.returns
returns c = words_done _ _ c.loop-t.t c.requires (omega (arith, c.as_chunks.ensures.front_len, c.requires, c.loop-t-test.false)) c.loop-t.invariant
