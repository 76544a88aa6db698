-- `put_words` writes the 32 bytes of a hash value: eight words, one after the other. By composition.
use Rattle.buffer.proofs.Laws.{then}
use Rattle.sha256.specs.Message.{digest_bytes}
use Rattle.sha256.proofs.put_words.Goals as goal

pub returns : goal.returns
unfolding digest_bytes
returns c =
    let d = then (then (then c.put_word-b.ensures c.put_word-c.ensures) c.put_word-d.ensures) c.put_word-e.ensures in
    then (then (then (then d c.put_word-f.ensures) c.put_word-g.ensures) c.put_word-h.ensures) c.put_word.ensures
