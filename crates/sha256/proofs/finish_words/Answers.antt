-- `finish_words` hashes what waits and the padding. Four writers in a row put both into a buffer of two blocks;
-- `padded` says what then stands there.
use Rattle.std.proofs.Common.{ap, ◌∙◌, arith, length-take, rules}
use Rattle.sha256.specs.Message.{hashed}
use Rattle.sha256.specs.Pieces.{final_words}
use Rattle.sha256.proofs.Filling.{padded}
use Rattle.sha256.proofs.finish_words.Goals as goal

pub slice_bounds-put_bytes-end-4 : goal.slice_bounds-put_bytes-end-4
slice_bounds-put_bytes-end-4 c = simp length-take (omega arith)

pub slice_bounds-buf-end : goal.slice_bounds-buf-end
slice_bounds-buf-end c = (padded c.args.s (search rules) c.put_bytes-a.ensures c.put_byte-b.ensures c.put_bytes-c.ensures c.put_long-d.ensures).within

pub slice_bounds-whole_blocks-end : goal.slice_bounds-whole_blocks-end
slice_bounds-whole_blocks-end c = (padded c.args.s (search rules) c.put_bytes-a.ensures c.put_byte-b.ensures c.put_bytes-c.ensures c.put_long-d.ensures).long

pub returns : goal.returns
unfolding final_words
returns c =
    let text = padded c.args.s (search rules) c.put_bytes-a.ensures c.put_byte-b.ensures c.put_bytes-c.ensures c.put_long-d.ensures in
    c.whole_blocks.ensures ∙ ap (hashed _) text.is
