-- `put_padded` writes a part's text and then its filling: two writers in a row are one.
use Rattle.buffer.proofs.Laws.{then}
use Rattle.pointer.specs.Written.{padded_text}
use Rattle.pointwrite.proofs.put_padded.Goals as goal

pub returns : goal.returns
unfolding padded_text
returns c = then c.put_text-o.ensures (rw (← c.text_len.ensures.value) c.put_filling.ensures)
