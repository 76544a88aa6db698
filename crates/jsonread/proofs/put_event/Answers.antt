-- `put_event` writes the seven fields in the order of the strict form.
-- Nine writers in a row are one; content and tags are two writers each.
use Rattle.buffer.proofs.Laws.{then, kept}
use Rattle.jsonread.specs.inner.Copy.{fields_text}
use Rattle.jsonread.proofs.put_event.Goals as goal

pub returns : goal.returns
unfolding fields_text
returns c =
    let tags = then c.put_varint-i.ensures c.put_json_tags.ensures in
    let content = then c.put_varint-g.ensures c.put_text_spot-h.ensures in
    let ids = then (then c.put_hex_spot-a.ensures c.put_hex_spot-b.ensures) c.put_hex_spot-c.ensures in
    then (then (then (then ids c.put_varint-d.ensures) c.put_varint-e.ensures) content) tags

pub shape_of-out : goal.shape_of-out
shape_of-out c = kept (returns c)
