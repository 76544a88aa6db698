-- `put_tag` writes the tag at a place: its table, then its texts. Two writers in a row are one.
use native.Mathlib.Omega.{arith}
use Rattle.buffer.proofs.Laws.{then}
use Rattle.pointwrite.proofs.Turns.{tag_room, tag_wrote, tag_behind, tag_ends}
use Rattle.pointwrite.proofs.put_tag.Goals as goal

pub overflow_mul-texts : goal.overflow_mul-texts
overflow_mul-texts c = let n = c.count_again-count.ensures in omega (arith, tag_room c.args.packed.now.bytes.now c.args.from.next n.count_value n.next_value c.args.from.offset c.requires)

pub overflow_add-texts : goal.overflow_add-texts
overflow_add-texts c = let n = c.count_again-count.ensures in omega (arith, tag_room c.args.packed.now.bytes.now c.args.from.next n.count_value n.next_value c.args.from.offset c.requires)

pub put_text_pointers-pointed-requires : goal.put_text_pointers-pointed-requires
put_text_pointers-pointed-requires c =
    let n = c.count_again-count.ensures in
    tag_room c.args.packed.now.bytes.now c.args.from.next n.count_value n.next_value c.args.from.offset c.requires

pub returns : goal.returns
returns c =
    let s = c.args.packed.now.bytes.now in
    let n = c.count_again-count.ensures in
    let p = c.put_text_pointers-pointed.ensures in
    let t = c.put_texts.ensures in
    record {
      wrote = tag_wrote s c.args.from.next n.count_value n.next_value c.args.from.offset (then p.wrote t);
      offset_value = tag_behind s c.args.from.next n.count_value n.next_value c.args.from.offset p.offset_value;
      next_value = tag_ends s c.args.from.next n.count_value n.next_value p.next_value;
    }
