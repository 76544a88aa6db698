-- `measure_tag` measures the tag at a place: its table, then its texts. It has at most 255 texts.
use native.Mathlib.Omega.{arith}
use Rattle.notepack.proofs.Again.{count_most}
use Rattle.pointwrite.proofs.Turns.{tag_table_lem, tag_sized, tag_ends}
use Rattle.pointwrite.proofs.measure_tag.Goals as goal

pub overflow_mul-table : goal.overflow_mul-table
overflow_mul-table c =
    let a = c.args in
    omega (arith, c.count_again-count.ensures.count_value, count_most a.packed.now.bytes.now a.at)

pub measure_texts-texts-requires : goal.measure_texts-texts-requires
measure_texts-texts-requires c =
    let a = c.args in
    omega (arith, c.count_again-count.ensures.count_value, count_most a.packed.now.bytes.now a.at)

pub overflow_add-result : goal.overflow_add-result
overflow_add-result c =
    let a = c.args in
    omega (arith, c.count_again-count.ensures.count_value, count_most a.packed.now.bytes.now a.at, c.measure_texts-texts.ensures.len_bound)

pub returns : goal.returns
returns c =
    let a = c.args in
    let n = c.count_again-count.ensures in
    let m = c.measure_texts-texts.ensures in
    record {
      table_value = tag_table_lem a.packed.now.bytes.now a.at n.count_value;
      len_value = tag_sized a.packed.now.bytes.now a.at n.count_value n.next_value m.len_value;
      next_value = tag_ends a.packed.now.bytes.now a.at n.count_value n.next_value m.next_value;
      len_bound = omega (arith, n.count_value, count_most a.packed.now.bytes.now a.at, m.len_bound);
    }
