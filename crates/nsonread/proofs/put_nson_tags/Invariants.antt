-- `put_nson_tags` writes the tags one after the other: a count, then the elements. The invariant: what is left to write
-- is the text of the tags left.
-- A turn is one law of `Writing`; a tag's items end less than 16,712,192 bytes behind its bracket, so no place passes a
-- word.
use Prim.Native.Nat.{◌+◌, ◌*◌, ◌-◌, ◌≤◌}
use Rattle.buffer.proofs.Laws.{Left}
use Rattle.nsonwalk.specs.inner.Walk.{tags_place}
use Rattle.nsonread.specs.inner.Copy.{nson_tags_text}
use Rattle.nsonread.proofs.put_nson_tags.Given as goal

abbrev pub invariant-loop : goal.invariant-loop
invariant-loop l = let n = l.fn.w.sizes.tags in record {
  counts : l.count_at + 1022 * (n - l.counter) ≤ 328 + 1022 * n;
  room : l.place + 16712192 * (n - l.counter) ≤ tags_place l.fn.w + 16712192 * n;
  left : Left l.initial.out l.at (nson_tags_text n l.s 328 (tags_place l.fn.w)) l.out l.o (nson_tags_text (n - l.counter) l.s l.count_at l.place);
}
