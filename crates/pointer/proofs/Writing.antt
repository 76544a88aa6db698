-- What the writer writes lays out the event, whatever the event.
-- Along the pieces: each stands in the data behind those before it, at the offset that its pointer says.
use Prim.Native.Nat.{ℕ, ◌+◌, ◌*◌, ◌%◌}
use mathlib.Core.Path.{◌≡◌, refl, ◌∙◌}
use mathlib.Core.List.{List, [], ◌∷◌, ◌++◌, append_assoc}
use native.Mathlib.Omega.{arith}
use lib.ListN.{length, length-append}
use Rattle.event.specs.Event.{Tag, Event}
use Rattle.pointer.specs.Layout.{TextTable, TagTable, LaysPointer}
use Rattle.pointer.specs.Written.{filling, padded_text, padded_texts, text_pointers, tag_piece, tag_size, tag_pointers, tag_pieces, tags_offset, pieces_offset, pointer_data, pointer_form}
use Rattle.pointer.proofs.Naming.{stands}
use Rattle.pointer.proofs.Filled.{padded_eights, length_texts, length_tags, length_piece, size_eights}

-- bytes behind some: as many further on
further : (before piece : List ℕ) {o n : ℕ} → length before ≡ o → length piece ≡ n → length (before ++ piece) ≡ o + n
further before piece l k = omega (arith, length-append before piece)

module _ (dat : List ℕ) where
  -- texts that stand one after the other
  texts_stand : (before behind : List ℕ) (o : ℕ) (ts : Tag) → dat ≡ before ++ (padded_texts ts ++ behind) → length before ≡ o → o % 8 ≡ 0
      → TextTable dat ts (text_pointers o ts)
  unfolding padded_text
  texts_stand before behind o [] e l z = TextTable.none
  texts_stand before behind o (t ∷ ts) e l z =
      TextTable.more (stands before t (filling (length t) ++ (padded_texts ts ++ behind)) o (length t) (e ∙ simp append_assoc) l refl z)
      (texts_stand (before ++ padded_text t) behind (o + length (padded_text t)) ts (e ∙ simp append_assoc) (further before (padded_text t) l refl)
      (omega (arith, z, padded_eights t)))

  -- tags that stand one after the other
  tags_stand : (before : List ℕ) (o : ℕ) (ts : List Tag) → dat ≡ before ++ tag_pieces o ts → length before ≡ o → o % 8 ≡ 0 → TagTable dat ts (tag_pointers o ts)
  unfolding tag_piece
  tags_stand before o [] e l z = TagTable.none
  tags_stand before o (t ∷ ts) e l z =
      let first = o + 8 * length t in
      let table = text_pointers first t in
      let others = tag_pieces (o + tag_size t) ts in
      TagTable.more
      (stands before table (padded_texts t ++ others) o (8 * length t) (e ∙ simp append_assoc) l (length_texts first t) z)
      (texts_stand (before ++ table) others first t (e ∙ simp append_assoc) (further before table l (length_texts first t)) (omega arith))
      (tags_stand (before ++ tag_piece o t) (o + tag_size t) ts (e ∙ simp append_assoc) (further before (tag_piece o t) l (length_piece o t))
      (omega (arith, z, size_eights t)))

pub form_lays : (e : Event) → LaysPointer e (pointer_form e)
unfolding pointer_form pointer_data padded_text
form_lays e =
    let o = pieces_offset e in
    let table = tag_pointers o e.tags in
    let pieces = tag_pieces o e.tags in
    let c = padded_text e.content in
    LaysPointer.lays {dat = pointer_data e}
    (stands [] e.content (filling (length e.content) ++ (table ++ pieces)) 0 (length e.content) (simp append_assoc) refl refl refl)
    (stands c table pieces (tags_offset e) (8 * length e.tags) refl refl (length_tags o e.tags) (padded_eights e.content))
    (tags_stand (pointer_data e) (c ++ table) o e.tags (simp append_assoc) (further c table refl (length_tags o e.tags)) (omega (arith, padded_eights e.content)))
