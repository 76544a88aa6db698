-- What was read once is read again from its place: the texts and tags of a form are what its pointers name, entry by
-- entry, and the turns of the loops that go over them.
-- By the laws of reads of eight bytes: each value is what the word at its place names.
use Prim.Native.Nat.{ℕ, zero, suc, ◌+◌, ◌*◌, ◌-◌, ◌<◌, ◌≤◌}
use mathlib.Core.Path.{◌≡◌, refl, sym, ap, ◌∙◌}
use mathlib.Core.List.{List, [], ◌∷◌, map}
use native.Mathlib.Numerals.{sub-one}
use native.Mathlib.Omega.{arith}
use lib.ListN.{length}
use Rattle.scan.specs.Choice.{shown, refused, Read, read, many}
use Rattle.scan.proofs.Reading.{read_same, shown_gives}
use Rattle.scan.proofs.Many.{after}
use Rattle.notepack.specs.declared.Part.{Part}
use Rattle.notepack.specs.Unpack.{bytes_of}
use Rattle.notepack.specs.Views.{nth}
use Rattle.pointer.specs.Pointer.{word_at, named, entries_in, pointed_text_at, tag_table_at, pointed_tag_at}
use Rattle.pointer.specs.Named.{each_from, part_named, parts_from, tag_named}
use Rattle.pointer.specs.inner.Again.{texts_from, tags_from}
use Rattle.pointer.proofs.Items.{Good, many_each, many_good_each, each_count, each_nth, each_none}
use Rattle.pointer.proofs.Pieces.{text_gives, tag_table_gives}

module _ (s : List ℕ) where
  -- ---- how many

  pub texts_count : (n at : ℕ) → length (texts_from n s at) ≡ n
  unfolding texts_from
  texts_count = each_count (λ (i : ℕ). bytes_of s (part_named s i))

  pub tags_count : (n at : ℕ) → length (tags_from n s at) ≡ n
  unfolding tags_from
  tags_count = each_count (λ (i : ℕ). texts_from (entries_in (part_named s i)) s (part_named s i).at)

  -- ---- the turns of the loops

  pub texts_turn : (left at : ℕ) {p : Part} → 0 < left → p ≡ named (word_at s at) → texts_from left s at ≡ bytes_of s p ∷ texts_from (left - 1) s (at + 8)
  unfolding texts_from each_from
  texts_turn zero at h e = absurd (omega arith)
  texts_turn (suc left) at h e = rw (e, sub-one)

  pub texts_left : (left at : ℕ) → left ≤ 0 → texts_from left s at ≡ []
  unfolding texts_from each_from
  texts_left zero at h = refl
  texts_left (suc left) at h = absurd (omega arith)

  pub tags_turn : (left at : ℕ) {p : Part} → 0 < left → p ≡ named (word_at s at)
      → tags_from left s at ≡ texts_from (entries_in p) s p.at ∷ tags_from (left - 1) s (at + 8)
  unfolding tags_from each_from
  tags_turn zero at h e = absurd (omega arith)
  tags_turn (suc left) at h e = rw (e, sub-one)

  pub tags_left_lem : (left at : ℕ) → left ≤ 0 → tags_from left s at ≡ []
  unfolding tags_from each_from
  tags_left_lem zero at h = refl
  tags_left_lem (suc left) at h = absurd (omega arith)

  -- ---- the bytes of the parts

  pub parts_texts : (n at : ℕ) → map (bytes_of s) (parts_from n s at) ≡ texts_from n s at
  unfolding each_from texts_from
  parts_texts zero at = refl
  parts_texts (suc n) at = ap (λ (l : List (List ℕ)). bytes_of s (part_named s at) ∷ l) (parts_texts n (at + 8))

  pub parts_tags : (n at : ℕ) → map (map (bytes_of s)) (each_from (tag_named s) n at) ≡ tags_from n s at
  unfolding each_from tags_from
  parts_tags zero at = refl
  parts_tags (suc n) at = rw (parts_texts (entries_in (part_named s at)) (part_named s at).at, parts_tags n (at + 8))

  -- ---- what was read

  module _ (version : ℕ) where
    -- a text is the part that its pointer names
    pub text_read_lem : (at : ℕ) (r : Read Part) → pointed_text_at version s at ≡ shown r → (r.value ≡ part_named s at) × (r.next ≡ at + 8)
    text_read_lem at r e = let g = shown_gives (rw e at (text_gives s version at)) in (g.pointed.is, g.next)

    pub texts_read : (n at : ℕ) (r : Read (List Part)) → many (pointed_text_at version s) n at ≡ shown r
        → (r.value ≡ parts_from n s at) × (r.next ≡ at + 8 * n)
    texts_read = many_each (pointed_text_at version s) (part_named s) text_read_lem

    -- a tag is the parts that the pointers of its table name
    pub tag_read : (at : ℕ) (r : Read (List Part)) → pointed_tag_at version s at ≡ shown r → (r.value ≡ tag_named s at) × (r.next ≡ at + 8)
    unfolding pointed_tag_at
    tag_read at r e =
        after (tag_table_at version s at) _ r e
        (λ p t e₁.
        after (many (pointed_text_at version s) (entries_in p) p.at) _ r e₁
        (λ ts u e₂.
        let is = (shown_gives (rw t at (tag_table_gives s version at))).tabled.pointed.is in
        let v = (texts_read (entries_in p) p.at ts u).0 in
        let q = read_same e₂ in
        (sym q.0 ∙ v ∙ ap (λ (x : Part). parts_from (entries_in x) s x.at) is, sym q.1)))

    pub tags_read : (n at : ℕ) (r : Read (List (List Part))) → many (pointed_tag_at version s) n at ≡ shown r
        → (r.value ≡ each_from (tag_named s) n at) × (r.next ≡ at + 8 * n)
    tags_read = many_each (pointed_tag_at version s) (tag_named s) tag_read

    -- where each of n is good, all are shown
    pub texts_good : (n at : ℕ) → ((i : ℕ) → i < n → Good (pointed_text_at version s) (at + 8 * i))
        → many (pointed_text_at version s) n at ≡ read (parts_from n s at) (at + 8 * n)
    texts_good = many_good_each (pointed_text_at version s) (part_named s) text_read_lem

    pub tags_good : (n at : ℕ) → ((i : ℕ) → i < n → Good (pointed_tag_at version s) (at + 8 * i))
        → many (pointed_tag_at version s) n at ≡ read (each_from (tag_named s) n at) (at + 8 * n)
    tags_good = many_good_each (pointed_tag_at version s) (tag_named s) tag_read

    module _ (n at : ℕ) (r : Read (List Part)) (e : many (pointed_text_at version s) n at ≡ shown r) where
      -- the bytes of n texts
      pub texts_again_lem : map (bytes_of s) r.value ≡ texts_from n s at
      texts_again_lem = ap (map (bytes_of s)) (texts_read n at r e).0 ∙ parts_texts n at

      pub texts_length_lem : length r.value ≡ n
      texts_length_lem = ap length (texts_read n at r e).0 ∙ each_count (part_named s) n at

      -- text i, and 19 at 0 where there is none
      pub texts_nth : (i : ℕ) → i < n → nth i r.value ≡ shown (named (word_at s (at + 8 * i)))
      texts_nth i h = ap (nth i) (texts_read n at r e).0 ∙ each_nth (part_named s) i n at h

      pub texts_none : (i : ℕ) → n ≤ i → nth i r.value ≡ refused 19 0
      texts_none i h = ap (nth i) (texts_read n at r e).0 ∙ each_none (part_named s) i n at h

    module _ (n at : ℕ) (r : Read (List (List Part))) (e : many (pointed_tag_at version s) n at ≡ shown r) where
      -- the bytes of n tags
      pub tags_again_lem : map (map (bytes_of s)) r.value ≡ tags_from n s at
      tags_again_lem = ap (map (map (bytes_of s))) (tags_read n at r e).0 ∙ parts_tags n at

      pub tags_length : length r.value ≡ n
      tags_length = ap length (tags_read n at r e).0 ∙ each_count (tag_named s) n at

      -- tag i: what the pointers of the table name that its pointer names
      pub tags_nth : (i : ℕ) → i < n → nth i r.value ≡ shown (tag_named s (at + 8 * i))
      tags_nth i h = ap (nth i) (tags_read n at r e).0 ∙ each_nth (tag_named s) i n at h

      pub tags_none : (i : ℕ) → n ≤ i → nth i r.value ≡ refused 19 0
      tags_none i h = ap (nth i) (tags_read n at r e).0 ∙ each_none (tag_named s) i n at h
