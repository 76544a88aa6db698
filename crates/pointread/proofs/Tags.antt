-- A tag by the entry of its table's first word: the first bad word decides where it is one of the tag's; else all is
-- well.
-- By pointer's laws of reads of eight bytes.
use Prim.Native.Nat.{ℕ, ◌+◌, ◌*◌, ◌-◌, ◌/◌, ◌%◌, ◌<◌, ◌≤◌}
use mathlib.Core.Path.{◌≡◌, refl, sym, ap, ◌∙◌}
use mathlib.Core.Bool.{true, false}
use mathlib.Core.List.{List}
use native.Mathlib.Omega.{arith}
use lib.ListN.{length, get_or}
use Rattle.scan.specs.Choice.{Answer, shown, refused, read, many}
use Rattle.scan.proofs.Step.{false_true}
use Rattle.scan.proofs.Reading.{shown_gives}
use Rattle.notepack.specs.declared.Part.{Part}
use Rattle.pointer.specs.Pointer.{word_at, data_size, entries_in, pointed_text, pointed_text_at, tag_table_at}
use Rattle.pointer.specs.Named.{part_named}
use Rattle.pointer.proofs.Items.{Good, good, many_bad, many_good}
use Rattle.pointer.proofs.Pieces.{tag_table_gives}
use Rattle.pointer.proofs.Again.{text_read_lem}
use Rattle.pointread.specs.inner.Tables.{Lies, is_shown, is_good, bad_from, Filled}
use Rattle.pointread.specs.inner.Walk.{pointed_tag}
use Rattle.pointread.proofs.Texts.{inside_lies, as_read}
use Rattle.pointread.proofs.Bad.{bad_least, bad_from_lem, bad_first}

-- an answer is shown, or it is not
shown_so : {A : Type 0} (a : Answer A) → is_shown a ≡ true → (x : A) × (a ≡ shown x)
shown_so (shown x) e = (x, refl)
shown_so (refused n p) e = absurd (false_true e)

shown_not : {A : Type 0} (a : Answer A) → is_shown a ≡ false → (n p : ℕ) × (a ≡ refused n p)
shown_not (shown x) e = absurd (false_true (sym e))
shown_not (refused n p) e = (n, p, refl)

module _ (version : ℕ) (s : List ℕ) where
  -- a word that is good, and one that is not
  word_good : (i : ℕ) → is_good version s i ≡ true → Good (pointed_text_at version s) (72 + 8 * i)
  unfolding is_good
  word_good i e = let x = shown_so (pointed_text version s (72 + 8 * i)) e in good x.0 (as_read version s (72 + 8 * i) x.1)

  word_bad : (i : ℕ) → is_good version s i ≡ false
      → (n p : ℕ) × (pointed_text version s (72 + 8 * i) ≡ refused n p) × (pointed_text_at version s (72 + 8 * i) ≡ refused n p)
  unfolding is_good
  word_bad i e =
      let x = shown_not (pointed_text version s (72 + 8 * i)) e in
      (x.0, x.1, x.2, as_read version s (72 + 8 * i) x.2)

  -- a good text is the part that its pointer names
  good_read : (at : ℕ) → Good (pointed_text_at version s) at → pointed_text_at version s at ≡ read (part_named s at) (at + 8)
  good_read at (good x e) = e ∙ ap (λ (p : Part). read p (at + 8)) (text_read_lem s version at _ e).0

  -- a tag's table lies in the data, at whole words
  pub tag_lies : (at : ℕ) {p : Part} → tag_table_at version s at ≡ shown p → Lies s p × (p.len % 8 ≡ 0)
  tag_lies at e =
      let g = shown_gives (rw e at (tag_table_gives s version at)) in
      (rw g.tabled.pointed.is (inside_lies s (word_at s at) g.tabled.pointed.inside), g.tabled.eights)

  pub tag_from : (at : ℕ) {p : Part} → tag_table_at version s at ≡ shown p → 72 ≤ p.at
  tag_from at e = (tag_lies at e).0.from

  -- and ends within the input
  pub tag_ends : (at : ℕ) {p : Part} → 168 ≤ length s → tag_table_at version s at ≡ shown p → p.at + 8 * (p.len / 8) ≤ length s
  tag_ends at long e = let l = (tag_lies at e).0 in omega (arith, l.from, l.ends)

  -- no table, no tag
  pub tag_unread : (at : ℕ) {n q : ℕ} → tag_table_at version s at ≡ refused n q → pointed_tag version s at ≡ refused n q
  unfolding pointed_tag
  tag_unread at e = rw e

  module _ (at : ℕ) (p : Part) (table : tag_table_at version s at ≡ shown p) where
    -- a tag of no texts, in a v1
    pub tag_none : p.len / 8 ≡ 0 → pointed_tag version s at ≡ shown p
    unfolding pointed_tag many
    tag_none e = rw (table, e)

    module _ (t : List ℕ) (told : Filled version s (data_size s / 8) 0 t) (some : p.len / 8 ≡ 0 → ⊥) where
      abbrev first : ℕ
      first = (p.at - 72) / 8

      -- there is an entry
      pub entry_told : first < length t
      entry_told = let l = tag_lies at table in omega (arith, told.long, l.0.ends, l.0.even, l.1, some)

      entry_is : get_or t first 0 ≡ bad_from version s (data_size s / 8 - first) first
      entry_is = let l = tag_lies at table in told.each first (omega arith) (omega (arith, l.0.ends, l.0.even, l.1, some))

      place : (i : ℕ) → p.at + 8 * i ≡ 72 + 8 * (first + i)
      place i = let l = tag_lies at table in omega (arith, l.0.from, l.0.even)

      goods : (i : ℕ) → first + i < get_or t first 0 → Good (pointed_text_at version s) (p.at + 8 * i)
      goods i h =
          let g = bad_least version s (data_size s / 8 - first) first (first + i) (omega arith) (rw (sym entry_is) h) in
          rw (place i) (word_good (first + i) g)

      -- no bad word
      pub tag_fine : first + p.len / 8 ≤ get_or t first 0 → pointed_tag version s at ≡ shown p
      unfolding pointed_tag
      tag_fine h =
          let e = many_good (pointed_text_at version s) (part_named s) (entries_in p) p.at (λ i l. good_read (p.at + 8 * i) (goods i (omega arith))) in
          rw (table, e)

      -- a bad word
      pub tag_bad : get_or t first 0 < first + p.len / 8 → pointed_tag version s at ≡ pointed_text version s (72 + 8 * get_or t first 0)
      unfolding pointed_tag
      tag_bad h =
          let b = get_or t first 0 in
          let f : first ≤ b = omega (arith, entry_is, bad_from_lem version s (data_size s / 8 - first) first) in
          let l = tag_lies at table in
          let k = bad_first version s (data_size s / 8 - first) first (omega (arith, entry_is, l.0.ends, l.0.even, l.1)) in
          let x = word_bad b (rw (sym entry_is) at k) in
          let i : p.at + 8 * (b - first) ≡ 72 + 8 * b = omega (arith, place (b - first)) in
          let bad : pointed_text_at version s (p.at + 8 * (b - first)) ≡ refused x.0 x.1 = rw i x.3 in
          let e = many_bad (pointed_text_at version s) (b - first) (entries_in p) p.at (omega arith) (λ j m. goods j (omega arith)) bad in
          rw (table, e, x.2)

-- all of it
pub ruleset tables = (tag_unread, tag_none, entry_told, tag_fine, tag_bad, tag_from, tag_ends)
