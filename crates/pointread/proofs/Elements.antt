-- The questions about tag i are answered from its table, which the pointer 8 × i bytes behind the first one names.
-- By what the outline tells of the form.
use Prim.Native.Nat.{ℕ, ◌+◌, ◌*◌, ◌/◌, ◌≤◌, ◌<◌}
use mathlib.Core.Path.{◌≡◌, refl, sym, ap, ◌∙◌}
use mathlib.Core.List.{List}
use mathlib.Core.Logic.{dite, ◌⊎◌, inl, inr}
use native.Mathlib.Omega.{arith}
use native.Mathlib.Decide.{dec_lt}
use lib.ListN.{length}
use Rattle.scan.specs.Choice.{Answer, shown, refused, and_then}
use Rattle.scan.specs.Bytes.{IsBytes}
use Rattle.scan.proofs.Many.{after, shown_same}
use Rattle.notepack.specs.declared.Part.{Part}
use Rattle.notepack.specs.Views.{nth}
use Rattle.pointer.specs.Pointer.{entries_in, Form, form_at}
use Rattle.pointer.specs.Entries.{pointer_texts, pointer_element}
use Rattle.pointer.specs.Named.{part_named, parts_from, tag_named}
use Rattle.pointer.proofs.Items.{each_count, each_nth, each_none}
use Rattle.pointer.proofs.Words.{word_below}
use Rattle.pointread.specs.inner.Answers.{Fields, fields_of}
use Rattle.pointread.specs.inner.Walk.{tag_table}
use Rattle.pointread.proofs.Asking.{outlined, first, Tagged, form_tagged}

module _ (s : List ℕ) where
  -- ---- the table of tag i

  module _ (i : ℕ) {o : Fields} (e : and_then (form_at s) (λ (f : Form). shown (fields_of f)) ≡ shown o) where
    pub table_found : i < o.tag_count → tag_table i s ≡ shown (part_named s ((first s) + 8 * i))
    unfolding tag_table
    table_found h =
        let f = outlined s o e in
        let g = form_tagged s f.0 f.1 in
        let n = ap (λ (x : Fields). x.tag_count) f.2 in
        let t : nth i f.0.tags ≡ shown (tag_named s ((first s) + 8 * i)) =
        ap (nth i) g.tags ∙ each_nth (tag_named s) i (length f.0.tags) (first s) (omega (arith, n)) in
        rw (f.1, t)

    pub table_none : o.tag_count ≤ i → tag_table i s ≡ refused 19 0
    unfolding tag_table
    table_none h =
        let f = outlined s o e in
        let g = form_tagged s f.0 f.1 in
        let n = ap (λ (x : Fields). x.tag_count) f.2 in
        let t : nth i f.0.tags ≡ refused 19 0 = ap (nth i) g.tags ∙ each_none (tag_named s) i (length f.0.tags) (first s) (omega (arith, n)) in
        rw (f.1, t)

    -- its pointer stands within the input
    pub pointer_fits : i < o.tag_count → (first s) + 8 * i ≤ length s
    pointer_fits h =
        let f = outlined s o e in
        let n = ap (λ (x : Fields). x.tag_count) f.2 in
        omega (arith, n, (form_tagged s f.0 f.1).ends)

  -- ---- what is asked of tag i is asked of its table

  -- a tag is what the pointers of its table name
  tag_parts : (i : ℕ) (f : Form) → Tagged s f
      → (nth i f.tags ≡ shown (tag_named s ((first s) + 8 * i))) ⊎ (nth i f.tags ≡ refused 19 0)
  tag_parts i f g =
      dite (dec_lt i (length f.tags))
      (λ h. inl (ap (nth i) g.tags ∙ each_nth (tag_named s) i (length f.tags) (first s) h))
      (λ h. inr (ap (nth i) g.tags ∙ each_none (tag_named s) i (length f.tags) (first s) (omega (arith, h))))

  by_table : {A : Type 0} (i : ℕ) (g : List Part → Answer A)
      → and_then (form_at s) (λ (f : Form). and_then (nth i f.tags) g)
      ≡ and_then (tag_table i s) (λ (p : Part). g (parts_from (entries_in p) s p.at))
  unfolding tag_table
  by_table i g = go (form_at s) (λ f e. tag_parts i f (form_tagged s f e))
    where
      go : (a : Answer Form) → ((f : Form) → a ≡ shown f → (nth i f.tags ≡ shown (tag_named s ((first s) + 8 * i))) ⊎ (nth i f.tags ≡ refused 19 0))
          → and_then a (λ (f : Form). and_then (nth i f.tags) g)
          ≡ and_then (and_then a (λ (f : Form). and_then (nth i f.tags) (λ _. shown (part_named s ((first s) + 8 * i)))))
          (λ (p : Part). g (parts_from (entries_in p) s p.at))
      go (shown f) law = cases (nth i f.tags) (law f refl)
        where
          cases : (b : Answer (List Part)) → (b ≡ shown (tag_named s ((first s) + 8 * i))) ⊎ (b ≡ refused 19 0)
              → and_then b g ≡ and_then (and_then b (λ _. shown (part_named s ((first s) + 8 * i)))) (λ (p : Part). g (parts_from (entries_in p) s p.at))
          cases b (inl e) = rw e
          cases b (inr e) = rw e
      go (refused n p) law = refl

  module _ (i : ℕ) {p : Part} (e : tag_table i s ≡ shown p) where
    -- the number of texts
    pub texts_table : pointer_texts i s ≡ shown (p.len / 8)
    unfolding pointer_texts
    texts_table = by_table i (λ (t : List Part). shown (length t)) ∙ rw e (ap shown (each_count (part_named s) (entries_in p) p.at))

    -- text j
    pub element_table : (j : ℕ) → j < p.len / 8 → pointer_element i j s ≡ shown (part_named s (p.at + 8 * j))
    unfolding pointer_element
    element_table j h = by_table i (nth j) ∙ rw e (each_nth (part_named s) j (entries_in p) p.at h)

    pub element_none : (j : ℕ) → p.len / 8 ≤ j → pointer_element i j s ≡ refused 19 0
    unfolding pointer_element
    element_none j h = by_table i (nth j) ∙ rw e (each_none (part_named s) j (entries_in p) p.at h)

    -- the place of its pointer is small
    pub place_small : IsBytes s → (j : ℕ) → j < p.len / 8 → p.at + 8 * j < 8_589_934_664
    unfolding tag_table
    place_small bytes j h =
        after (form_at s) _ p e
        (λ f _ e₁.
        after (nth i f.tags) _ p e₁
        (λ t _ e₂.
        let q = sym (shown_same e₂) in
        let at = ap (λ (x : Part). x.at) q in
        let len = ap (λ (x : Part). x.len) q in
        omega (arith, at, len, h, word_below s bytes (first s + 8 * i))))

  -- where there is no tag
  module _ (i : ℕ) {n q : ℕ} (e : tag_table i s ≡ refused n q) where
    pub texts_refused : pointer_texts i s ≡ refused n q
    unfolding pointer_texts
    texts_refused = by_table i (λ (t : List Part). shown (length t)) ∙ rw e

    pub element_refused : (j : ℕ) → pointer_element i j s ≡ refused n q
    unfolding pointer_element
    element_refused j = by_table i (nth j) ∙ rw e

-- where a table or a text stands, or none does
pub ruleset tables = (table_found, table_none)

pub ruleset texts = (texts_table, texts_refused)

pub ruleset elements = (element_table, element_none, element_refused)
