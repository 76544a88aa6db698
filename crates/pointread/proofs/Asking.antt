-- What an outline tells of its form: the content, and where the tags stand.
-- By pointer's laws of what is read once and again.
use Prim.Native.Nat.{ℕ, ◌+◌, ◌*◌, ◌≤◌}
use mathlib.Core.Path.{◌≡◌, sym, ap, ◌∙◌}
use mathlib.Core.List.{List}
use native.Mathlib.Omega.{arith}
use lib.ListN.{length}
use Rattle.scan.specs.Choice.{Answer, shown, refused, and_then, many}
use Rattle.scan.proofs.Reading.{shown_gives}
use Rattle.scan.proofs.Many.{after, shown_same}
use Rattle.notepack.specs.declared.Part.{Part}
use Rattle.pointer.specs.Pointer.{entries_in, header_at, kind_at, time_at, pointed_text_at, tags_table_at, pointed_tag_at, pointed_tags_at, Form, form_at}
use Rattle.pointer.specs.Named.{each_from, part_named, tag_named}
use Rattle.pointer.proofs.Items.{each_count}
use Rattle.pointer.proofs.Again.{tags_read}
use Rattle.pointread.specs.inner.Answers.{Fields, fields_of}
use Rattle.pointread.proofs.Forms.{tags_tabled, header_long}

-- what follows a form is asked of its outline
pub outlined : (s : List ℕ) (o : Fields) → and_then (form_at s) (λ (f : Form). shown (fields_of f)) ≡ shown o → (f : Form) × (form_at s ≡ shown f) × (fields_of f ≡ o)
outlined s o e = after (form_at s) _ o e (λ f q r. (f, q, shown_same r))

pub unread : {A : Type 0} (s : List ℕ) (g : Form → Answer A) {n p : ℕ} → and_then (form_at s) (λ (f : Form). shown (fields_of f)) ≡ refused n p
    → and_then (form_at s) g ≡ refused n p
unread {A} s g {n} {p} e = go (form_at s) e
  where
    go : (a : Answer Form) → and_then a (λ (f : Form). shown (fields_of f)) ≡ refused n p → and_then a g ≡ refused n p
    go (shown f) e = let z : ◌≡◌ {A = ℕ} 0 1 = cc in absurd (omega arith)
    go (refused m q) e = cc

-- the content
pub content_outline : (s : List ℕ) {o : Fields} → and_then (form_at s) (λ (f : Form). shown (fields_of f)) ≡ shown o
    → and_then (form_at s) (λ (f : Form). shown f.content) ≡ shown o.content
content_outline s {o} e = let f = outlined s o e in rw f.1 (ap (λ (x : Fields). shown x.content) f.2)

-- where the table of the tags starts
abbrev pub first : List ℕ → ℕ
first s = (part_named s 64).at

module _ (s : List ℕ) where
  -- the tags of a form: as many as their table has pointers, and that it ends within the input
  pub record Tagged (f : Form) : Type 0 where
    pub tags : f.tags ≡ each_from (tag_named s) (length f.tags) (first s)
    pub count : length f.tags ≡ entries_in (part_named s 64)
    pub ends : (first s) + 8 * length f.tags ≤ length s

  tags_told : (v : ℕ) (l : List (List Part)) → 168 ≤ length s → pointed_tags_at v s ≡ shown l
      → (l ≡ each_from (tag_named s) (length l) (first s)) × (length l ≡ entries_in (part_named s 64)) × ((first s) + 8 * length l ≤ length s)
  unfolding pointed_tags_at
  tags_told v l long e =
      after (tags_table_at v s) _ l e
      (λ p t e₁.
      after (many (pointed_tag_at v s) (entries_in p) p.at) _ l e₁
      (λ ts u e₂.
      let g = shown_gives (rw t at (tags_tabled v s)) in
      let r = (tags_read s v (entries_in p) p.at ts u).0 in
      let q : l ≡ each_from (tag_named s) (entries_in p) p.at = sym (shown_same e₂) ∙ r in
      let n : length l ≡ entries_in p = ap length q ∙ each_count (tag_named s) (entries_in p) p.at in
      let at : p.at ≡ (first s) = ap (λ (x : Part). x.at) g.pointed.is in
      let len = ap (λ (x : Part). x.len) g.pointed.is in
      (q ∙ rw (n, at), n ∙ ap entries_in g.pointed.is, omega (arith, n, len, g.pointed.inside.ends))))

  pub form_tagged : (f : Form) → form_at s ≡ shown f → Tagged f
  unfolding form_at
  form_tagged f e =
      after (header_at s) _ f e
      (λ v h e₁.
      after (kind_at v s) _ f e₁
      (λ k _ e₂.
      after (time_at v s) _ f e₂
      (λ t _ e₃.
      after (pointed_text_at v s 56) _ f e₃
      (λ c _ e₄.
      after (pointed_tags_at v s) _ f e₄
      (λ ts u e₅.
      let q : f.tags ≡ ts = ap (λ (x : Form). x.tags) (sym (shown_same e₅)) in
      let r = tags_told v ts (header_long v s h) u in
      record { tags = rw q r.0; count = rw q r.1; ends = rw q r.2 })))))
