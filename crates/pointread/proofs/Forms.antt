-- The outline of a form is the fields in front of the tags, where no tag has a fault.
-- Along the definitions, read after read: of the tags only their number is kept, and n reads give n values.
use Prim.{Unit, tt}
use Prim.Native.Nat.{ℕ, ◌+◌, ◌*◌, ◌≤◌}
use mathlib.Core.Path.{◌≡◌, refl, ap, ◌∙◌}
use mathlib.Core.List.{List}
use native.Mathlib.Omega.{arith}
use lib.ListN.{length}
use lib.IntN.{ℤ}
use lib.Dec.{leb}
use Rattle.scan.specs.Choice.{Answer, shown, refused, Read, read, and_then, many}
use Rattle.scan.proofs.Reading.{Gives, gives, lacks, shown_gives, pick_gives, then_gives}
use Rattle.scan.proofs.Many.{many_count}
use Rattle.notepack.specs.declared.Part.{Part}
use Rattle.pointer.specs.Pointer.{asked, entries_in, header_at, pointed_text, kind_at, time_at, tags_table_at, pointed_tag_at, pointed_tags_at, Form, form_at}
use Rattle.pointer.specs.Named.{part_named}
use Rattle.pointer.proofs.Pieces.{Tabled, header_gives, table_gives}
use Rattle.pointread.specs.inner.Answers.{Fields, fields_of}
use Rattle.pointread.specs.inner.Walk.{tags_fault, front_at}
use Rattle.pointread.proofs.Texts.{text_alike}

-- a value of which nothing is asked
anything : {A : Type 0} (a : Answer A) → Gives (λ (x : A). Unit {0}) a
anything (shown x) = gives tt
anything (refused n p) = lacks

-- two walks that begin with one read
alike : {A B C E : Type 0} (a : Answer A) (f : A → Answer B) (g : B → Answer E) (k : A → Answer C) (h : C → Answer E)
    → ((x : A) → a ≡ shown x → and_then (f x) g ≡ and_then (k x) h) → and_then (and_then a f) g ≡ and_then (and_then a k) h
alike (shown x) f g k h law = law x refl
alike (refused n p) f g k h law = refl

-- the same, where one keeps the place
alike_read : {A B C E : Type 0} (n : ℕ) (a : Answer A) (f : Read A → Answer B) (g : B → Answer E) (k : A → Answer C) (h : C → Answer E)
    → ((x : A) → and_then (f (record { value = x; next = n })) g ≡ and_then (k x) h)
    → and_then (and_then (and_then a (λ x. read x n)) f) g ≡ and_then (and_then a k) h
alike_read n (shown x) f g k h law = law x
alike_read n (refused m p) f g k h law = refl

module _ (version : ℕ) (s : List ℕ) where
  -- a header that is accepted has the whole form around the data behind it
  pub header_long : header_at s ≡ shown version → 168 ≤ length s
  header_long h = let d = shown_gives (rw h at (header_gives s)) in omega (arith, d.least, d.size)

  pub header_short : header_at s ≡ shown version → length s ≤ 65_536
  header_short h = (shown_gives (rw h at (header_gives s))).short

  -- the table of the tags is what the word at 64 names
  pub tags_tabled : Gives (Tabled s 64) (tags_table_at version s)
  unfolding tags_table_at
  tags_tabled =
      then_gives _ (table_gives s 64) (λ p g. pick_gives (asked version (leb (entries_in p) 1_000)) (λ _. gives g) (λ _. lacks))

  -- of the tags their number is kept
  counted : (k : ℕ) (t : ℤ) (c : Part) (n at : ℕ) (b : Answer (Read (List (List Part)))) → many (pointed_tag_at version s) n at ≡ b
      → and_then (and_then (and_then b (λ ts. shown ts.value)) (λ ts. shown (record { version = version; kind = k; time = t; content = c; tags = ts })))
      (λ (f : Form). shown (fields_of f))
      ≡ and_then (and_then b (λ _. shown (tt {0})))
      (λ _. shown (record { version = version; kind = k; time = t; content = c; tag_count = n }))
  counted k t c n at (shown ts) e = rw (many_count (pointed_tag_at version s) n at ts e)
  counted k t c n at (refused m p) e = refl

  tabled : (k : ℕ) (t : ℤ) (c : Part) (a : Answer Part) → Gives (Tabled s 64) a
      → and_then (and_then (and_then a (λ p. and_then (many (pointed_tag_at version s) (entries_in p) p.at) (λ ts. shown ts.value)))
      (λ ts. shown (record { version = version; kind = k; time = t; content = c; tags = ts })))
      (λ (f : Form). shown (fields_of f))
      ≡ and_then (and_then a (λ p. shown (record { version = version; kind = k; time = t; content = c; tag_count = entries_in p })))
      (λ (o : Fields). and_then (tags_fault version s o.tag_count (part_named s 64).at) (λ _. shown o))
  unfolding tags_fault
  tabled k t c (shown p) (gives g) = rw g.pointed.is (counted k t c (entries_in (part_named s 64)) (part_named s 64).at _ refl)
  tabled k t c (refused m q) g = refl

  -- THE law
  pub outline_walk : header_at s ≡ shown version
      → and_then (form_at s) (λ (f : Form). shown (fields_of f))
      ≡ and_then (front_at version s) (λ (o : Fields). and_then (tags_fault version s o.tag_count (part_named s 64).at) (λ _. shown o))
  unfolding form_at front_at pointed_tags_at
  outline_walk h =
      rw (h, text_alike version s 56)
      (alike (kind_at version s) _ _ _ _
      (λ k _.
      alike (time_at version s) _ _ _ _
      (λ t _.
      alike_read 64 (pointed_text version s 56) _ _ _ _
      (λ c. tabled k t c (tags_table_at version s) tags_tabled))))

  -- what each way out of the walk says
  pub walk_refused : {n p : ℕ} → header_at s ≡ shown version → front_at version s ≡ refused n p
      → and_then (form_at s) (λ (f : Form). shown (fields_of f)) ≡ refused n p
  walk_refused h e = outline_walk h ∙ rw e

  module _ {o : Fields} (h : header_at s ≡ shown version) (e : front_at version s ≡ shown o) where
    pub walk_bad : {n p : ℕ} → tags_fault version s o.tag_count (part_named s 64).at ≡ refused n p
        → and_then (form_at s) (λ (f : Form). shown (fields_of f)) ≡ refused n p
    walk_bad t = outline_walk h ∙ rw (e, t)

    pub walk_fine : tags_fault version s o.tag_count (part_named s 64).at ≡ shown tt
        → and_then (form_at s) (λ (f : Form). shown (fields_of f)) ≡ shown o
    walk_fine t = outline_walk h ∙ rw (e, t)

  -- the table of the tags ends within the input
  tags_inside : 168 ≤ length s → Gives (λ (o : Fields). (part_named s 64).at + 8 * o.tag_count ≤ length s) (front_at version s)
  unfolding front_at
  tags_inside long =
      then_gives _ (anything (kind_at version s))
      (λ k _.
      then_gives _ (anything (time_at version s))
      (λ t _.
      then_gives _ (anything (pointed_text version s 56))
      (λ c _.
      then_gives _ tags_tabled
      (λ p g. let e = ap (λ (x : Part). x.len) g.pointed.is in gives (omega (arith, e, g.pointed.inside.ends))))))

  pub tags_fit_lem : {o : Fields} → header_at s ≡ shown version → front_at version s ≡ shown o → (part_named s 64).at + 8 * o.tag_count ≤ length s
  tags_fit_lem h e = shown_gives (rw e at (tags_inside (header_long h)))
