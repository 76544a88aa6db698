-- What is shown of a form, of either version, is what stands at its places; of a v0 it is what its event has.
-- By the laws of what was read (`Again`, `Pieces`), field after field; mapping to bytes changes no number of a list.
use Prim.Native.Nat.{ℕ, zero, suc, ◌≤◌}
use mathlib.Core.Path.{◌≡◌, refl, sym, ap, ◌∙◌, subst}
use mathlib.Core.Bool.{Bool, true, false}
use mathlib.Core.List.{List, ◌∷◌, map}
use native.Mathlib.Omega.{arith}
use lib.ListN.{length, length-map}
use lib.IntN.{ℤ}
use lib.Dec.{eqb, leb}
use borrow.Author.Tests.{eqb-true}
use Rattle.scan.specs.Choice.{pick, Answer, shown, refused, Read, and_then, many}
use Rattle.scan.proofs.Reading.{Gives, gives, lacks, shown_gives, pick_gives, then_gives}
use Rattle.scan.proofs.Many.{after, pick_shown, shown_same, many_apart}
use Rattle.moment.specs.Moment.{signed_of, seconds_of}
use Rattle.moment.proofs.Inverse.{millis_back}
use Rattle.event.specs.Event.{Tag, Event}
use Rattle.notepack.specs.declared.Part.{Part}
use Rattle.notepack.specs.Unpack.{bytes_of}
use Rattle.notepack.specs.Views.{nth}
use Rattle.notepack.proofs.Seen.{nth_map}
use Rattle.pointer.specs.Pointer.{word_at, version_in, entries_in, header_at, kind_at, second_at, millis_at, time_at, pointed_text_at, tag_table_at, pointed_tag_at, tags_table_at, pointed_tags_at, asked, Form, form_at, pointed_event, pointer_event}
use Rattle.pointer.specs.Entries.{pointer_texts, pointer_element}
use Rattle.pointer.specs.Seen.{InData, Stands, PointerSeen}
use Rattle.pointer.specs.Named.{each_from, part_named, tag_named}
use Rattle.pointer.proofs.Pieces.{Pointed, Tabled, header_gives, table_gives, text_gives}
use Rattle.pointer.proofs.Again.{tags_read}
use Rattle.pointer.proofs.Shows.{second_told_lem}

nothing : {R A : Type 0} {x : A} {n p : ℕ} → ◌≡◌ {A = Answer A} (refused n p) (shown x) → R
nothing e = let z : ◌≡◌ {A = ℕ} 0 1 = cc in absurd (omega arith)

module _ (s : List ℕ) where
  -- ---- every text lies in the data

  pointed_inside : (at : ℕ) (p : Part) → 168 ≤ length s → Pointed s at p → InData s p
  pointed_inside at p long g = rw g.is (record { from = omega arith; ends = omega (arith, g.inside.ends) })

  module _ (long : 168 ≤ length s) (version : ℕ) where
    texts_inside : (n at : ℕ) (r : Read (List Part)) → many (pointed_text_at version s) n at ≡ shown r
        → (j : ℕ) (p : Part) → nth j r.value ≡ shown p → InData s p
    unfolding many
    texts_inside zero at r e j p q = nothing (ap (λ (x : Read (List Part)). nth j x.value) (shown_same e) ∙ q)
    texts_inside (suc n) at r e j p q =
        let a = many_apart (pointed_text_at version s) n at r e in
        let g = shown_gives (rw a.2 at (text_gives s version at)) in
        go a.0.value a.1.value (pointed_inside at a.0.value long g.pointed) (texts_inside n a.0.next a.1 a.3) j (sym (ap (nth j) a.4) ∙ q)
      where
        go : (x : Part) (xs : List Part) → InData s x → ((j : ℕ) (p : Part) → nth j xs ≡ shown p → InData s p)
            → (j : ℕ) → nth j (x ∷ xs) ≡ shown p → InData s p
        go x xs h k zero q = rw (← shown_same q) h
        go x xs h k (suc j) q = k j p q

    tags_inside : (n at : ℕ) (r : Read (List (List Part))) → many (pointed_tag_at version s) n at ≡ shown r
        → (i j : ℕ) (t : List Part) (p : Part) → nth i r.value ≡ shown t → nth j t ≡ shown p → InData s p
    unfolding many pointed_tag_at
    tags_inside zero at r e i j t p q u = nothing (ap (λ (x : Read (List (List Part))). nth i x.value) (shown_same e) ∙ q)
    tags_inside (suc n) at r e i j t p q u =
        let a = many_apart (pointed_tag_at version s) n at r e in
        after (tag_table_at version s at) _ a.0 a.2
        (λ table _ e₁.
        after (many (pointed_text_at version s) (entries_in table) table.at) _ a.0 e₁
        (λ ts v e₂.
        let is : ts.value ≡ a.0.value = ap (λ (x : Read (List Part)). x.value) (shown_same e₂) in
        go a.0.value a.1.value (λ k. texts_inside (entries_in table) table.at ts v j p (ap (nth j) is ∙ k))
        (λ i k. tags_inside n a.0.next a.1 a.3 i j t p k u) i (sym (ap (nth i) a.4) ∙ q)))
      where
        go : (x : List Part) (xs : List (List Part)) → (nth j x ≡ shown p → InData s p) → ((i : ℕ) → nth i xs ≡ shown t → InData s p)
            → (i : ℕ) → nth i (x ∷ xs) ≡ shown t → InData s p
        go x xs h k zero q = h (ap (nth j) (shown_same q) ∙ u)
        go x xs h k (suc i) q = k i q

    -- ---- the tags

    record TagsStand (ts : List (List Part)) : Type 0 where
      is : ts ≡ each_from (tag_named s) (entries_in (part_named s 64)) (part_named s 64).at
      inside : (i j : ℕ) (t : List Part) (p : Part) → nth i ts ≡ shown t → nth j t ≡ shown p → InData s p

    tags_stand : (ts : List (List Part)) → pointed_tags_at version s ≡ shown ts → TagsStand ts
    unfolding pointed_tags_at tags_table_at
    tags_stand ts e =
        after (tags_table_at version s) _ ts e
        (λ p t e₁.
        after (many (pointed_tag_at version s) (entries_in p) p.at) _ ts e₁
        (λ r u e₂.
        let g = shown_gives (rw t at (tabled)) in
        let at : p ≡ part_named s 64 = g.pointed.is in
        let same : r.value ≡ ts = shown_same e₂ in
        record {
          is = sym same ∙ (tags_read s version (entries_in p) p.at r u).0 ∙ ap (λ (x : Part). each_from (tag_named s) (entries_in x) x.at) at;
          inside = λ i j tag x q k. tags_inside (entries_in p) p.at r u i j tag x (ap (nth i) same ∙ q) k;
        }))
      where
        tabled : Gives (Tabled s 64) (tags_table_at version s)
        tabled =
            then_gives _ (table_gives s 64) (λ p g. pick_gives (asked version (leb (entries_in p) 1_000)) (λ _. gives g) (λ _. lacks))

  -- ---- the fields

  kind_stands : (v k : ℕ) → kind_at v s ≡ shown k → k ≡ word_at s 40
  unfolding kind_at
  kind_stands v k e = sym (shown_same (pick_shown (asked v (leb (word_at s 40) 65_535)) (shown (word_at s 40)) 6 40 k e).1)

  time_stands : (v : ℕ) (t : ℤ) → time_at v s ≡ shown t → t ≡ millis_at s
  unfolding time_at
  time_stands v t e = go (eqb v 1) (second_at s) e
    where
      go : (b : Bool) (a : Answer ℕ) → pick b (shown (millis_at s)) (and_then a (λ _. shown (millis_at s))) ≡ shown t → t ≡ millis_at s
      go true a e = sym (shown_same e)
      go false (shown u) e = sym (shown_same e)
      go false (refused n p) e = nothing e

  record FieldsStand (f : Form) : Type 0 where
    version : f.version ≡ version_in (word_at s 0)
    kind : f.kind ≡ word_at s 40
    time : f.time ≡ signed_of (word_at s 48)
    content : f.content ≡ part_named s 56
    tags : f.tags ≡ each_from (tag_named s) (entries_in (part_named s 64)) (part_named s 64).at
    content_inside : InData s f.content
    inside : (i j : ℕ) (t : List Part) (p : Part) → nth i f.tags ≡ shown t → nth j t ≡ shown p → InData s p

  fields_stand : (f : Form) → form_at s ≡ shown f → FieldsStand f
  unfolding form_at
  fields_stand f e =
      after (header_at s) _ f e
      (λ v h e₁.
      after (kind_at v s) _ f e₁
      (λ k a e₂.
      after (time_at v s) _ f e₂
      (λ t b e₃.
      after (pointed_text_at v s 56) _ f e₃
      (λ c d e₄.
      after (pointed_tags_at v s) _ f e₄
      (λ ts u e₅.
      let head = shown_gives (rw h at (header_gives s)) in
      let g = shown_gives (rw d at (text_gives s v 56)) in
      let long : 168 ≤ length s = omega (arith, head.least, head.size) in
      let w = tags_stand long v ts u in
      subst FieldsStand (shown_same e₅)
      (record {
        version = sym head.version;
        kind = kind_stands v k a;
        time = time_stands v t b;
        content = g.pointed.is;
        tags = w.is;
        content_inside = pointed_inside 56 c.value long g.pointed;
        inside = w.inside;
      }))))))

  element_inside : (f : Form) → form_at s ≡ shown f → FieldsStand f → (i j : ℕ) (p : Part) → pointer_element i j s ≡ shown p → InData s p
  unfolding pointer_element
  element_inside f e g i j p q = after (nth i f.tags) (λ t. nth j t) p (rw e at q) (λ t a b. g.inside i j t p a b)

  -- What is shown of a form of either version is what stands at its places.
  pub form_stands : (f : Form) → form_at s ≡ shown f → Stands s f
  form_stands f e =
      let g = fields_stand f e in
      record {
        version = g.version;
        kind = g.kind;
        time = g.time;
        content = g.content;
        tags = g.tags;
        content_inside = g.content_inside;
        texts_inside = element_inside f e g;
      }

  -- ---- a v0

  module _ (f : Form) (e : form_at s ≡ shown f) where
    texts_seen : (i : ℕ) → pointer_texts i s ≡ and_then (nth i (map (map (bytes_of s)) f.tags)) (λ (t : Tag). shown (length t))
    unfolding pointer_texts
    texts_seen i = rw (e, nth_map (map (bytes_of s)) i f.tags) (go (nth i f.tags))
      where
        go : (r : Answer (List Part)) → and_then r (λ (t : List Part). shown (length t))
            ≡ and_then (and_then r (λ (t : List Part). shown (map (bytes_of s) t))) (λ (t : Tag). shown (length t))
        go (shown t) = ap shown (sym (length-map t (bytes_of s)))
        go (refused n p) = refl

    element_seen : (i j : ℕ)
        → and_then (pointer_element i j s) (λ (p : Part). shown (bytes_of s p)) ≡ and_then (nth i (map (map (bytes_of s)) f.tags)) (λ (t : Tag). nth j t)
    unfolding pointer_element
    element_seen i j = rw (e, nth_map (map (bytes_of s)) i f.tags) (go (nth i f.tags))
      where
        go : (r : Answer (List Part)) → and_then (and_then r (λ (t : List Part). nth j t)) (λ (p : Part). shown (bytes_of s p))
            ≡ and_then (and_then r (λ (t : List Part). shown (map (bytes_of s) t))) (λ (t : Tag). nth j t)
        go (shown t) = sym (nth_map (bytes_of s) j t)
        go (refused n p) = refl

  -- What is shown of a v0 is what its event has.
  pub event_seen : (e : Event) → pointer_event s ≡ shown e → PointerSeen s e
  unfolding pointer_event pointed_event second_at
  event_seen e r =
      after (header_at s) _ e r
      (λ v h r₁.
      let p = pick_shown (eqb v 0) _ 26 0 e r₁ in
      let head = shown_gives (rw h at (header_gives s)) in
      after (form_at s) _ e p.1
      (λ f q r₂.
      after (second_at s) _ e r₂
      (λ t u r₃.
      let g = form_stands f q in
      subst (PointerSeen s) (shown_same r₃)
      (record {
        form = f;
        told = q;
        version = g.version ∙ head.version ∙ eqb-true v 0 p.0;
        kind = refl;
        time = g.time ∙ millis_back (signed_of (word_at s 48)) t (second_told_lem (seconds_of (signed_of (word_at s 48))) t u);
        content = refl;
        count = sym (length-map f.tags (map (bytes_of s)));
        texts = texts_seen f q;
        element = element_seen f q;
      }))))
