-- An element that was read among others is read again from its place: walking to tag i and element j finds number j of
-- number i.
-- By induction on the place in the list, along the reads.
use Prim.Native.Nat.{ℕ, zero, suc, ◌≤◌, ◌<◌}
use mathlib.Core.Path.{◌≡◌, refl, sym, ap, ◌∙◌, subst}
use mathlib.Core.List.{List, [], ◌∷◌, ◌++◌, map}
use mathlib.Core.Logic.{dite}
use native.Mathlib.Omega.{arith}
use native.Mathlib.Decide.{dec_lt}
use lib.ListN.{length, take, drop}
use lib.Dec.{ltb, leb, eqb}
use borrow.Author.Tests.{lt-ltb, le-ltb}
use Rattle.scan.specs.Choice.{pick, Answer, shown, refused, Read, read, and_then, many}
use Rattle.scan.proofs.Many.{pick_shown, then_shown, many_at, many_count}
use Rattle.event.specs.Event.{Event}
use Rattle.notepack.specs.declared.Part.{Part}
use Rattle.notepack.specs.declared.Head.{Head}
use Rattle.notepack.specs.Unpack.{element_at, elements_at, tag_count_at, tag_at, tags_standing, head_at, Packed, packed_at, text_of, event_of, unpack}
use Rattle.notepack.specs.declared.Tally.{Tally}
use Rattle.notepack.specs.inner.Tally.{pass_elements, pass_tags}
use Rattle.notepack.specs.Views.{numbers_of, content_of, nth, tag_of, texts_in, element_of}
use Rattle.notepack.specs.inner.Places.{tag_start, element_place}

-- ---- number i of a list

-- the one behind the first i
nth_behind : {A : Type 0} (i : ℕ) (l : List A) (x : A) (r : List A) → length l ≡ i → nth i (l ++ (x ∷ r)) ≡ shown x
nth_behind zero [] x r h = refl
nth_behind (suc i) [] x r h = absurd (omega arith)
nth_behind zero (y ∷ l) x r h = absurd (omega arith)
nth_behind (suc i) (y ∷ l) x r h = nth_behind i l x r (omega arith)

pub nth_none : {A : Type 0} (i : ℕ) (l : List A) → length l ≤ i → nth i l ≡ refused 19 0
nth_none i [] h = refl
nth_none zero (x ∷ l) h = absurd (omega arith)
nth_none (suc i) (x ∷ l) h = nth_none i l (omega arith)

-- ---- walking there

-- number i of n reads: walking past i and reading one finds it
walk_nth : {A : Type 0} (item : ℕ → Answer (Read A)) (i n at : ℕ) (v : Read (List A)) → many item n at ≡ shown v → i < n
    → (a b : ℕ) × (x : A) × (u : List A) × (many item i at ≡ read u a) × (item a ≡ read x b) × (nth i v.value ≡ shown x)
walk_nth item i n at v e h =
    let m = many_at item i n at v e h in
    let k = many_count item i at m.0 m.3 in
    (m.0.next, m.1.next, m.1.value, m.0.value, m.3, m.4, ap (nth i) m.5 ∙ nth_behind i m.0.value m.1.value m.2 k)

-- what stands in front of a packed event's tags
pub packed_head_lem : (s : List ℕ) (p : Packed) → packed_at s ≡ shown p → head_at s ≡ shown p.head
unfolding packed_at
packed_head_lem s p e =
    let h = then_shown (head_at s) _ p (pick_shown (leb (length s) 65_536) _ 1 0 p e).1 in
    let t = then_shown (tags_standing h.0.tag_count s h.0.tags_at) _ p h.2 in
    let q = (pick_shown (eqb t.0.next (length s)) (shown (record { head = h.0; tags = t.0.value })) 10 t.0.next p t.2).1 in
    let f : ◌≡◌ {A = Packed} (record { head = h.0; tags = t.0.value }) p = cc in
    h.1 ∙ ap (λ (q : Packed). shown q.head) f

-- a packed event, taken apart
pub packed_apart : (s : List ℕ) (p : Packed) → packed_at s ≡ shown p → (e : ℕ) × (tags_standing p.head.tag_count s p.head.tags_at ≡ read p.tags e)
unfolding packed_at
packed_apart s p e =
    let h = then_shown (head_at s) _ p (pick_shown (leb (length s) 65_536) _ 1 0 p e).1 in
    let t = then_shown (tags_standing h.0.tag_count s h.0.tags_at) _ p h.2 in
    let q = (pick_shown (eqb t.0.next (length s)) (shown (record { head = h.0; tags = t.0.value })) 10 t.0.next p t.2).1 in
    let f : ◌≡◌ {A = Packed} (record { head = h.0; tags = t.0.value }) p = cc in
    go t.0.next f t.1
  where
    go : {h : Head} {ts : List (List Part)} (e : ℕ) → ◌≡◌ {A = Packed} (record { head = h; tags = ts }) p → tags_standing h.tag_count s h.tags_at ≡ read ts e
        → (e : ℕ) × (tags_standing p.head.tag_count s p.head.tags_at ≡ read p.tags e)
    go e f k = (e, subst (λ (q : Packed). tags_standing q.head.tag_count s q.head.tags_at ≡ read q.tags e) f k)

-- a tag, taken apart
pub tag_apart : (s : List ℕ) (a b : ℕ) (ps : List Part) → tag_at s a ≡ read ps b → (c : ℕ) × (tag_count_at s a ≡ read (length ps) c) × (elements_at (length ps) s c ≡ read ps b)
unfolding tag_at
tag_apart s a b ps e =
    let n = then_shown (tag_count_at s a) _ _ e in
    let k = many_count (element_at s) n.0.value n.0.next _ n.2 in
    (n.0.next, n.1 ∙ rw k, rw k n.2)

-- ---- the three views by walking

-- walking to tag i finds its number of texts, or 19
pub tag_start_lem : (i : ℕ) (s : List ℕ) → and_then (tag_start i s) (λ n. shown n.value) ≡ texts_in i s
unfolding tag_start texts_in tag_of numbers_of
tag_start_lem i s = go (packed_at s) refl
  where
    go : (r : Answer Packed) → packed_at s ≡ r
        → and_then (and_then (and_then r (λ (p : Packed). shown p.head)) (λ (h : Head). pick (ltb i h.tag_count) (and_then (tags_standing i s h.tags_at) (λ (t : Read (List (List Part))). tag_count_at s t.next)) (refused 19 0))) (λ (n : Read ℕ). shown n.value)
        ≡ and_then (and_then r (λ (p : Packed). nth i p.tags)) (λ (t : List Part). shown (length t))
    go (refused n q) e = refl
    go (shown p) e =
        let a = packed_apart s p e in
        let c = many_count (tag_at s) p.head.tag_count p.head.tags_at _ a.1 in
        dite (dec_lt i p.head.tag_count)
        (λ h.
        let w = walk_nth (tag_at s) i p.head.tag_count p.head.tags_at _ a.1 h in
        let t = tag_apart s w.0 w.1 w.2 w.5 in
        rw (lt-ltb i p.head.tag_count h, w.4, t.1, w.6))
        (λ n. rw (le-ltb i p.head.tag_count (omega (arith, n)), nth_none i p.tags (omega (arith, n, c))))

-- walking to element j of tag i finds it, or 19
pub element_place_lem : (i j : ℕ) (s : List ℕ) → and_then (element_place i j s) (λ e. shown e.value) ≡ element_of i j s
unfolding element_place tag_start element_of tag_of numbers_of
element_place_lem i j s = go (packed_at s) refl
  where
    go : (r : Answer Packed) → packed_at s ≡ r
        → and_then (and_then (and_then (and_then r (λ (p : Packed). shown p.head)) (λ (h : Head). pick (ltb i h.tag_count) (and_then (tags_standing i s h.tags_at) (λ (t : Read (List (List Part))). tag_count_at s t.next)) (refused 19 0)))
        (λ (n : Read ℕ). pick (ltb j n.value) (and_then (elements_at j s n.next) (λ (e : Read (List Part)). element_at s e.next)) (refused 19 0))) (λ (e : Read Part). shown e.value)
        ≡ and_then (and_then r (λ (p : Packed). nth i p.tags)) (λ (t : List Part). nth j t)
    go (refused n q) e = refl
    go (shown p) e =
        let a = packed_apart s p e in
        let c = many_count (tag_at s) p.head.tag_count p.head.tags_at _ a.1 in
        dite (dec_lt i p.head.tag_count)
        (λ h.
        let w = walk_nth (tag_at s) i p.head.tag_count p.head.tags_at _ a.1 h in
        let t = tag_apart s w.0 w.1 w.2 w.5 in
        rw (lt-ltb i p.head.tag_count h, w.4, t.1, w.6)
        (dite (dec_lt j (length w.2))
        (λ k.
        let x = walk_nth (element_at s) j (length w.2) t.0 _ t.2 k in
        rw (lt-ltb j (length w.2) k, x.4, x.5) (sym x.6))
        (λ k. rw (le-ltb j (length w.2) (omega (arith, k))) (sym (nth_none j w.2 (omega (arith, k)))))))
        (λ n. rw (le-ltb i p.head.tag_count (omega (arith, n)), nth_none i p.tags (omega (arith, n, c))))

-- ---- the calls of the code

pub content_numbers : (s : List ℕ) → content_of s ≡ and_then (numbers_of s) (λ (h : Head). shown h.content)
unfolding numbers_of content_of
content_numbers s = go (packed_at s)
  where
    go : (r : Answer Packed) → and_then r (λ (p : Packed). shown p.head.content) ≡ and_then (and_then r (λ (p : Packed). shown p.head)) (λ (h : Head). shown h.content)
    go (shown p) = refl
    go (refused n q) = refl

-- going on from where a pass over tags or elements ended is going on from where they end
pub skip_tags : {B : Type 0} (s : List ℕ) (t : Tally) (i at : ℕ) (f : Answer (Read Tally)) (g : ℕ → Answer B)
    → f ≡ and_then (tags_standing i s at) (pass_tags s t) → and_then f (λ (u : Read Tally). g u.next) ≡ and_then (tags_standing i s at) (λ (v : Read (List (List Part))). g v.next)
skip_tags {B} s t i at f g e = ap (λ (r : Answer (Read Tally)). and_then r (λ (u : Read Tally). g u.next)) e ∙ go (tags_standing i s at)
  where
    go : (r : Answer (Read (List (List Part)))) → and_then (and_then r (pass_tags s t)) (λ (u : Read Tally). g u.next) ≡ and_then r (λ (v : Read (List (List Part))). g v.next)
    go (shown v) = refl
    go (refused n q) = refl

pub skip_elements : {B : Type 0} (s : List ℕ) (t : Tally) (j at : ℕ) (f : Answer (Read Tally)) (g : ℕ → Answer B)
    → f ≡ and_then (elements_at j s at) (pass_elements s t) → and_then f (λ (u : Read Tally). g u.next) ≡ and_then (elements_at j s at) (λ (v : Read (List Part)). g v.next)
skip_elements {B} s t j at f g e = ap (λ (r : Answer (Read Tally)). and_then r (λ (u : Read Tally). g u.next)) e ∙ go (elements_at j s at)
  where
    go : (r : Answer (Read (List Part))) → and_then (and_then r (pass_elements s t)) (λ (u : Read Tally). g u.next) ≡ and_then r (λ (v : Read (List Part)). g v.next)
    go (shown v) = refl
    go (refused n q) = refl

-- ---- the event behind the numbers

-- what the numbers of a packed event say of the event that it shows
pub record Numbered (s : List ℕ) (h : Head) : Type 0 where
  pub event : Event
  pub shows : unpack s ≡ shown event
  pub id : event.id ≡ take 32 s
  pub pubkey : event.pubkey ≡ take 32 (drop 32 s)
  pub time : event.created_at ≡ h.created_at
  pub kind : event.kind ≡ h.kind
  pub content : event.content ≡ text_of s h.content
  pub parts : Read (List (List Part))
  pub reads : tags_standing h.tag_count s h.tags_at ≡ shown parts
  pub tags : event.tags ≡ map (map (text_of s)) parts.value

numbered_of : (s : List ℕ) (p : Packed) → packed_at s ≡ shown p → Numbered s p.head
unfolding unpack event_of
numbered_of s p e =
    let a = packed_apart s p e in
    record {
      event = event_of s p;
      shows = rw e;
      id = refl;
      pubkey = refl;
      time = refl;
      kind = refl;
      content = refl;
      parts = record { value = p.tags; next = a.0 };
      reads = a.1;
      tags = refl;
    }

-- The numbers that the reader tells are those of the event that the bytes show.
pub numbers_event : (s : List ℕ) (h : Head) → numbers_of s ≡ shown h → Numbered s h
unfolding numbers_of
numbers_event s h e =
    let p = then_shown (packed_at s) _ h e in
    let q : p.0.head ≡ h = cc in
    subst (λ (k : Head). Numbered s k) q (numbered_of s p.0 p.1)

-- where the reader refuses, so does `unpack`
pub numbers_refused : (s : List ℕ) (n q : ℕ) → numbers_of s ≡ refused n q → unpack s ≡ refused n q
unfolding numbers_of unpack
numbers_refused s n q e = go (packed_at s) e
  where
    go : (r : Answer Packed) → and_then r (λ (p : Packed). shown p.head) ≡ refused n q → and_then r (λ (p : Packed). shown (event_of s p)) ≡ refused n q
    go (shown p) e = let z : ◌≡◌ {A = ℕ} 0 1 = cc in absurd (omega arith)
    go (refused m p) e =
        let a : m ≡ n = cc in
        let b : p ≡ q = cc in
        rw (a, b)
