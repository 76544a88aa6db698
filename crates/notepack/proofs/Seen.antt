-- What is asked of a packed event is what the event that it shows has: numbers, views, lengths and counts.
-- By the parts that were read: each text is that of its part, and mapping to texts changes no number of a list.
use Prim.Native.Nat.{ℕ, zero, suc}
use mathlib.Core.Path.{◌≡◌, refl, sym, ap, ◌∙◌}
use mathlib.Core.List.{List, [], ◌∷◌, map}
use native.Mathlib.Omega.{arith}
use lib.ListN.{length, length-map}
use Rattle.scan.specs.Choice.{Answer, shown, refused, and_then}
use Rattle.scan.specs.Bytes.{IsBytes}
use Rattle.scan.proofs.Reading.{shown_gives}
use Rattle.scan.proofs.Many.{then_shown, many_count}
use Rattle.event.specs.Event.{Tag, Event}
use Rattle.notepack.specs.declared.Part.{Part}
use Rattle.notepack.specs.Unpack.{Packed, packed_at, tag_at, text_of, event_of, unpack}
use Rattle.notepack.specs.Views.{numbers_of, content_of, nth, tag_of, element_of, texts_in}
use Rattle.notepack.specs.Seen.{Seen}
use Rattle.notepack.proofs.Sound.{sized_text, head_gives}
use Rattle.notepack.proofs.Viewing.{packed_head_lem, packed_apart}

-- number i of a mapped list
pub nth_map : {A B : Type 0} (f : A → B) (i : ℕ) (l : List A) → nth i (map f l) ≡ and_then (nth i l) (λ x. shown (f x))
nth_map f i [] = refl
nth_map f zero (x ∷ l) = refl
nth_map f (suc i) (x ∷ l) = nth_map f i l

-- Tag i has as many texts as the event's tag i.
pub tag_texts_lem : (s : List ℕ) (e : Event) → unpack s ≡ shown e → (i : ℕ)
    → texts_in i s ≡ and_then (nth i e.tags) (λ (t : Tag). shown (length t))
unfolding unpack event_of texts_in tag_of
tag_texts_lem s e h i = go (packed_at s) h
  where
    one : (r : Answer (List Part)) → and_then r (λ (t : List Part). shown (length t)) ≡ and_then (and_then r (λ (t : List Part). shown (map (text_of s) t))) (λ (t : Tag). shown (length t))
    one (shown t) = ap shown (sym (length-map t (text_of s)))
    one (refused n q) = refl

    go : (r : Answer Packed) → and_then r (λ (p : Packed). shown (event_of s p)) ≡ shown e
        → and_then (and_then r (λ (p : Packed). nth i p.tags)) (λ (t : List Part). shown (length t)) ≡ and_then (nth i e.tags) (λ (t : Tag). shown (length t))
    go (shown p) k =
        let q : event_of s p ≡ e = cc in
        one (nth i p.tags) ∙ ap (λ (a : Answer Tag). and_then a (λ (t : Tag). shown (length t))) (sym (nth_map (map (text_of s)) i p.tags) ∙ ap (λ (x : Event). nth i x.tags) q)
    go (refused n q) k = let z : ◌≡◌ {A = ℕ} 0 1 = cc in absurd (omega arith)

-- Element j of tag i has the text that the event has there.
pub element_text : (s : List ℕ) (e : Event) → unpack s ≡ shown e → (i j : ℕ)
    → and_then (element_of i j s) (λ (p : Part). shown (text_of s p)) ≡ and_then (nth i e.tags) (λ (t : Tag). nth j t)
unfolding unpack event_of element_of tag_of
element_text s e h i j = go (packed_at s) h
  where
    two : (r : Answer (List Part)) → and_then (and_then r (λ (t : List Part). nth j t)) (λ (p : Part). shown (text_of s p)) ≡ and_then (and_then r (λ (t : List Part). shown (map (text_of s) t))) (λ (t : Tag). nth j t)
    two (shown t) = sym (nth_map (text_of s) j t)
    two (refused n q) = refl

    go : (r : Answer Packed) → and_then r (λ (p : Packed). shown (event_of s p)) ≡ shown e
        → and_then (and_then (and_then r (λ (p : Packed). nth i p.tags)) (λ (t : List Part). nth j t)) (λ (p : Part). shown (text_of s p)) ≡ and_then (nth i e.tags) (λ (t : Tag). nth j t)
    go (shown p) k =
        let q : event_of s p ≡ e = cc in
        two (nth i p.tags) ∙ ap (λ (a : Answer Tag). and_then a (λ (t : Tag). nth j t)) (sym (nth_map (map (text_of s)) i p.tags) ∙ ap (λ (x : Event). nth i x.tags) q)
    go (refused n q) k = let z : ◌≡◌ {A = ℕ} 0 1 = cc in absurd (omega arith)

seen_of : (s : List ℕ) → IsBytes s → (p : Packed) → packed_at s ≡ shown p → unpack s ≡ shown (event_of s p) → Seen s (event_of s p)
unfolding numbers_of content_of event_of
seen_of s bytes p e u =
    let d = shown_gives (rw (packed_head_lem s p e) at (head_gives s bytes)) in
    let c = sized_text d.content.2 in
    let a = packed_apart s p e in
    let n = many_count (tag_at s) p.head.tag_count p.head.tags_at _ a.1 in
    record {
      head = p.head;
      numbers = rw e refl;
      time = refl;
      kind = refl;
      size = sym c.4;
      count = sym (length-map p.tags (map (text_of s)) ∙ n);
      id = refl;
      pubkey = refl;
      sig = refl;
      content = rw e (sym c.5);
      texts = tag_texts_lem s (event_of s p) u;
      element = element_text s (event_of s p) u;
    }

-- The views and the numbers are those of the event that the bytes show.
pub seen : (s : List ℕ) → IsBytes s → (e : Event) → unpack s ≡ shown e → Seen s e
unfolding unpack
seen s bytes e h =
    let p = then_shown (packed_at s) _ e h in
    let q : event_of s p.0 ≡ e = cc in
    let u : unpack s ≡ shown (event_of s p.0) = h ∙ ap shown (sym q) in
    rw q at (seen_of s bytes p.0 p.1 u)
