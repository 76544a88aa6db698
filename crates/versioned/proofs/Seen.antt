-- What is seen of an input of either form is what its event has.
-- By what is seen of the bare bytes; a part has the same bytes in the bytes given, and 19 is not moved.
use Prim.Native.Nat.{ℕ, zero, suc}
use mathlib.Core.Path.{◌≡◌, refl, sym, ap, ◌∙◌}
use mathlib.Core.Bool.{Bool, true}
use mathlib.Core.List.{List, [], ◌∷◌, map}
use native.Mathlib.Nat.{add-zero}
use lib.ListN.{length, drop}
use Rattle.scan.specs.Choice.{pick, Answer, shown, refused, and_then}
use Rattle.scan.proofs.AllLaws.{all_drop}
use Rattle.hexdigits.specs.Hex.{hexes}
use Rattle.event.specs.Event.{Text, Tag}
use Rattle.notepack.specs.declared.Part.{Part}
use Rattle.notepack.specs.declared.Head.{Head}
use Rattle.notepack.specs.Unpack.{text_of, part_of, Packed, packed_at, unpack}
use Rattle.notepack.specs.Views.{numbers_of, content_of, nth, tag_of, texts_in, element_of, view}
use Rattle.notepack.proofs.Seen.{seen}
use Rattle.notepack.proofs.Viewing.{content_numbers}
use Rattle.versioned.specs.Versioned.{start_of, given}
use Rattle.versioned.specs.Views.{move_part, move_head, move_packed, packed_given, numbers_given, texts_given, element_given, content_given}
use Rattle.versioned.specs.Seen.{ViewsGiven, ViewsBare}
use Rattle.versioned.specs.inner.Moved.{is_readers, moved}
use Rattle.versioned.proofs.Starting.{given_bare, given_shown}
use Rattle.versioned.proofs.Moving.{other_stays}
use Rattle.versioned.proofs.Viewing.{numbers_start, texts_start, element_start, content_given_lem, part_bytes}

-- a part's text is the same in the bytes given
pub part_text : (k : ℕ) (s : List ℕ) (p : Part) → text_of s (move_part k p) ≡ text_of (drop k s) p
unfolding text_of
part_text k s p = ap (λ (b : List ℕ). pick p.raw (hexes b) b) (part_bytes k s p)

module _ (bare : Bool) where
  still_19 : {A : Type 0} → moved {A = A} bare (refused 19 0) ≡ refused 19 0
  unfolding is_readers
  still_19 = ap (λ (q : ℕ). refused 19 q) (other_stays bare 19 0 refl)

  -- what is looked up in a list is told without a move
  nth_still : {A B : Type 0} (f : A → Answer B) → ((x : A) → moved bare (f x) ≡ f x) → (i : ℕ) (l : List A) → moved bare (and_then (nth i l) f) ≡ and_then (nth i l) f
  nth_still f h i [] = still_19
  nth_still f h zero (x ∷ l) = h x
  nth_still f h (suc i) (x ∷ l) = nth_still f h i l

  element_still : (j : ℕ) (t : Tag) → moved bare (nth j t) ≡ nth j t
  element_still j [] = still_19
  element_still zero (x ∷ t) = refl
  element_still (suc j) (x ∷ t) = element_still j t

  module _ (k : ℕ) (s : List ℕ) where
    element_text : (x : Answer Part) (r : Answer Text) → moved bare r ≡ r → and_then x (λ (p : Part). shown (text_of (drop k s) p)) ≡ r
        → and_then (and_then (moved bare x) (λ (p : Part). shown (move_part k p))) (λ (p : Part). shown (text_of s p)) ≡ r
    element_text (shown p) r m h = ap shown (part_text k s p) ∙ h
    element_text (refused n p) r m h = ap (moved bare) h ∙ m

-- THE views
pub views_given : ViewsGiven
views_given bare s y e h =
    let g = given_shown bare unpack s h in
    let k = g.0 in
    let w = seen (drop k s) (all_drop k y) e g.2 in
    let n : numbers_given bare s ≡ shown (move_head k w.head) = rw (numbers_start bare s g.1, w.numbers) in
    let c : content_of (drop k s) ≡ shown w.head.content = rw (content_numbers (drop k s), w.numbers) in
    record {
      start = k;
      starts = g.1;
      head = move_head k w.head;
      numbers = n;
      time = w.time;
      kind = w.kind;
      size = w.size;
      count = w.count;
      id = w.id;
      pubkey = w.pubkey;
      sig = w.sig;
      content = rw (content_given_lem bare s, n) (part_bytes k s w.head.content ∙ sym (ap (view (drop k s)) c) ∙ w.content);
      texts = λ i. texts_start bare s g.1 i ∙ ap (moved bare) (w.texts i) ∙ nth_still bare (λ (t : Tag). shown (length t)) (λ t. refl) i e.tags;
      element = λ i j.
          ap (λ (x : Answer Part). and_then x (λ (p : Part). shown (text_of s p))) (element_start bare s g.1 i j)
          ∙ element_text bare k s (element_of i j (drop k s)) _ (nth_still bare (λ (t : Tag). nth j t) (element_still bare j) i e.tags) (w.element i j);
    }

-- ---- a bare input

same_part : (p : Part) → move_part 0 p ≡ p
same_part p = ap (λ (a : ℕ). part_of a p.len p.raw) (add-zero p.at)

same_head : (h : Head) → move_head 0 h ≡ h
same_head h =
    λ i.
    record {
      created_at = h.created_at;
      kind = h.kind;
      content = same_part h.content i;
      tag_count = h.tag_count;
      tags_at = add-zero h.tags_at i;
    }

same_map : {A : Type 0} (f : A → A) → ((x : A) → f x ≡ x) → (l : List A) → map f l ≡ l
same_map f h [] = refl
same_map f h (x ∷ l) = λ i. h x i ∷ same_map f h l i

same_packed : (p : Packed) → move_packed 0 p ≡ p
same_packed p = λ i. record { head = same_head p.head i; tags = same_map (map (move_part 0)) (same_map (move_part 0) same_part) p.tags i }

packed_bare : (s : List ℕ) → packed_given true s ≡ packed_at s
unfolding packed_given given start_of
packed_bare s = ap (λ (x : Answer Packed). and_then x (λ (p : Packed). shown (move_packed 0 p))) (given_bare packed_at s) ∙ go (packed_at s)
  where
    go : (x : Answer Packed) → and_then x (λ (p : Packed). shown (move_packed 0 p)) ≡ x
    go (shown p) = ap shown (same_packed p)
    go (refused n q) = refl

pub views_bare : (s : List ℕ) → ViewsBare s
unfolding numbers_given content_given texts_given element_given numbers_of content_of texts_in element_of tag_of
views_bare s =
    record {
      packed = packed_bare s;
      numbers = rw (packed_bare s);
      content = rw (packed_bare s);
      texts = λ i. rw (packed_bare s) (texts i (packed_at s));
      element = λ i j. rw (packed_bare s) (element i j (packed_at s));
    }
  where
    texts : (i : ℕ) (x : Answer Packed)
        → and_then x (λ (p : Packed). and_then (nth i p.tags) (λ (t : List Part). shown (length t)))
        ≡ and_then (and_then x (λ (p : Packed). nth i p.tags)) (λ (t : List Part). shown (length t))
    texts i (shown p) = refl
    texts i (refused n q) = refl

    element : (i j : ℕ) (x : Answer Packed)
        → and_then x (λ (p : Packed). and_then (nth i p.tags) (λ (t : List Part). nth j t))
        ≡ and_then (and_then x (λ (p : Packed). nth i p.tags)) (λ (t : List Part). nth j t)
    element i j (shown p) = refl
    element i j (refused n q) = refl
