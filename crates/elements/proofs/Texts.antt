-- The elements that are listed are the event's own: their texts, in their order, are those of its tags.
-- Tag by tag.
use Prim.Native.Nat.{ℕ, suc}
use mathlib.Core.Path.{◌≡◌, refl, sym, ap, ◌∙◌}
use mathlib.Core.Bool.{Bool}
use mathlib.Core.List.{List, [], ◌∷◌, ◌++◌, map}
use lib.ListN.{drop}
use Rattle.scan.specs.Choice.{shown}
use Rattle.event.specs.Event.{Text, Tag, Event}
use Rattle.notepack.specs.declared.Part.{Part}
use Rattle.notepack.specs.Unpack.{text_of, Packed, packed_at, event_of, unpack}
use Rattle.versioned.specs.Versioned.{given}
use Rattle.versioned.specs.Views.{move_part, packed_given}
use Rattle.versioned.proofs.Viewing.{packed_placed}
use Rattle.versioned.proofs.Seen.{part_text}
use Rattle.elements.specs.Elements.{TagElement, in_tag, in_tags}

-- the texts of all tags, one tag behind the other
abbrev pub texts_of : List Tag → List Text
texts_of [] = []
texts_of (t ∷ ts) = t ++ texts_of ts

module _ (f : Part → Text) where
  -- the texts of a list of elements
  abbrev pub texts_by : List TagElement → List Text
  texts_by [] = []
  texts_by (e ∷ l) = f e.part ∷ texts_by l

  tag_texts_lem : (i : ℕ) (ps : List Part) (l : List TagElement) → texts_by (in_tag i ps ++ l) ≡ map f ps ++ texts_by l
  tag_texts_lem i [] l = refl
  tag_texts_lem i (p ∷ ps) l = ap (λ (t : List Text). f p ∷ t) (tag_texts_lem i ps l)

  tags_texts : (i : ℕ) (ts : List (List Part)) → texts_by (in_tags i ts) ≡ texts_of (map (map f) ts)
  tags_texts i [] = refl
  tags_texts i (t ∷ ts) = tag_texts_lem i t (in_tags (suc i) ts) ∙ ap (λ (l : List Text). map f t ++ l) (tags_texts (suc i) ts)

-- THE list: its texts are those of the event that the record shows
pub texts_event : (s : List ℕ) (p : Packed) → packed_at s ≡ shown p
    → (unpack s ≡ shown (event_of s p)) × (texts_by (text_of s) (in_tags 0 p.tags) ≡ texts_of (event_of s p).tags)
unfolding unpack event_of
texts_event s p e = (rw e, tags_texts (text_of s) 0 p.tags)

-- ---- of either form

-- the texts of parts that stand further on are those of the parts
module _ (k : ℕ) (s : List ℕ) where
  parts_texts : (l : List Part) → map (text_of s) (map (move_part k) l) ≡ map (text_of (drop k s)) l
  parts_texts [] = refl
  parts_texts (p ∷ l) = λ i. part_text k s p i ∷ parts_texts l i

  all_texts : (l : List (List Part)) → map (map (text_of s)) (map (map (move_part k)) l) ≡ map (map (text_of (drop k s))) l
  all_texts [] = refl
  all_texts (t ∷ l) = λ i. parts_texts t i ∷ all_texts l i

-- THE list, with the caller's word: its texts are those of the event that the input shows
pub texts_given_lem : (bare : Bool) (s : List ℕ) (p : Packed) → packed_given bare s ≡ shown p
    → (e : Event) × (given bare unpack s ≡ shown e) × (texts_by (text_of s) (in_tags 0 p.tags) ≡ texts_of e.tags)
unfolding given event_of
texts_given_lem bare s p h =
    let w = packed_placed bare s p h in
    let k = w.start in
    let t = texts_event (drop k s) w.there w.found in
    let same = ap (λ (x : Packed). texts_by (text_of s) (in_tags 0 x.tags)) (sym w.same) in (
      event_of (drop k s) w.there,
      rw (w.starts, t.0),
      same ∙ tags_texts (text_of s) 0 (map (map (move_part k)) w.there.tags) ∙ ap texts_of (all_texts k s w.there.tags),
    )
