-- A second pass over an input with k bytes in front of the event finds the elements of the event, k places further on.
-- By induction on how many are left: each part and each count is so.
use Prim.Native.Nat.{ℕ, zero, suc, ◌+◌}
use mathlib.Core.Path.{◌≡◌, refl, sym, ap, ◌∙◌}
use mathlib.Core.List.{List, [], ◌∷◌, ◌++◌, map}
use lib.ListN.{drop}
use Rattle.notepack.specs.declared.Part.{Part}
use Rattle.notepack.specs.inner.Again.{part_again, count_again, texts_end}
use Rattle.notepack.proofs.Further.{part_again_further, count_again_further, texts_end_further}
use Rattle.versioned.specs.Views.{move_part}
use Rattle.elements.specs.Elements.{TagElement, in_tag, in_tags}
use Rattle.elements.specs.inner.Again.{tag_again, all_again}

-- an element k bytes further on
abbrev move_element : ℕ → TagElement → TagElement
move_element k e = record { tag = e.tag; part = move_part k e.part }

map_append : {A B : Type 0} (f : A → B) (a b : List A) → map f (a ++ b) ≡ map f a ++ map f b
map_append f [] b = refl
map_append f (x ∷ a) b = ap (λ l. f x ∷ l) (map_append f a b)

module _ (k : ℕ) where
  -- the elements of moved tags
  in_tag_moved : (i : ℕ) (t : List Part) → map (move_element k) (in_tag i t) ≡ in_tag i (map (move_part k) t)
  in_tag_moved i [] = refl
  in_tag_moved i (p ∷ t) = ap (λ (l : List TagElement). record { tag = i; part = move_part k p } ∷ l) (in_tag_moved i t)

  pub in_tags_moved : (i : ℕ) (ts : List (List Part)) → map (move_element k) (in_tags i ts) ≡ in_tags i (map (map (move_part k)) ts)
  in_tags_moved i [] = refl
  in_tags_moved i (t ∷ ts) = map_append (move_element k) (in_tag i t) (in_tags (suc i) ts) ∙ rw (in_tag_moved i t, in_tags_moved (suc i) ts)

  module _ (s : List ℕ) where
    tag_further : (n i at : ℕ) → tag_again n i s (at + k) ≡ map (move_element k) (tag_again n i (drop k s) at)
    unfolding tag_again
    tag_further zero i at = refl
    tag_further (suc n) i at = rw (part_again_further k s at, tag_further n i (part_again (drop k s) at).next)

    pub all_further : (n i at : ℕ) → all_again n i s (at + k) ≡ map (move_element k) (all_again n i (drop k s) at)
    unfolding all_again
    all_further zero i at = refl
    all_further (suc n) i at =
        let t = drop k s in
        let c = count_again t at in
        let e = texts_end c.value t c.next in
        rw (count_again_further k s at, tag_further c.value i c.next, texts_end_further k s c.value c.next, all_further n (suc i) e)
        (sym (map_append (move_element k) (tag_again c.value i t c.next) (all_again n (suc i) t e)))
