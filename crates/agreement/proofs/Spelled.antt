-- Arrays as NSON writes them, item by item, are spelled as RFC 8259's grammar has it.
-- By induction on their items.
use Prim.Native.Nat.{ℕ}
use mathlib.Core.List.{List, [], ◌∷◌, map}
use Rattle.scan.specs.Bytes.{All, none, also}
use Rattle.jsontags.specs.TagText.{commaed, array}
use Rattle.jsontext.specs.Grammar as json
use Rattle.jsontext.proofs.Compact.{items, array_of, more_items, array_text, array_none}

-- an item's tree is spelled as f writes the item
pub record Spelt {A : Type 0} (tree : A → json.Json) (f : A → List ℕ) (x : A) : Type 0 where
  pub spells : json.Spells (tree x) (f x)

module _ {A : Type 0} {tree : A → json.Json} {f : A → List ℕ} where
  items_spell : (x : A) (l : List A) → Spelt tree f x → All (Spelt tree f) l → json.SpellsItems (items (map tree (x ∷ l))) (commaed (map f (x ∷ l)))
  items_spell x [] g none = json.last_item g.spells
  items_spell x (y ∷ l) g (also h r) = more_items g.spells (items_spell y l h r)

  -- an array of items that are spelled so
  pub array_spells : {l : List A} → All (Spelt tree f) l → json.Spells (array_of (map tree l)) (array (map f l))
  array_spells none = array_none
  array_spells (also {b = x} {l = l} g r) = array_text (items_spell x l g r)
