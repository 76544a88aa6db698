-- Which event a JSON value is (rules 7): a statement about RFC 8259's tree alone, with no reader in it. Assumes
-- nothing.
use Rattle.std.specs.Prelude.{ℕ, ◌≤◌, ◌≡◌, List, [], ◌∷◌}
use Rattle.scan.specs.Ascii.{ascii}
use Rattle.scan.specs.Bytes.{All}
use Rattle.hexdigits.specs.Hex.{hexes}
use Rattle.decimal.specs.Decimal.{DecimalDigit, number_of}
use Rattle.event.specs.Event.{Text, Tag, Event, Valid}
use Rattle.jsontext.specs.Grammar as json

-- ---- the seven names

abbrev pub names : List Text
names = ascii "id" ∷ ascii "pubkey" ∷ ascii "sig" ∷ ascii "created_at" ∷ ascii "kind" ∷ ascii "tags" ∷ ascii "content" ∷ []

-- the values of the members that have a name, in their order; a name is the characters that it is spelled with
pub data Values (t : Text) : json.Members → List json.Json → Type 0 where
  no_value : Values t json.no_member []
  named : {n : List ℕ} {v : json.Json} {m : json.Members} {l : List json.Json} → json.Chars n t → Values t m l → Values t (json.member n v m) (v ∷ l)
  other : {n u : List ℕ} {v : json.Json} {m : json.Members} {l : List json.Json} → json.Chars n u → (u ≡ t → ⊥) → Values t m l
      → Values t (json.member n v m) l

-- ---- what a value says

-- a string says its text
pub data IsText : json.Json → Text → Type 0 where
  is_text : {l t : List ℕ} → json.Chars l t → IsText (json.string l) t

-- bytes in lowercase hex
pub data IsHex : json.Json → List ℕ → Type 0 where
  is_hex : {l b : List ℕ} → json.Chars l (hexes b) → IsHex (json.string l) b

-- digits alone: no sign, fraction or exponent
pub data IsNumber : json.Json → ℕ → Type 0 where
  is_number : {l : List ℕ} → All DecimalDigit l → IsNumber (json.number l) (number_of l)

-- an array, item by item
pub data Each {A : Type 0} (Is : json.Json → A → Type 0) : json.Items → List A → Type 0 where
  none : Each Is json.no_item []
  also : {v : json.Json} {i : json.Items} {x : A} {l : List A} → Is v x → Each Is i l → Each Is (json.item v i) (x ∷ l)

pub data IsArray {A : Type 0} (Is : json.Json → A → Type 0) : json.Json → List A → Type 0 where
  is_array : {i : json.Items} {l : List A} → Each Is i l → IsArray Is (json.array i) l

abbrev pub IsTag : json.Json → Tag → Type 0
IsTag = IsArray IsText

-- the name stands once, and its value says x
pub data Once {A : Type 0} (m : json.Members) (t : Text) (Is : json.Json → A → Type 0) (x : A) : Type 0 where
  once : {v : json.Json} → Values t m (v ∷ []) → Is v x → Once m t Is x

-- the members of an object that say an event: the seven once each, nothing filled in, other names ignored
pub record Says (m : json.Members) (e : Event) : Type 0 where
  pub id : Once m (ascii "id") IsHex e.id
  pub pubkey : Once m (ascii "pubkey") IsHex e.pubkey
  pub sig : Once m (ascii "sig") IsHex e.sig
  pub created_at : Once m (ascii "created_at") IsNumber e.created_at
  pub kind : Once m (ascii "kind") IsNumber e.kind
  pub tags : Once m (ascii "tags") (IsArray IsTag) e.tags
  pub content : Once m (ascii "content") IsText e.content

-- a name is one of the seven
pub data OneOf : List Text → Text → Type 0 where
  first : {t : Text} {l : List Text} → OneOf (t ∷ l) t
  later : {t u : Text} {l : List Text} → OneOf l t → OneOf (u ∷ l) t

-- a value of no known name nests at most 16 arrays and objects
pub data Shallow : json.Members → Type 0 where
  no_member : Shallow json.no_member
  known : {n t : List ℕ} {v : json.Json} {m : json.Members} → json.Chars n t → OneOf names t → Shallow m → Shallow (json.member n v m)
  ignored : {n : List ℕ} {v : json.Json} {m : json.Members} → json.nesting v ≤ 16 → Shallow m → Shallow (json.member n v m)

-- the event that a JSON value is
pub data IsEvent : json.Json → Event → Type 0 where
  is_event : {m : json.Members} {e : Event} → Says m e → Valid e → Shallow m → IsEvent (json.object m) e
