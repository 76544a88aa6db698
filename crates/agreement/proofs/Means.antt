-- The tree of NSON's text is the event.
-- Each of the seven names stands once, which is found by computation; each value says what was spelled.
use Prim.Native.Nat.{ℕ}
use mathlib.Core.Path.{refl, subst}
use mathlib.Core.List.{List, map}
use native.Mathlib.Omega.{arith}
use Rattle.scan.specs.Ascii.{ascii}
use Rattle.scan.specs.Place.{within}
use Rattle.scan.specs.Bytes.{All, none, also, IsBytes}
use Rattle.utf8.specs.Utf8.{Utf8}
use Rattle.hexdigits.specs.Hex.{hexes}
use Rattle.decimal.specs.Decimal.{decimal}
use Rattle.decimal.proofs.Spelling.{decimal_digits, number_decimal}
use Rattle.scan.specs.Compare.{same_bytes}
use Rattle.event.specs.Event.{Text, Tag, Event, ValidTag, Valid}
use Rattle.jsontext.specs.Grammar as json
use Rattle.jsonevent.specs.Meaning.{Values, IsText, is_text, IsHex, is_hex, IsNumber, is_number, Each, is_array, IsTag, once, Says, first, later, Shallow, no_member, known, ignored, IsEvent, is_event}
use Rattle.nson.specs.Nson.{counts, nson_field}
use Rattle.nson.specs.Carries.{Fits, Carries}
use Rattle.jsontext.proofs.Compact.{hexes_chars, name_chars, items}
use Rattle.agreement.proofs.Texts.{nson_chars}
use Rattle.agreement.proofs.Naming.{plain_values, plain_values_lem}
use Rattle.agreement.proofs.Tree.{text_tree, tag_tree, members, tree}

-- ---- values

hex_is : {b : List ℕ} → IsBytes b → IsHex (json.string (hexes b)) b
hex_is h = is_hex (hexes_chars h)

number_is : (n : ℕ) → IsNumber (json.number (decimal n)) n
number_is n = subst (IsNumber (json.number (decimal n))) (number_decimal n) (is_number (decimal_digits n))

text_is : {t : Text} → Fits t → Utf8 t → IsText (text_tree t) t
text_is f u = is_text (nson_chars u f.plain)

-- a spelled array, item by item
module _ {A : Type 0} (Is : json.Json → A → Type 0) (f : A → json.Json) where
  each_is : {l : List A} → All (λ (x : A). Is (f x) x) l → Each Is (items (map f l)) l
  each_is none = Each.none
  each_is (also g r) = Each.also g (each_is r)

texts_are : {t : Tag} → All Fits t → All Utf8 t → All (λ (x : Text). IsText (text_tree x) x) t
texts_are none none = none
texts_are (also f p) (also u q) = also (text_is f u) (texts_are p q)

tags_are : {l : List Tag} → All (All Fits) l → All ValidTag l → All (λ (t : Tag). IsTag (tag_tree t) t) l
tags_are none none = none
tags_are (also f p) (also v q) = also (is_array (each_is IsText text_tree (texts_are f v.texts))) (tags_are p q)

-- ---- members

-- the values of a name
values : (e : Event) (t : Text) → Values t (members e) (plain_values t (members e))
unfolding within
values e t = plain_values_lem t (members e) refl

says : {e : Event} → Carries e → Valid e → Says (members e) e
unfolding same_bytes
says {e} c v =
    record {
      id = once (values e (ascii "id")) (hex_is v.id32.each);
      pubkey = once (values e (ascii "pubkey")) (hex_is v.pubkey32.each);
      sig = once (values e (ascii "sig")) (hex_is v.sig64.each);
      created_at = once (values e (ascii "created_at")) (number_is e.created_at);
      kind = once (values e (ascii "kind")) (number_is e.kind);
      tags = once (values e (ascii "tags")) (is_array (each_is IsTag tag_tree (tags_are c.texts v.each)));
      content = once (values e (ascii "content")) (text_is c.content v.text);
    }

-- the one name that is ignored has a string
shallow : (e : Event) → Shallow (members e)
unfolding within
shallow e =
    known (name_chars (ascii "id") refl) first
    (known (name_chars (ascii "pubkey") refl) (later first)
    (known (name_chars (ascii "sig") refl) (later (later first))
    (known (name_chars (ascii "created_at") refl) (later (later (later first)))
    (ignored {v = json.string (nson_field (counts e))} (omega arith)
    (known (name_chars (ascii "kind") refl) (later (later (later (later first))))
    (known (name_chars (ascii "content") refl) (later (later (later (later (later (later first))))))
    (known (name_chars (ascii "tags") refl) (later (later (later (later (later first))))) no_member)))))))

-- THE meaning: the tree of an event's text is the event
pub tree_event : {e : Event} → Carries e → Valid e → IsEvent (tree e) e
tree_event {e} c v = is_event (says c v) v (shallow e)
