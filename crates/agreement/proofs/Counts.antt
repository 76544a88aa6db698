-- In a text that the NSON reader accepts every count is true (rules 12.3.8 and 12.3.9).
-- An accepted string is the writer's own text, so its tree is the event's; the field says one size and one set of
-- counts, the event's.
use Prim.Native.Nat.{ℕ, ◌+◌, ◌*◌}
use mathlib.Core.Path.{◌≡◌, refl, sym, subst}
use mathlib.Core.List.{List, [], ◌∷◌, map}
use native.Mathlib.Omega.{arith}
use lib.ListN.{length}
use Rattle.scan.specs.Ascii.{ascii}
use Rattle.scan.specs.Choice.{shown}
use Rattle.scan.specs.Place.{within}
use Rattle.hexdigits.specs.Hex.{hexes}
use Rattle.hexdigits.proofs.Texts.{length_hexes}
use Rattle.scan.specs.Compare.{same_bytes}
use Rattle.event.specs.Event.{Text, Tag, Event, Valid}
use Rattle.jsontext.proofs.OneValue.{chars_one, one_value}
use Rattle.jsontext.specs.Grammar as json
use Rattle.jsonevent.specs.Meaning.{Values, IsHex, is_hex, Each, IsArray, is_array, once}
use Rattle.jsonevent.proofs.OneEvent.{values_one}
use Rattle.nson.specs.Nson.{Counts, escaped_size, counts, descriptors, nson_field}
use Rattle.nson.specs.Carries.{Carries}
use Rattle.nson.specs.Read.{read_nson}
use Rattle.nson.proofs.Sound.{accepted, field_true, size_true}
use Rattle.agreement.specs.Counted.{StringOf, string_of, number_of_lem, TrueCounts, FieldHolds}
use Rattle.agreement.specs.Demand3.{NoLie, CountsFollowed}
use Rattle.jsontext.proofs.Compact.{items}
use Rattle.agreement.proofs.Tree.{text_tree, tag_tree, members, tree}
use Rattle.agreement.proofs.Naming.{plain_values_lem}
use Rattle.agreement.proofs.Written.{field_chars, tree_text}
use Rattle.agreement.proofs.OneField.{hexes_one, counts_one}

-- ---- the event's counts are those of its tree

module _ {A B : Type 0} (Is : json.Json → B → Type 0) (f : A → json.Json) (size : A → B) where
  each_of : ((x : A) → Is (f x) (size x)) → (l : List A) → Each Is (items (map f l)) (map size l)
  each_of g [] = Each.none
  each_of g (x ∷ l) = Each.also (g x) (each_of g l)

text_of_lem : (t : Text) → StringOf (text_tree t) (escaped_size t)
unfolding escaped_size
text_of_lem t = string_of

tag_of : (t : Tag) → IsArray StringOf (tag_tree t) (map escaped_size t)
tag_of t = is_array (each_of StringOf text_tree escaped_size text_of_lem t)

-- the size counts what is behind it
field_long : (c : Counts) → length (nson_field c) ≡ 2 + 2 * length (descriptors c)
unfolding nson_field
field_long c = omega (arith, length_hexes (descriptors c))

true_counts : (e : Event) → TrueCounts (members e) (2 * length (descriptors (counts e))) (counts e)
unfolding counts escaped_size same_bytes within
true_counts e =
    record {
      behind = once (plain_values_lem (ascii "nson") (members e) refl) (subst (StringOf (json.string (nson_field (counts e)))) (field_long (counts e)) string_of);
      kind = once (plain_values_lem (ascii "kind") (members e) refl) number_of_lem;
      content = once (plain_values_lem (ascii "content") (members e) refl) string_of;
      tags = once (plain_values_lem (ascii "tags") (members e) refl) (is_array (each_of (IsArray StringOf) tag_tree (map escaped_size) tag_of e.tags));
    }

-- ---- what the field holds

field_values : (e : Event) → Values (ascii "nson") (members e) (json.string (nson_field (counts e)) ∷ [])
unfolding same_bytes within
field_values e = plain_values_lem (ascii "nson") (members e) refl

holds_own : {e : Event} → Carries e → Valid e → FieldHolds (members e) (2 * length (descriptors (counts e))) (counts e)
unfolding nson_field
holds_own {e} c v = once (field_values e) (is_hex (field_chars c v))

hex_string : {l b : List ℕ} → IsHex (json.string l) b → json.Chars l (hexes b)
hex_string (is_hex e) = e

-- nothing else
holds_one : {e : Event} {size : ℕ} {c : Counts} → Carries e → Valid e → FieldHolds (members e) size c → (2 * length (descriptors (counts e)) ≡ size) × (counts e ≡ c)
unfolding nson_field
holds_one {e} {size} {c} k v (once {v = w} q g) =
    let f : json.string (nson_field (counts e)) ∷ [] ≡ w ∷ [] = values_one (field_values e) q in
    let same : json.string (nson_field (counts e)) ≡ w = cc in
    let h = hex_string (rw (sym same) at g) in
    let own = descriptors (counts e) in
    let all : 2 * length own ∷ own ≡ size ∷ descriptors c = hexes_one (2 * length own ∷ own) (size ∷ descriptors c) (chars_one (field_chars k v) h) in
    let rest : own ≡ descriptors c = cc in
    (cc, counts_one (counts e) c rest)

-- ---- the sentences

own_text : {s : List ℕ} {e : Event} → read_nson s ≡ shown e → json.JsonText (tree e) s
own_text r = let a = accepted r in rw a.text (tree_text a.carries a.valid)

pub no_lie : NoLie
no_lie s e r m t size c h =
    let a = accepted r in
    let o : json.object m ≡ tree e = one_value t (own_text r) in
    let same : m ≡ members e = cc in
    let one = holds_one {c = c} a.carries a.valid (rw same at h) in
    rw (same, sym one.0, sym one.1) (true_counts e)

pub counts_followed : CountsFollowed
counts_followed s e r =
    let a = accepted r in
    let f = field_true r in
    record {
      members = members e;
      text = own_text r;
      only = λ v t. one_value t (own_text r);
      counts = counts e;
      behind = f.0;
      read_there = f.1;
      held = rw (size_true s r) (holds_own a.carries a.valid);
    }
