-- NSON's text of an event that is carried and valid is a JSON text (RFC 8259), and its tree is `tree`.
-- Member by member; the nson field is the hex of bytes, since its counts are such as a field can hold.
use Prim.Native.Nat.{ℕ, ◌*◌, ◌/◌, ◌%◌, ◌≤◌}
use mathlib.Core.Path.{refl, subst}
use mathlib.Core.List.{List, [], ◌∷◌, append-nil}
use native.Mathlib.Omega.{arith}
use lib.ListN.{length}
use Rattle.scan.specs.Ascii.{ascii}
use Rattle.scan.specs.Place.{within}
use Rattle.scan.specs.Bytes.{All, none, also, IsBytes}
use Rattle.scan.proofs.AllLaws.{all_append}
use Rattle.utf8.specs.Utf8.{Utf8}
use Rattle.escape.specs.Escape.{nson_byte}
use Rattle.event.specs.Event.{Text, Tag, Event, ValidTag, Valid}
use Rattle.jsontags.specs.TagText.{quoted, tag_text, tags_text}
use Rattle.jsontext.specs.Grammar as json
use Rattle.nson.specs.Nson.{Counts, counts, word, words, tag_counts, descriptors, nson_field, nson}
use Rattle.nson.specs.Carries.{Fits, Carries}
use Rattle.nson.proofs.Counts.{Short, TagCounts, Holds}
use Rattle.nson.proofs.Carrying.{descriptors_length, carried_holds}
use Rattle.jsontext.proofs.Compact.{hexes_chars, name_chars, decimal_number, string_spells, member_spells, more_members, object_text}
use Rattle.agreement.proofs.Texts.{nson_chars}
use Rattle.agreement.proofs.Spelled.{Spelt, array_spells}
use Rattle.agreement.proofs.Tree.{text_tree, tag_tree, tags_tree, members, tree, front, back, nson_members}

-- ---- the bytes of the nson field. General: belongs to crate nson

word_bytes : (n : ℕ) → n ≤ 65_535 → IsBytes (word n)
word_bytes n h = also {b = n / 256} (omega arith) (also {b = n % 256} (omega arith) none)

words_bytes : {l : List ℕ} → All Short l → IsBytes (words l)
words_bytes none = none
words_bytes (also {b = n} h r) = all_append (word_bytes n h) (words_bytes r)

tags_bytes : {l : List (List ℕ)} → All TagCounts l → IsBytes (tag_counts l)
tags_bytes none = none
tags_bytes (also {b = t} h r) = let few = h.few in also {b = length t} (omega arith) (all_append (words_bytes h.each) (tags_bytes r))

counts_bytes : {c : Counts} → Holds c → IsBytes (descriptors c)
counts_bytes {c} h =
    let five = h.five in
    let few = h.few in
    also {b = c.kind} (omega arith) (all_append (word_bytes c.content h.content) (also {b = length c.tags} (omega arith) (tags_bytes h.each)))

-- what the field is the hex of
pub field_bytes : {e : Event} → Carries e → Valid e → IsBytes (2 * length (descriptors (counts e)) ∷ descriptors (counts e))
field_bytes {e} c v =
    let few = c.few in
    also {b = 2 * length (descriptors (counts e))} (omega (arith, descriptors_length e)) (counts_bytes (carried_holds c v))

pub field_chars : {e : Event} → Carries e → Valid e → json.Chars (nson_field (counts e)) (nson_field (counts e))
unfolding nson_field
field_chars c v = hexes_chars (field_bytes c v)

-- ---- the tags

text_spells : {t : Text} → Fits t → Utf8 t → Spelt text_tree (quoted nson_byte) t
unfolding quoted
text_spells f u = record { spells = string_spells (nson_chars u f.plain) }

texts_spell : {t : Tag} → All Fits t → All Utf8 t → All (Spelt text_tree (quoted nson_byte)) t
texts_spell none none = none
texts_spell (also f p) (also u q) = also (text_spells f u) (texts_spell p q)

tag_spells : {t : Tag} → All Fits t → All Utf8 t → Spelt tag_tree (tag_text nson_byte) t
unfolding tag_text
tag_spells f u = record { spells = array_spells (texts_spell f u) }

tag_list : {l : List Tag} → All (All Fits) l → All ValidTag l → All (Spelt tag_tree (tag_text nson_byte)) l
tag_list none none = none
tag_list (also f p) (also v q) = also (tag_spells f v.texts) (tag_list p q)

tags_spell : {l : List Tag} → All (All Fits) l → All ValidTag l → json.Spells (tags_tree l) (tags_text nson_byte l)
unfolding tags_text
tags_spell f v = array_spells (tag_list f v)

-- ---- the whole

tree_spells : {e : Event} → Carries e → Valid e → json.SpellsMembers (members e) (front e (back e))
unfolding within
tree_spells {e} c v =
    let fit = c.content in
    let tags = member_spells (name_chars (ascii "tags") refl) (tags_spell c.texts v.each) in
    let content = member_spells (name_chars (ascii "content") refl) (string_spells (nson_chars v.text fit.plain)) in
    let kind = member_spells (name_chars (ascii "kind") refl) (json.is_number (decimal_number e.kind)) in
    let nson = member_spells (name_chars (ascii "nson") refl) (string_spells (field_chars c v)) in
    let time = member_spells (name_chars (ascii "created_at") refl) (json.is_number (decimal_number e.created_at)) in
    let sig = member_spells (name_chars (ascii "sig") refl) (string_spells (hexes_chars v.sig64.each)) in
    let pubkey = member_spells (name_chars (ascii "pubkey") refl) (string_spells (hexes_chars v.pubkey32.each)) in
    let id = member_spells (name_chars (ascii "id") refl) (string_spells (hexes_chars v.id32.each)) in
    more_members id (more_members pubkey (more_members sig (more_members time (more_members nson (more_members kind (more_members content (json.last_member tags)))))))

-- THE text: what the NSON writer writes is a JSON text, and its tree is `tree`
pub tree_text : {e : Event} → Carries e → Valid e → json.JsonText (tree e) (nson e)
tree_text {e} c v =
    let l = nson e in
    let g : json.Spells (tree e) l = subst (json.Spells (tree e)) (nson_members e) (object_text (tree_spells c v)) in
    subst (json.JsonText (tree e)) (append-nil l) (json.text {w = []} {l = l} {x = []} none g none)
