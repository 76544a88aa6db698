-- The tree of NSON's text, with everything as it is spelled; and the text put as an object with eight members.
-- Both spellings are brought to one with all brackets to the right; what the fixed pieces hold is then found by
-- computation.
use Prim.Native.Nat.{ℕ}
use mathlib.Core.Path.{◌≡◌, sym, ◌∙◌}
use mathlib.Core.List.{List, [], ◌∷◌, ◌++◌, map, append_assoc}
use Rattle.scan.specs.Ascii.{ascii}
use Rattle.hexdigits.specs.Hex.{hexes}
use Rattle.decimal.specs.Decimal.{decimal}
use Rattle.escape.specs.Escape.{nson_byte, escaped}
use Rattle.event.specs.Event.{Text, Tag, Event}
use Rattle.jsontags.specs.TagText.{tags_text}
use Rattle.jsontext.specs.Grammar as json
use Rattle.nson.specs.Nson.{id_label, pubkey_label, sig_label, time_label, nson_label, kind_label, content_label, tags_label, counts, nson_field, head_text, body_text, nson}
use Rattle.jsontext.proofs.Compact.{string, member, comma, braces, array_of}

-- ---- the tree

-- a text, as it is spelled
abbrev pub text_tree : Text → json.Json
text_tree t = json.string (escaped nson_byte t)

abbrev pub tag_tree : Tag → json.Json
tag_tree t = array_of (map text_tree t)

abbrev pub tags_tree : List Tag → json.Json
tags_tree l = array_of (map tag_tree l)

abbrev pub members : Event → json.Members
members e =
    json.member (ascii "id") (json.string (hexes e.id))
    (json.member (ascii "pubkey") (json.string (hexes e.pubkey))
    (json.member (ascii "sig") (json.string (hexes e.sig))
    (json.member (ascii "created_at") (json.number (decimal e.created_at))
    (json.member (ascii "nson") (json.string (nson_field (counts e)))
    (json.member (ascii "kind") (json.number (decimal e.kind))
    (json.member (ascii "content") (text_tree e.content)
    (json.member (ascii "tags") (tags_tree e.tags) json.no_member)))))))

abbrev pub tree : Event → json.Json
tree e = json.object (members e)

-- ---- the text, member by member

abbrev pub front : Event → List ℕ → List ℕ
front e l =
    comma (member (ascii "id") (string (hexes e.id)))
    (comma (member (ascii "pubkey") (string (hexes e.pubkey))) (comma (member (ascii "sig") (string (hexes e.sig))) (comma (member (ascii "created_at") (decimal e.created_at)) l)))

abbrev pub back : Event → List ℕ
back e =
    comma (member (ascii "nson") (string (nson_field (counts e))))
    (comma (member (ascii "kind") (decimal e.kind))
    (comma (member (ascii "content") (string (escaped nson_byte e.content))) (member (ascii "tags") (tags_text nson_byte e.tags))))

-- eight members in a row, with all brackets to the right. o is {  c is ,  z is }  q is "  a is :"  b is :  the n are
-- names and the x values
members_right : (o c z q a b n₁ n₂ n₃ n₄ n₅ n₆ n₇ n₈ x₁ x₂ x₃ x₄ x₅ x₆ x₇ x₈ : List ℕ)
    → o ++ (((n₁ ++ (a ++ (x₁ ++ q))) ++ (c ++ ((n₂ ++ (a ++ (x₂ ++ q))) ++ (c ++ ((n₃ ++ (a ++ (x₃ ++ q))) ++ (c ++ ((n₄ ++ (b ++ x₄)) ++ (c
    ++ ((n₅ ++ (a ++ (x₅ ++ q))) ++ (c ++ ((n₆ ++ (b ++ x₆)) ++ (c ++ ((n₇ ++ (a ++ (x₇ ++ q))) ++ (c ++ (n₈ ++ (b ++ x₈)))))))))))))))) ++ z)
    ≡ o ++ (n₁ ++ (a ++ (x₁ ++ (q ++ (c ++ (n₂ ++ (a ++ (x₂ ++ (q ++ (c ++ (n₃ ++ (a ++ (x₃ ++ (q ++ (c ++ (n₄ ++ (b ++ (x₄
    ++ (c ++ (n₅ ++ (a ++ (x₅ ++ (q ++ (c ++ (n₆ ++ (b ++ (x₆ ++ (c ++ (n₇ ++ (a ++ (x₇ ++ (q ++ (c ++ (n₈ ++ (b ++ (x₈ ++ z))))))))))))))))))))))))))))))))))))
members_right o c z q a b n₁ n₂ n₃ n₄ n₅ n₆ n₇ n₈ x₁ x₂ x₃ x₄ x₅ x₆ x₇ x₈ = simp append_assoc

-- the same of the nine labels with the eight texts between them
labels_right : (l₀ l₁ l₂ l₃ l₄ l₅ l₆ l₇ l₈ x₁ x₂ x₃ x₄ x₅ x₆ x₇ x₈ : List ℕ)
    → (l₀ ++ x₁ ++ l₁ ++ x₂ ++ l₂ ++ x₃ ++ l₃ ++ x₄ ++ l₄) ++ x₅ ++ (l₅ ++ x₆ ++ l₆ ++ x₇ ++ l₇ ++ x₈ ++ l₈)
    ≡ l₀ ++ (x₁ ++ (l₁ ++ (x₂ ++ (l₂ ++ (x₃ ++ (l₃ ++ (x₄ ++ (l₄ ++ (x₅ ++ (l₅ ++ (x₆ ++ (l₆ ++ (x₇ ++ (l₇ ++ (x₈ ++ l₈)))))))))))))))
labels_right l₀ l₁ l₂ l₃ l₄ l₅ l₆ l₇ l₈ x₁ x₂ x₃ x₄ x₅ x₆ x₇ x₈ = simp append_assoc

-- so NSON's text is the object with the eight members
pub nson_members : (e : Event) → braces (front e (back e)) ≡ nson e
unfolding nson head_text body_text
nson_members e =
    let i = hexes e.id in
    let p = hexes e.pubkey in
    let g = hexes e.sig in
    let t = decimal e.created_at in
    let f = nson_field (counts e) in
    let k = decimal e.kind in
    let c = escaped nson_byte e.content in
    let a = tags_text nson_byte e.tags in
    members_right (0x7B ∷ []) (0x2C ∷ []) (0x7D ∷ []) (0x22 ∷ []) (0x3A ∷ 0x22 ∷ []) (0x3A ∷ []) (string (ascii "id")) (string (ascii "pubkey")) (string (ascii "sig"))
    (string (ascii "created_at")) (string (ascii "nson")) (string (ascii "kind")) (string (ascii "content")) (string (ascii "tags")) i p g t f k c a
    ∙ sym (labels_right id_label pubkey_label sig_label time_label nson_label kind_label content_label tags_label (ascii "}") i p g t f k c a)
