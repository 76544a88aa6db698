-- An event and the bytes of its elements fix the packed bytes, and these are strict exactly if each element is.
-- Along the layout: a number has one spelling. No strict element is longer than another, so where the bytes agree as a
-- whole, they agree element by element.
use Prim.Native.Nat.{ℕ, ◌≤◌}
use mathlib.Core.Path.{◌≡◌, refl, sym, ap, ◌∙◌}
use mathlib.Core.List.{List, [], ◌∷◌, ◌++◌, map, flatten}
use mathlib.Core.Bool.{true}
use mathlib.Core.Logic.{◌↔◌}
use native.Mathlib.Omega.{arith}
use lib.ListN.{length, length-append}
use Rattle.scan.specs.Choice.{shown}
use Rattle.varint.specs.Uleb.{uleb}
use Rattle.varint.proofs.UlebLaws.{spells_only}
use Rattle.event.specs.Event.{Tag, Event}
use Rattle.notepack.specs.Layout.{Element, as_text, as_bytes, Elements, TagLays, Tags, Lays, lays}
use Rattle.notepack.specs.Strict.{pack_element, pack_elements, pack_tag, pack_tags, pack}
use Rattle.notepack.specs.Unpack.{unpack}
use Rattle.notepack.proofs.Piece.{text_piece, bytes_piece, halves}
use Rattle.strict.specs.Strict.{strict}
use Rattle.strict.proofs.Laws.{strict_exactly}
use Rattle.agreement.specs.Stored.{StoredTag, Stored, tags_with, packed_with, stored_strict}

-- ---- the layout, by its elements

join : {a b c d : List ℕ} → a ≡ c → b ≡ d → a ++ b ≡ c ++ d
join p q = cc

elements_stored : {ts : Tag} {l : List ℕ} → Elements ts l → (ls : List (List ℕ)) × StoredTag ts ls × (l ≡ flatten ls)
unfolding flatten
elements_stored Elements.none = ([], StoredTag.none, refl)
elements_stored (Elements.more {l = l} g h) = let r = elements_stored h in (l ∷ r.0, StoredTag.more g r.1, ap (λ (m : List ℕ). l ++ m) r.2)

stored_count : {ts : Tag} {ls : List (List ℕ)} → StoredTag ts ls → length ts ≡ length ls
stored_count StoredTag.none = refl
stored_count (StoredTag.more g h) = let e = stored_count h in omega (arith, e)

tag_stored : {ts : Tag} {l : List ℕ} → TagLays ts l → (ls : List (List ℕ)) × StoredTag ts ls × (l ≡ uleb (length ls) ++ flatten ls)
tag_stored (TagLays.tag d h) =
    let r = elements_stored h in
    (r.0, r.1, join (spells_only d ∙ ap uleb (stored_count r.1)) r.2)

tags_stored : {ts : List Tag} {l : List ℕ} → Tags ts l → (ls : List (List (List ℕ))) × Stored ts ls × (l ≡ tags_with ls)
tags_stored Tags.none = ([], Stored.none, refl)
tags_stored (Tags.more g h) =
    let a = tag_stored g in
    let b = tags_stored h in
    (a.0 ∷ b.0, Stored.more a.1 b.1, join a.2 b.2)

-- the event and the bytes of its elements fix the rest
pub elements_decide : (s : List ℕ) (e : Event) → Lays e s → (ls : List (List (List ℕ))) × Stored e.tags ls × (s ≡ packed_with e ls)
unfolding packed_with
elements_decide s e (lays a b c d t) =
    let r = tags_stored t in
    let numbers = join (spells_only a) (join (spells_only b) (join (spells_only c) (join {a = e.content} refl (join (spells_only d) r.2)))) in
    (r.0, r.1, join {a = e.id} refl (join {a = e.pubkey} refl (join {a = e.sig} refl numbers)))

-- ---- the strict elements

strict_row : (ts : Tag) → flatten (map pack_element ts) ≡ pack_elements ts
unfolding flatten
strict_row [] = refl
strict_row (t ∷ ts) = ap (λ (m : List ℕ). pack_element t ++ m) (strict_row ts)

strict_count : (ts : Tag) → length (map pack_element ts) ≡ length ts
strict_count [] = refl
strict_count (t ∷ ts) = let e = strict_count ts in omega (arith, e)

strict_tags : (ts : List Tag) → tags_with (stored_strict ts) ≡ pack_tags ts
unfolding pack_tag
strict_tags [] = refl
strict_tags (t ∷ ts) = rw (strict_count t, strict_row t, strict_tags ts)

packed_strict : (e : Event) → packed_with e (stored_strict e.tags) ≡ pack e
unfolding packed_with pack
packed_strict e = rw (strict_tags e.tags)

-- none is longer than another that tells the same text
element_least : {t l : List ℕ} → Element t l → length (pack_element t) ≤ length l
element_least (as_text {t = t} d) = (text_piece t d).least
element_least (as_bytes {p = p} b d) = (bytes_piece p b d).least

row_least : {ts : Tag} {ls : List (List ℕ)} → StoredTag ts ls → length (pack_elements ts) ≤ length (flatten ls)
unfolding flatten
row_least StoredTag.none = omega arith
row_least (StoredTag.more {t = t} {l = l} {ts = ts} {ls = ls} g h) =
    omega (arith, element_least g, row_least h, length-append (pack_element t) (pack_elements ts), length-append l (flatten ls))

tag_least : {ts : Tag} {ls : List (List ℕ)} → StoredTag ts ls → length (pack_tag ts) ≤ length (uleb (length ls) ++ flatten ls)
unfolding pack_tag
tag_least {ts} {ls} h =
    rw (stored_count h)
    (omega (arith, row_least h, length-append (uleb (length ls)) (pack_elements ts), length-append (uleb (length ls)) (flatten ls)))

tags_least : {ts : List Tag} {ls : List (List (List ℕ))} → Stored ts ls → length (pack_tags ts) ≤ length (tags_with ls)
tags_least Stored.none = omega arith
tags_least (Stored.more {t = t} {l = l} {ts = ts} {ls = ls} g h) =
    omega (arith, tag_least g, tags_least h, length-append (pack_tag t) (pack_tags ts), length-append (uleb (length l) ++ flatten l) (tags_with ls))

-- ---- the same bytes, so the same elements

-- two parts that are each no shorter than the strict one, and the same bytes when joined
parts : (a b c d : List ℕ) → length c ≤ length a → length d ≤ length b → a ++ b ≡ c ++ d → (a ≡ c) × (b ≡ d)
parts a b c d h k e = halves a b c d (omega (arith, ap length e, length-append a b, length-append c d)) e

row_same : {ts : Tag} {ls : List (List ℕ)} → StoredTag ts ls → flatten ls ≡ pack_elements ts → ls ≡ map pack_element ts
unfolding flatten
row_same StoredTag.none e = refl
row_same (StoredTag.more {t = t} {l = l} {ts = ts} {ls = ls} g h) e =
    let p = parts l (flatten ls) (pack_element t) (pack_elements ts) (element_least g) (row_least h) e in
    rw (p.0, row_same h p.1)

tag_same : {ts : Tag} {ls : List (List ℕ)} → StoredTag ts ls → uleb (length ls) ++ flatten ls ≡ pack_tag ts → ls ≡ map pack_element ts
unfolding pack_tag
tag_same {ts} {ls} h e =
    let f : uleb (length ls) ++ flatten ls ≡ uleb (length ls) ++ pack_elements ts = e ∙ ap (λ (n : ℕ). uleb n ++ pack_elements ts) (stored_count h) in
    row_same h (halves (uleb (length ls)) (flatten ls) (uleb (length ls)) (pack_elements ts) refl f).1

tags_same : {ts : List Tag} {ls : List (List (List ℕ))} → Stored ts ls → tags_with ls ≡ pack_tags ts → ls ≡ stored_strict ts
tags_same Stored.none e = refl
tags_same (Stored.more {t = t} {l = l} {ts = ts} {ls = ls} g h) e =
    let p = parts (uleb (length l) ++ flatten l) (tags_with ls) (pack_tag t) (pack_tags ts) (tag_least g) (tags_least h) e in
    rw (tag_same g p.0, tags_same h p.1)

-- what stands behind the same bytes
behind : (a : List ℕ) {b c : List ℕ} → a ++ b ≡ a ++ c → b ≡ c
behind a {b} {c} e = (halves a b a c refl e).1

packed_same : (e : Event) {ls : List (List (List ℕ))} → Stored e.tags ls → packed_with e ls ≡ pack e → ls ≡ stored_strict e.tags
unfolding packed_with pack
packed_same e h q =
    tags_same h
    (behind (uleb (length e.tags))
    (behind e.content
    (behind (uleb (length e.content))
    (behind (uleb e.kind) (behind (uleb e.created_at) (behind e.sig (behind e.pubkey (behind e.id q))))))))

-- strict exactly if each element is
pub strict_elements : (s : List ℕ) (e : Event) (ls : List (List (List ℕ))) → unpack s ≡ shown e → Stored e.tags ls → s ≡ packed_with e ls
    → (strict s ≡ shown true) ↔ (ls ≡ stored_strict e.tags)
strict_elements s e ls u h q = (there, back)
  where
    there : strict s ≡ shown true → ls ≡ stored_strict e.tags
    there t =
        let r = (strict_exactly s).0 t in
        let same : r.0 ≡ e = cc in
        packed_same e h (sym q ∙ r.2 ∙ ap pack same)

    back : ls ≡ stored_strict e.tags → strict s ≡ shown true
    back f = (strict_exactly s).1 (e, u, q ∙ ap (packed_with e) f ∙ packed_strict e)
