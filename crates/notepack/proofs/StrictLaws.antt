-- The strict form lays out its event, so by completeness it is read back; and it is the event's alone.
-- By the law of each piece: a shortest varint spells its number, a text that goes as bytes is the hex of those bytes.
use Prim.Native.Nat.{ℕ, ◌+◌, ◌*◌, ◌≤◌, ◌<◌, ◌^◌}
use mathlib.Core.Path.{◌≡◌, sym, ap, ◌∙◌}
use mathlib.Core.List.{List, [], ◌∷◌, ◌++◌}
use mathlib.Core.Logic.{◌↔◌}
use native.Mathlib.Omega.{arith}
use lib.ListN.{length, length-append}
use Rattle.scan.specs.Choice.{shown}
use Rattle.scan.specs.Bytes.{All, IsBytes}
use Rattle.scan.proofs.Step.{pick_by}
use Rattle.scan.proofs.AllLaws.{all_append}
use Rattle.varint.specs.Uleb.{uleb}
use Rattle.varint.proofs.UlebLaws.{uleb_spells, uleb_bytes}
use Rattle.hexdigits.specs.Hex.{unhex, goes_as_bytes}
use Rattle.hexdigits.proofs.Texts.{hexes_unhex, unhex_bytes, go_digits}
use Rattle.utf8.specs.Utf8.{Utf8}
use Rattle.utf8.proofs.Laws.{utf8_bytes}
use Rattle.event.specs.Event.{Text, Tag, Event, ValidTag, Valid}
use Rattle.notepack.specs.Layout.{Element, as_text, as_bytes, Elements, TagLays, Tags, Lays}
use Rattle.notepack.specs.Strict.{pack_element, pack_elements, pack_tag, pack_tags, pack}
use Rattle.notepack.specs.Unpack.{unpack}
use Rattle.notepack.proofs.Sound.{sound}
use Rattle.notepack.proofs.Complete.{complete}

-- a length that 64 bits hold twice over
small : (n : ℕ) → n ≤ 131_072 → 2 * n + 1 < 2 ^ 64
small n h = omega arith

element_lays : (t : Text) → length (pack_element t) ≤ 65_536 → Element t (pack_element t)
unfolding pack_element
element_lays t h =
    pick_by (λ (l : List ℕ). length l ≤ 65_536 → Element t l) (goes_as_bytes t)
    (λ g k.
    let d = go_digits t g in
    let e = hexes_unhex d.2 d.1 in
    let n : length (unhex t) ≤ 65_536 = omega (arith, k, length-append (uleb (2 * length (unhex t) + 1)) (unhex t)) in
    rw e at (as_bytes {p = unhex t} (unhex_bytes t) (uleb_spells (2 * length (unhex t) + 1) (omega arith))))
    (λ f k.
    let n : length t ≤ 65_536 = omega (arith, k, length-append (uleb (2 * length t)) t) in
    as_text {t = t} (uleb_spells (2 * length t) (omega arith)))
    h

elements_lay : (ts : Tag) → length (pack_elements ts) ≤ 65_536 → Elements ts (pack_elements ts)
elements_lay [] h = Elements.none
elements_lay (t ∷ ts) h =
    let n = length-append (pack_element t) (pack_elements ts) in
    Elements.more (element_lays t (omega (arith, n))) (elements_lay ts (omega (arith, n)))

tag_lays : (ts : Tag) → ValidTag ts → length (pack_tag ts) ≤ 65_536 → TagLays ts (pack_tag ts)
unfolding pack_tag
tag_lays ts v h =
    let n = length-append (uleb (length ts)) (pack_elements ts) in
    TagLays.tag (uleb_spells (length ts) (omega (arith, v.few))) (elements_lay ts (omega (arith, n)))

tags_lay : {ts : List Tag} → All ValidTag ts → length (pack_tags ts) ≤ 65_536 → Tags ts (pack_tags ts)
tags_lay All.none h = Tags.none
tags_lay (All.also {b = t} {l = ts} v w) h =
    let n = length-append (pack_tag t) (pack_tags ts) in
    Tags.more (tag_lays t v (omega (arith, n))) (tags_lay w (omega (arith, n)))

-- behind each ++ stands no more than the whole
tail_short : (a b : List ℕ) {n : ℕ} → length (a ++ b) ≤ n → length b ≤ n
tail_short a b h = omega (arith, length-append a b)

-- the strict form lays out its event
pub pack_lays : (e : Event) → Valid e → length (pack e) ≤ 65_536 → Lays e (pack e)
unfolding pack
pack_lays e v h =
    let p = tail_short e.id _ h in
    let g = tail_short e.pubkey _ p in
    let t = tail_short e.sig _ g in
    let k = tail_short (uleb e.created_at) _ t in
    let c = tail_short (uleb e.kind) _ k in
    let x = tail_short (uleb (length e.content)) _ c in
    let n = tail_short e.content _ x in
    let m : length e.content ≤ 65_536 = omega (arith, x, length-append e.content (uleb (length e.tags) ++ pack_tags e.tags)) in
    Lays.lays
    (uleb_spells e.created_at (omega (arith, v.time)))
    (uleb_spells e.kind (omega (arith, v.kind16)))
    (uleb_spells (length e.content) (omega arith))
    (uleb_spells (length e.tags) (omega (arith, v.few)))
    (tags_lay v.each (tail_short (uleb (length e.tags)) _ n))

-- ---- the strict form is bytes

element_bytes : (t : Text) → Utf8 t → IsBytes (pack_element t)
unfolding pack_element
element_bytes t u =
    pick_by IsBytes (goes_as_bytes t) (λ g. all_append (uleb_bytes (2 * length (unhex t) + 1)) (unhex_bytes t))
    (λ f. all_append (uleb_bytes (2 * length t)) (utf8_bytes u))

elements_bytes : {ts : Tag} → All Utf8 ts → IsBytes (pack_elements ts)
elements_bytes All.none = All.none
elements_bytes (All.also {b = t} u w) = all_append (element_bytes t u) (elements_bytes w)

tags_bytes : {ts : List Tag} → All ValidTag ts → IsBytes (pack_tags ts)
unfolding pack_tag
tags_bytes All.none = All.none
tags_bytes (All.also {b = t} v w) = all_append (all_append (uleb_bytes (length t)) (elements_bytes v.texts)) (tags_bytes w)

pub pack_bytes : (e : Event) → Valid e → IsBytes (pack e)
unfolding pack
pack_bytes e v =
    all_append v.id32.each
    (all_append v.pubkey32.each
    (all_append v.sig64.each
    (all_append (uleb_bytes e.created_at)
    (all_append (uleb_bytes e.kind)
    (all_append (uleb_bytes (length e.content))
    (all_append (utf8_bytes v.text) (all_append (uleb_bytes (length e.tags)) (tags_bytes v.each))))))))

-- ---- it is read back

-- The strict form of a valid event, if it is no longer than an input may be, is read as that event.
pub reads_back : (e : Event) → Valid e → length (pack e) ≤ 65_536 → unpack (pack e) ≡ shown e
reads_back e v h = complete (pack e) e (pack_lays e v h) v h

-- What the strict writer writes of an accepted input reads back as the event that the input shows.
pub reads_again : (s : List ℕ) (e : Event) → unpack s ≡ shown e → IsBytes s → unpack (pack e) ≡ shown e
reads_again s e h bytes = let u = sound s bytes e h in reads_back e u.valid (omega (arith, u.least, u.short))

-- Two valid events with one strict form are one event.
pub pack_injective : (d e : Event) → Valid d → Valid e → length (pack d) ≤ 65_536 → pack d ≡ pack e → d ≡ e
pack_injective d e v w h q =
    let k : length (pack e) ≤ 65_536 = rw (sym q) h in
    let r : shown d ≡ shown e = sym (reads_back d v h) ∙ ap unpack q ∙ reads_back e w k in
    cc

-- Two packed inputs show equal events exactly if their strict forms are equal.
pub equal_exactly : (s t : List ℕ) (d e : Event) → IsBytes s → IsBytes t → unpack s ≡ shown d → unpack t ≡ shown e → (d ≡ e) ↔ (pack d ≡ pack e)
equal_exactly s t d e a b p q =
    let u = sound s a d p in
    let v = sound t b e q in
    (λ x. ap pack x, λ x. pack_injective d e u.valid v.valid (omega (arith, u.least, u.short)) x)
