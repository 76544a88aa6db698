-- Items, arrays and the parts behind the descriptors as the code passes over them: the steps, each with the length of
-- what was read in its place.
-- By the definitions, step by step; an array's strict form is as long as its items' own.
use Prim.Native.Nat.{ℕ, zero, suc, ◌+◌}
use mathlib.Core.Path.{◌≡◌, refl, sym, ap, ◌∙◌}
use mathlib.Core.Bool.{Bool, true, false}
use mathlib.Core.List.{List, [], ◌∷◌, ◌++◌}
use native.Mathlib.Omega.{arith}
use lib.ListN.{length, length-append}
use Rattle.scan.specs.Ascii.{ascii}
use Rattle.scan.specs.Choice.{Answer, Read, read, and_then}
use Rattle.scan.proofs.Many.{then_shown}
use Rattle.scan.proofs.Reading.{read_same}
use Rattle.varint.specs.Uleb.{uleb}
use Rattle.jsontext.specs.inner.Escape.{unescape}
use Rattle.notepack.specs.Strict.{pack_element, pack_elements, pack_tag, pack_tags}
use Rattle.notepack.proofs.Lengths.{tag_form}
use Rattle.nson.specs.Nson.{content_label, tags_label, Counts}
use Rattle.nson.specs.Read.{part_at, piece_at, comma_at, text_at, items_at, array_at, item_at, tag_at, tags_standing, kind_part_at, content_part_at, tags_part_at, body_read_at}
use Rattle.nsoncounts.specs.inner.Counted.{text_size_at, item_sizes}
use Rattle.nsonwalk.specs.inner.Walk.{turned, sized, content_size_at, body_size}
use Rattle.nsoncounts.proofs.Laws.{then_then, then_same}

-- ---- an item

-- a quote, a counted text, a quote
pub item_sized : (s : List ℕ) (n at : ℕ)
    → sized pack_element (item_at s n at)
    ≡ and_then (piece_at 13 (ascii "\"") s at) λ a.
    and_then (text_size_at n s a) λ m.
    and_then (piece_at 13 (ascii "\"") s m.next) λ c.
    read (length (pack_element (unescape (part_at n s a)))) c
unfolding sized item_at
item_sized s n at =
    then_then (piece_at 13 (ascii "\"") s at) _ _
    ∙ then_same (piece_at 13 (ascii "\"") s at) _ _ (λ a e.
    then_then (text_at n s a) _ _
    ∙ then_same (text_at n s a) _ _ (λ b f. then_then (piece_at 13 (ascii "\"") s b) _ _)
    ∙ sym (then_then (text_at n s a) _ _))

-- ---- items, one for each count

-- as many items as counts
pub items_count : {N A : Type 0} (item : N → ℕ → Answer (Read A)) (later : Bool) (l : List N) (s : List ℕ) (at : ℕ) {xs : List A} {p : ℕ}
    → items_at item later l s at ≡ read xs p → length xs ≡ length l
unfolding items_at
items_count item later [] s at e = ap length (sym (read_same e).0)
items_count item later (n ∷ l) s at {xs} {p} e =
    let a = then_shown (comma_at later s at) _ _ e in
    let b = then_shown (item n a.0) _ _ a.2 in
    let c = then_shown (items_at item true l s b.0.next) _ _ b.2 in
    let q = read_same c.2 in
    ap length (sym q.0) ∙ ap suc (items_count item true l s b.0.next c.1)

pub sizes_count : (n : ℕ) (s : List ℕ) (d : ℕ) → length (item_sizes n s d) ≡ n
unfolding item_sizes
sizes_count zero s d = refl
sizes_count (suc n) s d = ap suc (sizes_count n s (d + 4))

-- one item more: its length is put to the total
pub items_more : {N A : Type 0} (item : N → ℕ → Answer (Read A)) (g : A → List ℕ) (f : List A → List ℕ) → ((x : A) (xs : List A) → f (x ∷ xs) ≡ g x ++ f xs)
    → (later : Bool) (n : N) (l : List N) (s : List ℕ) (at t : ℕ)
    → and_then (items_at item later (n ∷ l) s at) (λ xs. read (t + length (f xs.value)) xs.next)
    ≡ and_then (comma_at later s at) λ a.
    and_then (sized g (item n a)) λ m.
    and_then (items_at item true l s m.next) λ xs.
    read (t + m.value + length (f xs.value)) xs.next
unfolding items_at sized
items_more item g f h later n l s at t =
    then_then (comma_at later s at) _ _
    ∙ then_same (comma_at later s at) _ _ (λ a e.
    then_then (item n a) _ _
    ∙ then_same (item n a) _ _ (λ x k.
    then_then (items_at item true l s x.next) _ _
    ∙ then_same (items_at item true l s x.next) _ _ (λ xs q.
    let v = ap length (h x.value xs.value) ∙ length-append (g x.value) (f xs.value) in
    let w : t + length (f (x.value ∷ xs.value)) ≡ t + length (g x.value) + length (f xs.value) = omega arith in
    ap (λ (i : ℕ). read i xs.next) w))
    ∙ sym (then_then (item n a) _ _))

-- ---- an array

-- its items between brackets, where the whole is as long as w says by the items
array_sized : {N A : Type 0} (item : N → ℕ → Answer (Read A)) (g f : List A → List ℕ) (w : ℕ → ℕ) (l : List N)
    → ((xs : List A) → length xs ≡ length l → length (f xs) ≡ w (length (g xs))) → (s : List ℕ) (at : ℕ)
    → sized f (array_at item l s at)
    ≡ and_then (piece_at 13 (ascii "[") s at) λ a.
    and_then (sized g (items_at item false l s a)) λ m.
    and_then (piece_at 13 (ascii "]") s m.next) λ c.
    read (w m.value) c
unfolding sized array_at
array_sized item g f w l h s at =
    then_then (piece_at 13 (ascii "[") s at) _ _
    ∙ then_same (piece_at 13 (ascii "[") s at) _ _ (λ a e.
    then_then (items_at item false l s a) _ _
    ∙ then_same (items_at item false l s a) _ _ (λ xs k.
    then_then (piece_at 13 (ascii "]") s xs.next) _ _
    ∙ then_same (piece_at 13 (ascii "]") s xs.next) _ _ (λ c q. ap (λ (i : ℕ). read i c) (h xs.value (items_count item false l s a k))))
    ∙ sym (then_then (items_at item false l s a) _ _))

-- a tag of n items
pub tag_sized : (s : List ℕ) (n d at : ℕ)
    → sized pack_tag (tag_at s (item_sizes n s d) at)
    ≡ and_then (piece_at 13 (ascii "[") s at) λ a.
    and_then (sized pack_elements (items_at (item_at s) false (item_sizes n s d) s a)) λ m.
    and_then (piece_at 13 (ascii "]") s m.next) λ c.
    read (length (uleb n) + m.value) c
unfolding tag_at
tag_sized s n d at =
    array_sized (item_at s) pack_elements pack_tag (λ m. length (uleb n) + m) (item_sizes n s d)
    (λ xs e.
    let k = ap (λ (i : ℕ). length (uleb i)) (e ∙ sizes_count n s d) in
    let q = ap length (tag_form xs) ∙ length-append (uleb (length xs)) (pack_elements xs) in
    omega arith)
    s
    at

-- ---- the parts behind the descriptors

content_sized : (n : ℕ) (s : List ℕ) (at : ℕ) → turned length (content_part_at n s at) ≡ content_size_at n s at
unfolding content_size_at content_part_at
content_sized n s at =
    then_then (piece_at 13 content_label s at) _ _ ∙ then_same (piece_at 13 content_label s at) _ _ (λ a e. then_then (text_at n s a) _ _)

-- the label, the array and the brace
pub tags_sized : (l : List (List ℕ)) (s : List ℕ) (at : ℕ)
    → sized pack_tags (tags_part_at l s at)
    ≡ and_then (piece_at 13 tags_label s at) λ a.
    and_then (piece_at 13 (ascii "[") s a) λ b.
    and_then (sized pack_tags (items_at (tag_at s) false l s b)) λ m.
    and_then (piece_at 13 (ascii "]") s m.next) λ c.
    and_then (piece_at 13 (ascii "}") s c) λ d.
    read m.value d
unfolding sized tags_part_at tags_standing array_at
tags_sized l s at =
    then_then (piece_at 13 tags_label s at) _ _
    ∙ then_same (piece_at 13 tags_label s at) _ _ (λ a e.
    then_then (tags_standing l s a) _ _
    ∙ then_then (piece_at 13 (ascii "[") s a) _ _
    ∙ then_same (piece_at 13 (ascii "[") s a) _ _ (λ b k.
    then_then (items_at (tag_at s) false l s b) _ _
    ∙ then_same (items_at (tag_at s) false l s b) _ _ (λ xs q.
    then_then (piece_at 13 (ascii "]") s xs.next) _ _
    ∙ then_same (piece_at 13 (ascii "]") s xs.next) _ _ (λ c u. then_then (piece_at 13 (ascii "}") s c) _ _))
    ∙ sym (then_then (items_at (tag_at s) false l s b) _ _)))

pub body_sized : (n : Counts) (s : List ℕ) (at : ℕ)
    → turned body_size (body_read_at n s at)
    ≡ and_then (kind_part_at n.kind s at) λ k.
    and_then (content_size_at n.content s k.next) λ c.
    and_then (sized pack_tags (tags_part_at n.tags s c.next)) λ t.
    read (record { kind = k.value; content_len = c.value; tags_len = t.value }) t.next
unfolding sized body_read_at
body_sized n s at =
    then_then (kind_part_at n.kind s at) _ _
    ∙ then_same (kind_part_at n.kind s at) _ _ (λ k e.
    then_then (content_part_at n.content s k.next) _ _
    ∙ then_same (content_part_at n.content s k.next) _ _ (λ c q.
    then_then (tags_part_at n.tags s c.next) _ _ ∙ sym (then_then (tags_part_at n.tags s c.next) _ _))
    ∙ sym (then_then (content_part_at n.content s k.next) _ _)
    ∙ ap (λ (r : Answer (Read ℕ)). and_then r λ c.
    and_then (sized pack_tags (tags_part_at n.tags s c.next)) λ t.
    read (record { kind = k.value; content_len = c.value; tags_len = t.value }) t.next)
    (content_sized n.content s k.next))
