-- The second pass writes the strict form of what the first has read: items and tags by induction on their number.
-- Each piece ends where its length says, so the place that the copy computes is the place where the reading stood.
use Prim.Native.Nat.{ℕ, zero, suc, ◌+◌, ◌*◌}
use mathlib.Core.Path.{◌≡◌, refl, sym, ap, ◌∙◌}
use mathlib.Core.Bool.{Bool, true, false}
use mathlib.Core.List.{List, [], ◌∷◌, ◌++◌, append_assoc}
use native.Mathlib.Omega.{arith}
use Rattle.scan.specs.Choice.{shown, Read}
use Rattle.scan.proofs.Step.{false_true}
use Rattle.scan.proofs.Reading.{read_same}
use Rattle.scan.proofs.Many.{after, shown_same}
use Rattle.varint.specs.Uleb.{uleb}
use Rattle.event.specs.Event.{Text, Tag}
use Rattle.jsontext.specs.inner.Escape.{unescape}
use Rattle.notepack.specs.Strict.{pack_element, pack_elements, pack_tag, pack_tags}
use Rattle.notepack.proofs.Lengths.{tag_form}
use Rattle.nson.specs.Read.{piece_at, part_at, text_at, comma_at, items_at, array_at, item_at, tag_at, word_here, byte_here}
use Rattle.nsoncounts.specs.inner.Counted.{item_sizes, tag_sizes}
use Rattle.nsonread.specs.inner.Copy.{items_text, items_end, nson_tags_text}
use Rattle.nsonwalk.proofs.Standing.{piece_next, text_next}
use Rattle.nsonwalk.proofs.Sizing.{items_count, sizes_count}
use Rattle.nsoncounts.proofs.Placing.{Filled, no_tag, one_more}

-- an item's text, and where it ends
item_said : (s : List ℕ) (n at : ℕ) (v : Read Text) → item_at s n at ≡ shown v → (v.value ≡ unescape (part_at n s (at + 1))) × (v.next ≡ at + (n + 2))
unfolding item_at
item_said s n at v e =
    after (piece_at 13 (0x22 ∷ []) s at) _ v e
    (λ a q e₁.
    after (text_at n s a) _ v e₁
    (λ b r e₂.
    after (piece_at 13 (0x22 ∷ []) s b) _ v e₂
    (λ c t e₃.
    let g = read_same e₃ in
    let x : a ≡ at + 1 = piece_next 13 (0x22 ∷ []) s at a q in
    let y = text_next n s a b r in
    let z : c ≡ b + 1 = piece_next 13 (0x22 ∷ []) s b c t in
    let w = g.1 in
    (sym g.0 ∙ ap (λ (i : ℕ). unescape (part_at n s i)) x, omega arith))))

-- ---- items

-- where an item begins: behind a comma unless it is the first
abbrev first : Bool → ℕ → ℕ
first true at = at + 1
first false at = at

comma_next : (later : Bool) (s : List ℕ) (at c : ℕ) → comma_at later s at ≡ shown c → c ≡ first later at
comma_next true s at c e = piece_next 13 (0x2C ∷ []) s at c e
comma_next false s at c e = sym (shown_same e)

-- each item ends in front of the byte that follows it
items_copied : (s : List ℕ) (later : Bool) (n d at : ℕ) (v : Read (List Text)) → (later ≡ false → n ≡ 0 → ⊥) → items_at (item_at s) later (item_sizes n s d) s at ≡ shown v
    → (items_text n s d (first later at) ≡ pack_elements v.value) × (items_end n s d (first later at) ≡ v.next + 1)
unfolding items_at item_sizes items_text items_end
items_copied s true zero d at v o e = let g = read_same e in (ap pack_elements g.0, ap (λ (i : ℕ). i + 1) g.1)
items_copied s false zero d at v o e = absurd (o refl refl)
items_copied s later (suc n) d at v o e =
    after (comma_at later s at) _ v e
    (λ c q e₁.
    after (item_at s (word_here s d) c) _ v e₁
    (λ x r e₂.
    after (items_at (item_at s) true (item_sizes n s (d + 4)) s x.next) _ v e₂
    (λ xs t e₃.
    let g = read_same e₃ in
    let a = comma_next later s at c q in
    let i = item_said s (word_here s d) c x r in
    let j = i.1 in
    let k : first later at + (word_here s d + 3) ≡ x.next + 1 = omega arith in
    let h = items_copied s true n (d + 4) x.next xs (λ f. absurd (false_true (sym f))) t in
    let y : pack_element (unescape (part_at (word_here s d) s (first later at + 1))) ≡ pack_element x.value =
    ap pack_element (ap (λ (i : ℕ). unescape (part_at (word_here s d) s (i + 1))) (sym a) ∙ sym i.0)
    in
    (rw (k, y, h.0) (ap pack_elements g.0), rw k (h.1 ∙ ap (λ (i : ℕ). i + 1) g.1)))))

-- ---- tags

-- a tag: what is written of it, and where it ends
tag_copied : (s : List ℕ) (d at : ℕ) (v : Read Tag) → (byte_here s d ≡ 0 → ⊥) → tag_at s (item_sizes (byte_here s d) s (d + 2)) at ≡ shown v
    → (uleb (byte_here s d) ++ items_text (byte_here s d) s (d + 2) (at + 1) ≡ pack_tag v.value) × (items_end (byte_here s d) s (d + 2) (at + 1) ≡ v.next)
unfolding tag_at array_at
tag_copied s d at v o e =
    after (piece_at 13 (0x5B ∷ []) s at) _ v e
    (λ a q e₁.
    after (items_at (item_at s) false (item_sizes (byte_here s d) s (d + 2)) s a) _ v e₁
    (λ xs r e₂.
    after (piece_at 13 (0x5D ∷ []) s xs.next) _ v e₂
    (λ b t e₃.
    let g = read_same e₃ in
    let x : a ≡ at + 1 = piece_next 13 (0x5B ∷ []) s at a q in
    let y : b ≡ xs.next + 1 = piece_next 13 (0x5D ∷ []) s xs.next b t in
    let h = rw x at (items_copied s false (byte_here s d) (d + 2) a xs (λ f. o) r) in
    let n = items_count (item_at s) false (item_sizes (byte_here s d) s (d + 2)) s a r ∙ sizes_count (byte_here s d) s (d + 2) in
    let f = tag_form xs.value in
    (rw (h.0, sym n) (sym f ∙ ap pack_tag g.0), h.1 ∙ sym y ∙ g.1))))

-- all the tags
pub tags_copied : (s : List ℕ) (later : Bool) (n d at : ℕ) (v : Read (List Tag)) → Filled s n d → items_at (tag_at s) later (tag_sizes n s d) s at ≡ shown v
    → nson_tags_text n s d (first later at) ≡ pack_tags v.value
unfolding items_at tag_sizes nson_tags_text
tags_copied s later zero d at v no_tag e = ap pack_tags (read_same e).0
tags_copied s later (suc n) d at v (one_more o more) e =
    after (comma_at later s at) _ v e
    (λ c q e₁.
    after (tag_at s (item_sizes (byte_here s d) s (d + 2)) c) _ v e₁
    (λ x r e₂.
    after (items_at (tag_at s) true (tag_sizes n s (d + (2 + 4 * byte_here s d))) s x.next) _ v e₂
    (λ xs t e₃.
    let g = read_same e₃ in
    let a = comma_next later s at c q in
    let i = rw a at (tag_copied s d c x o r) in
    let h = tags_copied s true n (d + (2 + 4 * byte_here s d)) x.next xs more t in
    rw (i.1, h) (sym (append_assoc (uleb (byte_here s d)) (items_text (byte_here s d) s (d + 2) (first later at + 1)) (pack_tags xs.value)) ∙ ap (λ (l : List ℕ). l ++ pack_tags xs.value) i.0 ∙ ap pack_tags g.0))))
