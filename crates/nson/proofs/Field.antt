-- The nson field: counts are read at 318 exactly where their field stands there, with the size that the descriptors
-- take.
-- Descriptor after descriptor; the tags' counts are reads one after the other, and the end is where the size says.
use Prim.Native.Nat.{ℕ, ◌+◌, ◌*◌, ◌≤◌}
use mathlib.Core.Path.{◌≡◌, refl, sym}
use mathlib.Core.List.{List, [], ◌∷◌}
use native.Mathlib.Omega.{arith}
use lib.ListN.{length}
use borrow.Author.Tests.{eqb-true, eq-eqb}
use Rattle.scan.specs.Choice.{shown, Read, read, many}
use Rattle.scan.specs.inner.Span.{Span}
use Rattle.scan.proofs.SpanLaws.{join, cut_at, span_length}
use Rattle.scan.proofs.Many.{after, pick_shown, shown_same, many_shown, many_accepts}
use Rattle.hexdigits.specs.Hex.{hexes}
use Rattle.hexdigits.proofs.Texts.{length_hexes, hexes_digits}
use Rattle.nson.specs.Nson.{Counts, word, tag_counts, descriptors, nson_field}
use Rattle.nson.specs.Read.{hex_at, byte_here, byte_count_at, word_count_at, kind_count_at, tag_counts_at, counts_to, counts_at}
use Rattle.nson.proofs.Pieces.{hex_shown, hex_accepts}
use Rattle.nson.proofs.Descriptors.{byte_most, byte_bytes, byte_digits, digits_byte, byte_count_shown, byte_count_accepts, word_count_shown, word_count_accepts}
use Rattle.nson.proofs.Counts.{TagCounts, Holds, kind_count_shown, kind_count_accepts, tag_hexes, tags_more, tag_counts_shown, tag_counts_accept}

-- ---- all counts

counts_to_shown : (end : ℕ) (s : List ℕ) (at : ℕ) (v : Read Counts) → counts_to end s at ≡ shown v
    → Span s at (hexes (descriptors v.value)) v.next × (v.next ≡ end) × Holds v.value
unfolding counts_to
counts_to_shown end s at v e =
    after (kind_count_at end s at) _ v e
    (λ k p e₁.
    after (word_count_at end s k.next) _ v e₁
    (λ c q e₂.
    after (byte_count_at end s c.next) _ v e₂
    (λ n r e₃.
    after (many (tag_counts_at end s) n.value n.next) _ v e₃
    (λ t w e₄.
    let all = pick_shown _ _ 13 318 v e₄ in
    let f : record { value = record { kind = k.value; content = c.value; tags = t.value }; next = t.next } ≡ v = shown_same all.1 in
    let kind = kind_count_shown end s at k p in
    let content = word_count_shown end s k.next c q in
    let number = byte_count_shown end s c.next n r in
    let tags = many_shown tag_hexes (λ (l : List (List ℕ)). hexes (tag_counts l)) refl tags_more TagCounts s (tag_counts_at end s) (tag_counts_shown end s) n.value n.next t w in
    let g : n.value ≡ length t.value = sym tags.2 in
    let digits = rw g at number.0 in
    let text = join kind.0 (join content.0 (join digits tags.0)) in
    let few : length t.value ≤ 255 = omega (arith, number.1) in
    rw (sym f) (text, eqb-true t.next end all.0, record { one = kind.1; five = kind.2; content = content.1; few = few; each = tags.1 })))))

counts_to_accept : (end : ℕ) (s : List ℕ) (at : ℕ) (c : Counts) → Holds c → Span s at (hexes (descriptors c)) end → counts_to end s at ≡ read c end
unfolding counts_to
counts_to_accept end s at c h r =
    let k = cut_at (hexes (c.kind ∷ [])) 2 refl r in
    let w = cut_at (hexes (word c.content)) 4 refl k.1 in
    let n = cut_at (hexes (length c.tags ∷ [])) 2 refl w.1 in
    let l = span_length n.1 in
    let tags = many_accepts tag_hexes (λ (l : List (List ℕ)). hexes (tag_counts l)) refl tags_more TagCounts s (tag_counts_at end s) end (tag_counts_accept end s) c.tags (at + 2 + 4 + 2) end (omega arith) h.each n.1 in
    rw (
      kind_count_accepts end s c.kind at (at + 2) (omega arith) h.one h.five k.0,
      word_count_accepts end s c.content (at + 2) (at + 2 + 4) (omega arith) h.content w.0,
      byte_count_accepts end s (length c.tags) (at + 2 + 4) (at + 2 + 4 + 2) (omega arith) h.few n.0,
      tags,
      eq-eqb end end refl,
    )

-- ---- the field

-- consumes: counts that are read at 318 stand there as their field, and are such as a field can hold
pub counts_shown : (s : List ℕ) (v : Read Counts) → counts_at s ≡ shown v
    → Span s 318 (nson_field v.value) v.next × Holds v.value × (length (descriptors v.value) ≤ 127)
unfolding counts_at nson_field
counts_shown s v e =
    after (hex_at 2 s 318) _ v e
    (λ p q e₁.
    let size = byte_digits (hex_shown 2 s 318 p q) in
    let c = counts_to_shown (p + byte_here s 318) s p v e₁ in
    let d = descriptors v.value in
    let n = span_length c.0 in
    let m = length_hexes d in
    let f = c.1 in
    let k : byte_here s 318 ≡ 2 * length d = omega arith in
    let h = byte_most s 318 in
    (join (rw k at size) c.0, c.2, omega arith))

-- accepts: the field of such counts at 318 is read as the counts
pub counts_accept : {s : List ℕ} {q : ℕ} {c : Counts} → Holds c → length (descriptors c) ≤ 127 → Span s 318 (nson_field c) q → counts_at s ≡ read c q
unfolding counts_at nson_field
counts_accept {s} {q} {c} h few r =
    let d = descriptors c in
    let u = cut_at (hexes (2 * length d ∷ [])) 2 refl r in
    let n = span_length u.1 in
    let m = length_hexes d in
    let b : byte_here s 318 ≡ 2 * length d = digits_byte (omega arith) u.0 in
    let f : 320 + byte_here s 318 ≡ q = omega arith in
    let size = hex_accepts 2 u.0 refl (hexes_digits (byte_bytes {b = 2 * length d} (omega arith))) in
    rw (size, f) (counts_to_accept q s 320 c h u.1)
