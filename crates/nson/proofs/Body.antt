-- Behind the field: kind, content and tags are read exactly where they stand in so many bytes as the counts say.
-- Piece after piece, by the laws of the decimal spelling, of the counted text and of arrays.
use Prim.Native.Nat.{ℕ, ◌≤◌}
use mathlib.Core.Path.{◌≡◌, refl, sym}
use mathlib.Core.List.{List, ◌++◌, append_assoc, map}
use lib.ListN.{length}
use borrow.Author.Tests.{leb-true, le-leb}
use Rattle.scan.specs.Ascii.{ascii}
use Rattle.scan.specs.Choice.{shown, Read, read}
use Rattle.scan.specs.Bytes.{All}
use Rattle.scan.specs.inner.Span.{Span}
use Rattle.scan.proofs.SpanLaws.{join, cut, respell}
use Rattle.scan.proofs.Many.{after, pick_shown, shown_same}
use Rattle.decimal.specs.Decimal.{decimal}
use Rattle.escape.specs.Escape.{nson_byte, escaped}
use Rattle.event.specs.Event.{Text, Tag}
use Rattle.jsontext.specs.inner.Escape.{unescape}
use Rattle.jsontags.specs.TagText.{tags_text}
use Rattle.nson.specs.Nson.{kind_label, content_label, tags_label, Counts, escaped_size}
use Rattle.nson.specs.Read.{piece_at, part_at, decimal_at, text_at, kind_at, tags_standing, kind_part_at, content_part_at, tags_part_at, Body, body_read_at}
use Rattle.nson.proofs.Pieces.{piece_shown, piece_accepts, decimal_shown, decimal_accepts}
use Rattle.nson.proofs.Texts.{Spelled, Good, text_shown, text_accepts}
use Rattle.nson.proofs.Arrays.{tags_shown, tags_accept}

-- ---- the three parts, each behind its label

-- the digits of a number
abbrev pub digits : ℕ → ℕ
digits n = length (decimal n)

abbrev pub Kind16 : ℕ → Type 0
Kind16 n = n ≤ 65_535

kind_shown : (n : ℕ) (s : List ℕ) (at : ℕ) (v : Read ℕ) → kind_at n s at ≡ shown v → Spelled decimal digits Kind16 s n at v
unfolding kind_at
kind_shown n s at v e =
    after (decimal_at 13 n s at) _ v e
    (λ k p e₁.
    let t = pick_shown _ _ 6 at v e₁ in
    let f : k ≡ v = shown_same t.1 in
    let d = decimal_shown 13 n s at k p in
    rw (sym f) record { span = d.1; sized = d.0; holds = leb-true k.value 65_535 t.0 })

kind_part_shown : (n : ℕ) (s : List ℕ) (at : ℕ) (v : Read ℕ) → kind_part_at n s at ≡ shown v → (a : ℕ) × Span s at kind_label a × Spelled decimal digits Kind16 s n a v
unfolding kind_part_at
kind_part_shown n s at v e = after (piece_at 13 kind_label s at) _ v e (λ a p e₁. (a, piece_shown 13 kind_label s at a p, kind_shown n s a v e₁))

content_part_shown : (n : ℕ) (s : List ℕ) (at : ℕ) (v : Read Text) → content_part_at n s at ≡ shown v
    → (a : ℕ) × Span s at content_label a × Spelled (escaped nson_byte) escaped_size Good s n a v
unfolding content_part_at
content_part_shown n s at v e =
    after (piece_at 13 content_label s at) _ v e
    (λ a p e₁.
    after (text_at n s a) _ v e₁
    (λ b q e₂.
    let f : record { value = unescape (part_at n s a); next = b } ≡ v = shown_same e₂ in
    (a, piece_shown 13 content_label s at a p, rw (sym f) (text_shown n s a b q))))

tags_part_shown : (l : List (List ℕ)) (s : List ℕ) (at : ℕ) (v : Read (List Tag)) → tags_part_at l s at ≡ shown v
    → (a : ℕ) × (b : ℕ) × Span s at tags_label a × Spelled (tags_text nson_byte) (map (map escaped_size)) (All (All Good)) s l a (record { value = v.value; next = b }) × Span s b (ascii "}") v.next
unfolding tags_part_at
tags_part_shown l s at v e =
    after (piece_at 13 tags_label s at) _ v e
    (λ a p e₁.
    after (tags_standing l s a) _ v e₁
    (λ t q e₂.
    after (piece_at 13 (ascii "}") s t.next) _ v e₂
    (λ b r e₃.
    let f : record { value = t.value; next = b } ≡ v = shown_same e₃ in
    rw (sym f) (a, t.next, piece_shown 13 tags_label s at a p, tags_shown s l a t q, piece_shown 13 (ascii "}") s t.next b r))))

-- ---- all three

abbrev pub body_spelling : Body → List ℕ
body_spelling b = kind_label ++ decimal b.kind ++ content_label ++ escaped nson_byte b.content ++ tags_label ++ tags_text nson_byte b.tags ++ (ascii "}")

abbrev pub body_counts : Body → Counts
body_counts b = record { kind = digits b.kind; content = escaped_size b.content; tags = map (map escaped_size) b.tags }

pub record GoodBody (b : Body) : Type 0 where
  pub kind16 : b.kind ≤ 65_535
  pub content : Good b.content
  pub texts : All (All Good) b.tags

-- consumes: what is read stands there, has the counts that it was read by, and is good
pub body_shown : (n : Counts) (s : List ℕ) (at : ℕ) (v : Read Body) → body_read_at n s at ≡ shown v → Spelled body_spelling body_counts GoodBody s n at v
unfolding body_read_at
body_shown n s at v e =
    after (kind_part_at n.kind s at) _ v e
    (λ x p e₁.
    after (content_part_at n.content s x.next) _ v e₁
    (λ y q e₂.
    after (tags_part_at n.tags s y.next) _ v e₂
    (λ z r e₃.
    let f : record { value = record { kind = x.value; content = y.value; tags = z.value }; next = z.next } ≡ v = shown_same e₃ in
    let k = kind_part_shown n.kind s at x p in
    let c = content_part_shown n.content s x.next y q in
    let t = tags_part_shown n.tags s y.next z r in
    let text = join (join (join (join (join (join k.1 k.2.span) c.1) c.2.span) t.2) t.3.span) t.4 in
    rw (sym f) record {
      span = text;
      sized = λ i. record { kind = k.2.sized i; content = c.2.sized i; tags = t.3.sized i };
      holds = record { kind16 = k.2.holds; content = c.2.holds; texts = t.3.holds };
    })))

right : (b : Body) → body_spelling b
    ≡ kind_label ++ (decimal b.kind ++ (content_label ++ (escaped nson_byte b.content ++ (tags_label ++ (tags_text nson_byte b.tags ++ (ascii "}"))))))
right b = simp append_assoc

-- accepts: what is good and stands there is read by its counts
pub body_accepts : {b : Body} {s : List ℕ} {at end : ℕ} → GoodBody b → Span s at (body_spelling b) end → body_read_at (body_counts b) s at ≡ read b end
unfolding body_read_at kind_part_at kind_at content_part_at tags_part_at
body_accepts {b} {s} g r =
    let k = cut kind_label (respell (right b) r) in
    let l = cut (decimal b.kind) k.2 in
    let m = cut content_label l.2 in
    let n = cut (escaped nson_byte b.content) m.2 in
    let o = cut tags_label n.2 in
    let p = cut (tags_text nson_byte b.tags) o.2 in
    let c = text_accepts g.content n.1 in
    rw (
      piece_accepts 13 k.1,
      decimal_accepts 13 (digits b.kind) b.kind l.1 refl,
      le-leb b.kind 65_535 g.kind16,
      piece_accepts 13 m.1,
      c.0,
      c.1,
      piece_accepts 13 o.1,
      tags_accept s b.tags o.0 p.0 g.texts p.1,
      piece_accepts 13 p.2,
    )
