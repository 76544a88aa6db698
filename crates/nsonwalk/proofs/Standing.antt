-- Where the parts of an accepted body stand, and that what was measured of them is the length of the event's strict
-- form.
-- The counts stand at their places, and each part begins where the one before it ends.
use Prim.Native.Nat.{ℕ, ◌+◌}
use mathlib.Core.Path.{◌≡◌, sym, ap, ◌∙◌}
use mathlib.Core.Bool.{false}
use mathlib.Core.List.{List, [], ◌∷◌}
use native.Mathlib.Omega.{arith}
use lib.ListN.{length, length-append}
use lib.Dec.{leb, eqb}
use Rattle.scan.specs.Ascii.{ascii}
use Rattle.scan.specs.Choice.{pick, shown, refused, Read, read}
use Rattle.scan.proofs.SpanLaws.{span_length}
use Rattle.scan.proofs.Reading.{read_same}
use Rattle.scan.proofs.Many.{pick_shown, after, shown_same}
use Rattle.varint.specs.Uleb.{uleb}
use Rattle.event.specs.Event.{Text, Tag, Event}
use Rattle.jsontext.specs.inner.Escape.{unescape}
use Rattle.notepack.specs.Strict.{pack_tags, pack}
use Rattle.nsonstring.specs.Counted.{fault_in}
use Rattle.nson.specs.Nson.{kind_label, content_label, tags_label, Counts}
use Rattle.nson.specs.inner.Places.{around_kind, before_tags}
use Rattle.nson.specs.Read as nson
use Rattle.nson.proofs.Pieces.{piece_shown}
use Rattle.nson.proofs.Head.{Head}
use Rattle.nsoncounts.specs.inner.Counted.{sizes_of}
use Rattle.nsonwalk.specs.declared.NsonWalked.{NsonWalked}
use Rattle.nsonwalk.specs.inner.Walk.{body_size, kept, walked_of}
use Rattle.nsonwalk.proofs.Sizing.{items_count}

-- ---- where a part ends

pub piece_next : (number : ℕ) (w s : List ℕ) (at p : ℕ) → nson.piece_at number w s at ≡ shown p → p ≡ at + length w
piece_next number w s at p e = span_length (piece_shown number w s at p e)

pub text_next : (n : ℕ) (s : List ℕ) (at p : ℕ) → nson.text_at n s at ≡ shown p → p ≡ at + n
unfolding nson.text_at
text_next n s at p e =
    let l = nson.part_at n s at in
    let a = pick_shown (eqb (fault_in l) 0) (pick (eqb (length l) n) (shown (at + n)) (refused 13 at)) (fault_in l) at p e in
    sym (shown_same (pick_shown (eqb (length l) n) (shown (at + n)) 13 at p a.1).1)

kind_next : (n : ℕ) (s : List ℕ) (at : ℕ) (v : Read ℕ) → nson.kind_part_at n s at ≡ shown v → v.next ≡ at + 9 + n
unfolding nson.kind_part_at nson.kind_at nson.decimal_at
kind_next n s at v e =
    after (nson.piece_at 13 kind_label s at) _ v e
    (λ a q e₁.
    after (nson.decimal_at 13 n s a) _ v e₁
    (λ k r e₂.
    let l = nson.part_at n s a in
    let f = shown_same (pick_shown (nson.is_decimal n l) (read _ (a + n)) 13 a k r).1 in
    let g = shown_same (pick_shown (leb k.value 65_535) (shown k) 6 a v e₂).1 in
    let x : a ≡ at + 9 = piece_next 13 kind_label s at a q in
    ap (λ (r : Read ℕ). r.next) (sym g) ∙ ap (λ (r : Read ℕ). r.next) (sym f) ∙ ap (λ (i : ℕ). i + n) x))

content_said : (n : ℕ) (s : List ℕ) (at : ℕ) (v : Read Text) → nson.content_part_at n s at ≡ shown v → (v.value ≡ unescape (nson.part_at n s (at + 12))) × (v.next ≡ at + 12 + n)
unfolding nson.content_part_at
content_said n s at v e =
    after (nson.piece_at 13 content_label s at) _ v e
    (λ a q e₁.
    after (nson.text_at n s a) _ v e₁
    (λ b r e₂.
    let g = read_same e₂ in
    let x : a ≡ at + 12 = piece_next 13 content_label s at a q in
    (sym g.0 ∙ ap (λ (i : ℕ). unescape (nson.part_at n s i)) x, sym g.1 ∙ text_next n s a b r ∙ ap (λ (i : ℕ). i + n) x)))

-- the tags' own items, behind the label and the bracket
pub record Listed (l : List (List ℕ)) (s : List ℕ) (at : ℕ) (t : List Tag) : Type 0 where
  pub list : Read (List Tag)
  pub is : nson.items_at (nson.tag_at s) false l s (at + before_tags) ≡ shown list
  pub same : list.value ≡ t

tags_said : (l : List (List ℕ)) (s : List ℕ) (at : ℕ) (v : Read (List Tag)) → nson.tags_part_at l s at ≡ shown v → Listed l s at v.value
unfolding nson.tags_part_at nson.tags_standing nson.array_at
tags_said l s at v e =
    after (nson.piece_at 13 tags_label s at) _ v e
    (λ a q e₁.
    after (nson.tags_standing l s a) _ v e₁
    (λ t r e₂.
    after (nson.piece_at 13 (ascii "}") s t.next) _ v e₂
    (λ b u e₃.
    after (nson.piece_at 13 (0x5B ∷ []) s a) _ t r
    (λ c w e₄.
    after (nson.items_at (nson.tag_at s) false l s c) _ t e₄
    (λ xs x e₅.
    after (nson.piece_at 13 (0x5D ∷ []) s xs.next) _ t e₅
    (λ d y e₆.
    let f : a ≡ at + 9 = piece_next 13 tags_label s at a q in
    let g : c ≡ a + 1 = piece_next 13 (0x5B ∷ []) s a c w in
    let h : c ≡ at + before_tags = omega arith in
    record { list = xs; is = rw h at x; same = (read_same e₆).0 ∙ (read_same e₃).0 }))))))

-- ---- the body

pub record Stands (n : Counts) (s : List ℕ) (at : ℕ) (b : nson.Body) : Type 0 where
  pub content : b.content ≡ unescape (nson.part_at n.content s (at + around_kind + n.kind))
  pub tags : Listed n.tags s (at + around_kind + n.kind + n.content) b.tags

pub body_stands : (n : Counts) (s : List ℕ) (at : ℕ) (v : Read nson.Body) → nson.body_read_at n s at ≡ shown v → Stands n s at v.value
unfolding nson.body_read_at
body_stands n s at v e =
    after (nson.kind_part_at n.kind s at) _ v e
    (λ k q e₁.
    after (nson.content_part_at n.content s k.next) _ v e₁
    (λ c r e₂.
    after (nson.tags_part_at n.tags s c.next) _ v e₂
    (λ t u e₃.
    let f = (read_same e₃).0 in
    let x = kind_next n.kind s at k q in
    let y = content_said n.content s k.next c r in
    let z = y.1 in
    let place : k.next + 12 ≡ at + around_kind + n.kind = omega arith in
    let next : c.next ≡ at + around_kind + n.kind + n.content = omega arith in
    let l = rw next at (tags_said n.tags s c.next t u) in
    let r : Stands n s at (record { kind = k.value; content = c.value; tags = t.value }) = record { content = rw place at y.0; tags = l } in
    rw f at r)))

-- ---- the whole

-- the length of a strict form, field by field
pack_length : (e : Event) → length (pack e)
    ≡ length e.id + (length e.pubkey + (length e.sig + (length (uleb e.created_at) + (length (uleb e.kind) + (length (uleb (length e.content)) + (length e.content + (length (uleb (length e.tags)) + length (pack_tags e.tags))))))))
unfolding pack
pack_length e = simp (length-append)

-- what is kept, with a length
abbrev walked : List ℕ → ℕ → Read Counts → nson.Body → ℕ → NsonWalked
walked s time n b len = record { created_at = time; kind = b.kind; sizes = sizes_of n.value; body_at = n.next; content_len = length b.content; len = len }

module _ (s : List ℕ) (time : ℕ) (n : Read Counts) (b : nson.Body) (h : Head s time) (d : Stands n.value s n.next b) where
  pub tag_count : length b.tags ≡ length n.value.tags
  tag_count = sym (ap length d.tags.same) ∙ items_count (nson.tag_at s) false n.value.tags s _ d.tags.is

  -- the length by what was measured is that of the strict form
  pub kept_is : kept time (sizes_of n.value) n.next (body_size b) ≡ walked_of s time n b
  unfolding nson.event_read
  kept_is =
      let i = h.id.count in
      let k = h.pubkey.count in
      let g = h.sig.count in
      let v = ap (λ (m : ℕ). length (uleb m)) tag_count in
      let e = pack_length (nson.event_read s time b) in
      ap (walked s time n b) (omega arith)
