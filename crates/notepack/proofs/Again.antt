-- What was read once is read again from its place: the turns of the loops that go over texts and tags again, and what
-- they go over.
-- By induction on how many are left, along the reads.
use Prim.Native.Nat.{ℕ, zero, suc, ◌+◌, ◌-◌, ◌/◌, ◌%◌, ◌≤◌, ◌<◌}
use mathlib.Core.Path.{◌≡◌, refl, sym, ap, ◌∙◌, subst}
use mathlib.Core.Bool.{Bool, true, false}
use mathlib.Core.List.{List, [], ◌∷◌, map}
use native.Mathlib.Numerals.{sub-one}
use native.Mathlib.Omega.{arith}
use lib.ListN.{length}
use lib.Dec.{leb, eqb}
use borrow.Author.Tests.{le-leb, leb-true}
use Rattle.scan.specs.Choice.{pick, Answer, shown, refused, Read, and_then, many}
use Rattle.scan.specs.inner.Otherwise.{or_else}
use Rattle.scan.specs.Bytes.{IsBytes}
use Rattle.scan.proofs.Step.{pick_by}
use Rattle.scan.proofs.SpanLaws.{span_length, span_fits}
use Rattle.scan.proofs.Reading.{read_same, shown_reads, shown_gives}
use Rattle.scan.proofs.Many.{then_shown, many_apart}
use Rattle.varint.specs.Varint.{varint_at}
use Rattle.event.specs.Event.{Event}
use Rattle.notepack.specs.declared.Part.{Part}
use Rattle.notepack.specs.Unpack.{bytes_of, text_of, payload_at, text_at, number_at, element_at, elements_at, tag_count_at, tag_at, tags_standing, Packed, packed_at, event_of, unpack}
use Rattle.notepack.specs.inner.Again.{element_part_at, part_again, count_again, texts_again, texts_end, tags_again, event_again}
use Rattle.notepack.specs.Strict.{pack}
use Rattle.notepack.specs.inner.Tally.{hollow_tags, tally_of}
use Rattle.notepack.specs.inner.Answers.{Walked, walk_at}
use Rattle.notepack.proofs.Piece.{Piece}
use Rattle.notepack.proofs.Sound.{text_reads, sized_text, head_gives, packed_gives, Shows, sound}
use Rattle.notepack.proofs.Walking.{walked_packed}
use Rattle.notepack.proofs.Viewing.{packed_head_lem, packed_apart, tag_apart}

module _ (s : List ℕ) where
  -- ---- how many

  pub texts_count : (n at : ℕ) → length (texts_again n s at) ≡ n
  unfolding texts_again
  texts_count zero at = refl
  texts_count (suc n) at = ap suc (texts_count n (part_again s at).next)

  pub tags_count : (n at : ℕ) → length (tags_again n s at) ≡ n
  unfolding tags_again
  tags_count zero at = refl
  tags_count (suc n) at = ap suc (tags_count n (texts_end (count_again s at).value s (count_again s at).next))

  -- ---- the turns of the loops

  -- a text more, and the others from behind its part
  pub texts_turn : (left at : ℕ) {p : Part} {next : ℕ} → 0 < left → p ≡ (part_again s at).value → next ≡ (part_again s at).next
      → (texts_again left s at ≡ text_of s p ∷ texts_again (left - 1) s next) × (texts_end left s at ≡ texts_end (left - 1) s next)
  unfolding texts_again texts_end
  texts_turn zero at h e f = absurd (omega arith)
  texts_turn (suc left) at h e f = (rw (e, f, sub-one), rw (f, sub-one))

  pub texts_left : (left at : ℕ) → left ≤ 0 → (texts_again left s at ≡ []) × (texts_end left s at ≡ at)
  unfolding texts_again texts_end
  texts_left zero at h = (refl, refl)
  texts_left (suc left) at h = absurd (omega arith)

  -- a tag more, and the others from where its texts end
  pub tags_turn : (left at : ℕ) {n first end : ℕ} → 0 < left → n ≡ (count_again s at).value → first ≡ (count_again s at).next → end ≡ texts_end n s first
      → tags_again left s at ≡ texts_again n s first ∷ tags_again (left - 1) s end
  unfolding tags_again
  tags_turn zero at h e f g = absurd (omega arith)
  tags_turn (suc left) at h e f g = rw (g, e, f, sub-one)

  pub tags_left_lem : (left at : ℕ) → left ≤ 0 → tags_again left s at ≡ []
  unfolding tags_again
  tags_left_lem zero at h = refl
  tags_left_lem (suc left) at h = absurd (omega arith)

  -- ---- what was read

  -- a text that passed its test is the same payload without the test
  text_again : (place n at : ℕ) (e : Read Part) → text_at place n s at ≡ shown e → payload_at place false n s at ≡ shown e
  unfolding payload_at
  text_again place n at e r =
      let g = shown_reads (rw r at (text_reads place n s at)) in
      let k : n ≤ length s - at = omega (arith, g.1.payload.long, span_fits g.2) in
      let next : at + n ≡ e.next = omega (arith, g.1.payload.long, span_length g.2) in
      rw (le-leb n (length s - at) k) λ i. shown (record { value = sym g.1.payload.is i; next = next i })

  -- an element that was read is read again without a test of its text
  pub part_again_lem : (at : ℕ) (e : Read Part) → element_at s at ≡ shown e → part_again s at ≡ e
  unfolding element_at element_part_at part_again
  part_again_lem at e r = let w = then_shown (varint_at s at) _ e r in rw (w.1, go w.0 (eqb (w.0.value % 2) 1) w.2)
    where
      go : (w : Read ℕ) (t : Bool) → pick t (payload_at at true (w.value / 2) s w.next) (text_at at (w.value / 2) s w.next) ≡ shown e
          → payload_at at t (w.value / 2) s w.next ≡ shown e
      go w true k = k
      go w false k = text_again at (w.value / 2) w.next e k

  pub texts_again_lem : (n at : ℕ) (v : Read (List Part)) → elements_at n s at ≡ shown v
      → (texts_again n s at ≡ map (text_of s) v.value) × (texts_end n s at ≡ v.next)
  unfolding texts_again texts_end many
  texts_again_lem zero at v e = let f = read_same e in (ap (map (text_of s)) f.0, f.1)
  texts_again_lem (suc n) at v e =
      let a = many_apart (element_at s) n at v e in
      let b = texts_again_lem n a.0.next a.1 a.3 in
      let q = part_again_lem at a.0 a.2 in
      (rw (q, b.0) (ap (map (text_of s)) (sym a.4)), rw q (b.1 ∙ sym a.5))

  -- a tag's number of texts is a number that is not 0
  pub count_number : (at : ℕ) (n : Read ℕ) → tag_count_at s at ≡ shown n → number_at 255 8 s at ≡ shown n
  unfolding tag_count_at
  count_number at n e = let a = then_shown (number_at 255 8 s at) _ n e in a.1 ∙ go (eqb a.0.value 0) a.2
    where
      go : (t : Bool) {x : Read ℕ} → pick t (refused 9 at) (shown x) ≡ shown n → shown x ≡ shown n
      go true k = let z : ◌≡◌ {A = ℕ} 0 1 = cc in absurd (omega arith)
      go false k = k

  pub tags_again_lem : (n at : ℕ) (v : Read (List (List Part))) → tags_standing n s at ≡ shown v → tags_again n s at ≡ map (map (text_of s)) v.value
  unfolding tags_again count_again many
  tags_again_lem zero at v e = ap (map (map (text_of s))) (read_same e).0
  tags_again_lem (suc n) at v e =
      let a = many_apart (tag_at s) n at v e in
      let t = tag_apart s at a.0.next a.0.value a.2 in
      let w = texts_again_lem (length a.0.value) t.0 _ t.2 in
      rw (count_number at _ t.1, w.0, w.1, tags_again_lem n a.0.next a.1 a.3) (ap (map (map (text_of s))) (sym a.4))

  -- a tag has at most 255 texts
  pub count_most : (at : ℕ) → (count_again s at).value ≤ 255
  unfolding count_again number_at
  count_most at = go (varint_at s at)
    where
      value : Answer (Read ℕ) → ℕ
      value r = (or_else (record { value = 0; next = at }) r (λ (n : Read ℕ). n)).value

      go : (r : Answer (Read ℕ)) → value (and_then r (λ (n : Read ℕ). pick (leb n.value 255) (shown n) (refused 8 at))) ≤ 255
      go (shown n) = pick_by (λ (x : Answer (Read ℕ)). value x ≤ 255) (leb n.value 255) (λ t. leb-true n.value 255 t) (λ f. omega arith)
      go (refused n q) = omega arith

  pub count_few : IsBytes s → (at : ℕ) → (count_again s at).value ≤ 255
  count_few bytes at = count_most at

  -- ---- the whole

  -- an input that the walk accepted
  pub record Accepted (w : Walked) : Type 0 where
    -- the event that is gone over again is the event that it shows
    pub shows : unpack s ≡ shown (event_again s w.head)
    pub sound : Shows s (event_again s w.head)
    pub few : w.head.tag_count ≤ 1_000
    -- the content's part has the content's bytes and length
    pub plain : text_of s w.head.content ≡ bytes_of s w.head.content
    pub size : length (text_of s w.head.content) ≡ w.head.content.len
    -- the strict form's length, and how the input stands to that form
    pub len : w.tally.len ≡ length (pack (event_again s w.head))
    pub piece : Piece (pack (event_again s w.head)) s w.tally.hollow

  packed_event : (p : Packed) → packed_at s ≡ shown p → event_of s p ≡ event_again s p.head
  unfolding event_of event_again
  packed_event p e = rw (tags_again_lem p.head.tag_count p.head.tags_at _ (packed_apart s p e).1)

  packed_accepted : IsBytes s → (p : Packed) → packed_at s ≡ shown p → Accepted (record { head = p.head; tally = tally_of s p })
  unfolding unpack
  packed_accepted bytes p e =
      let d = shown_gives (rw (packed_head_lem s p e) at (head_gives s bytes)) in
      let c = sized_text d.content.2 in
      let v = packed_event p e in
      let u : unpack s ≡ shown (event_again s p.head) = rw e (ap shown v) in
      let g = shown_gives (rw e at (packed_gives s bytes)) in
      record {
        shows = u;
        sound = sound s bytes (event_again s p.head) u;
        few = d.count.1.within;
        plain = c.5;
        size = c.4;
        len = ap (λ (x : Event). length (pack x)) v;
        piece = subst (λ (x : Event). Piece (pack x) s (hollow_tags p.tags)) v g.piece;
      }

  -- On an input that the walk accepts, going over it again gives the event that it shows.
  pub accepted : IsBytes s → (w : Walked) (r : Answer Walked) → r ≡ walk_at s → r ≡ shown w → Accepted w
  accepted bytes w r e k =
      let p = walked_packed s w (sym e ∙ k) in
      subst (λ (v : Walked). Accepted v) (sym p.2) (packed_accepted bytes p.0 p.1)

  -- What stands in front of its tags is within an event's bounds, and so is its length.
  pub within : IsBytes s → {w : Walked} → shown w ≡ walk_at s
      → (length s ≤ 65_536) × (w.head.tag_count ≤ 1_000) × (w.head.created_at ≤ 9_223_372_036_854_775)
  unfolding event_again
  within bytes {w} e = let g = accepted bytes w (shown w) e refl in (g.sound.short, g.few, g.sound.valid.time)
