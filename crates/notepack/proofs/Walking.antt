-- The walk over a whole input: what stands in front of the tags takes no less room than its strict form, and the tally
-- is the strict form's.
-- From the pieces of the head and the pass over the tags.
use Prim.Native.Nat.{ℕ, ◌+◌, ◌≤◌, ◌<◌}
use mathlib.Core.Path.{◌≡◌, sym, ap, ◌∙◌}
use mathlib.Core.Bool.{true, false}
use mathlib.Core.List.{List, map}
use native.Mathlib.Omega.{arith}
use lib.ListN.{length, length-append, length-map}
use lib.Dec.{eqb}
use borrow.Author.Tests.{le-leb, lt-leb, eq-eqb, ne_eqb}
use Rattle.scan.specs.Choice.{pick, Answer, shown, refused, Read, read, and_then}
use Rattle.scan.specs.Bytes.{IsBytes}
use Rattle.scan.proofs.SpanLaws.{span_length, span_fits}
use Rattle.scan.proofs.Reading.{shown_reads, shown_gives, read_same}
use Rattle.scan.proofs.Many.{then_shown}
use Rattle.varint.proofs.UlebLaws.{uleb_shortest}
use Rattle.hexdigits.specs.Hex.{hexes}
use Rattle.notepack.specs.declared.Part.{Part}
use Rattle.notepack.specs.declared.Head.{Head}
use Rattle.notepack.specs.declared.Tally.{Tally}
use Rattle.notepack.specs.Strict.{pack_tags, pack}
use Rattle.notepack.specs.Unpack.{bytes_of, text_of, tags_standing, head_at, Packed, packed_at, event_of, unpack}
use Rattle.notepack.specs.inner.Tally.{hollow_tags, head_len, more, pass_tags, tally_of}
use Rattle.notepack.specs.inner.Answers.{Walked, walk_at}
use Rattle.notepack.proofs.Sound.{Headed, sized_text, head_gives, tags_reads}

-- an input over the limit is refused first of all
pub walk_long : (s : List ℕ) → 65_536 < length s → refused 1 0 ≡ walk_at s
unfolding walk_at packed_at
walk_long s l = rw (lt-leb (length s) 65_536 l)

module _ (s : List ℕ) (bytes : IsBytes s) (h : Head) (found : head_at s ≡ shown h) where
  headed : Headed s bytes h
  headed = shown_gives (rw found at (head_gives s bytes))

  -- the content is a part of the input
  pub content_short : h.content.len ≤ length s
  content_short =
      let d = headed in
      let c = sized_text d.content.2 in
      omega (arith, c.4, ap length c.1, length-append c.0 (text_of s h.content), span_fits d.content.3)

  -- the strict form of what stands in front of the tags is no longer than they stand behind
  pub head_room : head_len h ≤ h.tags_at
  unfolding head_len
  head_room =
      let d = headed in
      let c = sized_text d.content.2 in
      let k = rw c.4 at (uleb_shortest c.3.digits) in
      omega (
        arith,
        uleb_shortest d.time.2.spells.digits,
        uleb_shortest d.kind.2.spells.digits,
        uleb_shortest d.count.1.spells.digits,
        k,
        c.4,
        ap length c.1,
        length-append c.0 (text_of s h.content),
        span_length d.time.3,
        span_length d.kind.3,
        span_length d.content.3,
        span_length d.count.2,
      )

  -- the length of the strict form
  pub pack_length : (ts : List (List Part)) → length ts ≡ h.tag_count
      → length (pack (event_of s (record { head = h; tags = ts }))) ≡ head_len h + length (pack_tags (map (map (text_of s)) ts))
  unfolding pack event_of head_len
  pack_length ts n =
      let d = headed in
      let c = sized_text d.content.2 in
      let m : length (map (map (text_of s)) ts) ≡ h.tag_count = length-map ts (map (text_of s)) ∙ n in
      simp (length-append, m, c.4) (omega (arith, d.ids, c.4))

  -- the tally of what stands in front of the tags
  abbrev front : Tally
  front = record { len = head_len h; hollow = false }

  -- what passing over all the tags tells
  tags_told : (t u : Tally) (a : ℕ) (r : Answer (Read (List (List Part)))) → read u a ≡ and_then r (pass_tags s t)
      → (ts : List (List Part)) × (r ≡ read ts a) × (u ≡ more t (length (pack_tags (map (map (text_of s)) ts))) (hollow_tags ts))
  tags_told t u a (shown v) e =
      let f = read_same e in
      (v.value, ap (λ (k : ℕ). read v.value k) (sym f.1), f.0)
  tags_told t u a (refused n p) e = let z : ◌≡◌ {A = ℕ} 0 1 = cc in absurd (omega arith)

  tally_of_lem : (ts : List (List Part)) (u : Tally) → length ts ≡ h.tag_count → u ≡ more front (length (pack_tags (map (map (text_of s)) ts))) (hollow_tags ts)
      → u ≡ tally_of s (record { head = h; tags = ts })
  tally_of_lem ts u n m = m ∙ λ i. record { len = sym (pack_length ts n) i; hollow = hollow_tags ts }

  module _ (short : length s ≤ 65_536) (len : ℕ) (measured : len ≡ head_len h) (f : Answer (Read Tally))
      (passed : f ≡ and_then (tags_standing h.tag_count s h.tags_at) (pass_tags s (record { len = len; hollow = false }))) where
    told_tags : (u : Tally) (a : ℕ) → f ≡ read u a
        → (ts : List (List Part)) × (tags_standing h.tag_count s h.tags_at ≡ read ts a) × (u ≡ tally_of s (record { head = h; tags = ts }))
    told_tags u a k = go (tags_told front u a (tags_standing h.tag_count s h.tags_at) (sym k ∙ passed ∙ ap (λ (n : ℕ). and_then (tags_standing h.tag_count s h.tags_at) (pass_tags s (record { len = n; hollow = false }))) measured))
      where
        go : ((ts : List (List Part)) × (tags_standing h.tag_count s h.tags_at ≡ read ts a) × (u ≡ more front (length (pack_tags (map (map (text_of s)) ts))) (hollow_tags ts)))
            → (ts : List (List Part)) × (tags_standing h.tag_count s h.tags_at ≡ read ts a) × (u ≡ tally_of s (record { head = h; tags = ts }))
        go r =
            let g = shown_reads (rw r.1 at (tags_reads s bytes h.tag_count h.tags_at)) in
            (r.0, r.1, tally_of_lem r.0 u g.1.count r.2)

    pub walk_done : (u : Tally) (end : ℕ) → f ≡ read u end → end ≡ length s → shown (record { head = h; tally = u }) ≡ walk_at s
    unfolding walk_at packed_at
    walk_done u end k e = go (told_tags u end k)
      where
        go : ((ts : List (List Part)) × (tags_standing h.tag_count s h.tags_at ≡ read ts end) × (u ≡ tally_of s (record { head = h; tags = ts })))
            → shown (record { head = h; tally = u }) ≡ walk_at s
        go r = rw (le-leb (length s) 65_536 short, found, r.1, eq-eqb end (length s) e, r.2)

    pub walk_after : (u : Tally) (end : ℕ) → f ≡ read u end → (end ≡ length s → ⊥) → refused 10 end ≡ walk_at s
    unfolding walk_at packed_at
    walk_after u end k n =
        let r = told_tags u end k in
        rw (le-leb (length s) 65_536 short, found, r.1, ne_eqb end (length s) n)

    pub walk_refused : (n q : ℕ) → f ≡ refused n q → refused n q ≡ walk_at s
    unfolding walk_at packed_at
    walk_refused n q k = rw (le-leb (length s) 65_536 short, found) (go (tags_standing h.tag_count s h.tags_at) (sym k ∙ passed))
      where
        go : (r : Answer (Read (List (List Part)))) → refused n q ≡ and_then r (pass_tags s (record { len = len; hollow = false }))
            → ◌≡◌ {A = Answer Walked} (refused n q)
            (and_then (and_then {B = Packed} r (λ (t : Read (List (List Part))). pick (eqb t.next (length s)) (shown (record { head = h; tags = t.value })) (refused 10 t.next)))
            (λ (p : Packed). shown (record { head = p.head; tally = tally_of s p })))
        go (shown v) e = let z : ◌≡◌ {A = ℕ} 0 1 = cc in absurd (omega arith)
        go (refused m p) e =
            let a : n ≡ m = cc in
            let b : q ≡ p = cc in
            rw (a, b)

-- ---- what a walk says of the event

-- the packed event behind a walk
pub walked_packed : (s : List ℕ) (w : Walked) → walk_at s ≡ shown w → (p : Packed) × (packed_at s ≡ shown p) × (w ≡ record { head = p.head; tally = tally_of s p })
unfolding walk_at
walked_packed s w e =
    let p = then_shown (packed_at s) _ w e in
    let f : ◌≡◌ {A = Walked} (record { head = p.0.head; tally = tally_of s p.0 }) w = cc in
    (p.0, p.1, sym f)

-- a walk that is refused is the reader's refusal
pub walk_refuses : (s : List ℕ) (n q : ℕ) → walk_at s ≡ refused n q → unpack s ≡ refused n q
unfolding walk_at unpack
walk_refuses s n q e = go (packed_at s) e
  where
    go : (r : Answer Packed) → and_then {B = Walked} r (λ (p : Packed). shown (record { head = p.head; tally = tally_of s p })) ≡ refused n q
        → and_then r (λ (p : Packed). shown (event_of s p)) ≡ refused n q
    go (shown p) e = let z : ◌≡◌ {A = ℕ} 0 1 = cc in absurd (omega arith)
    go (refused m p) e =
        let a : m ≡ n = cc in
        let b : p ≡ q = cc in
        rw (a, b)

-- ---- a part's text

pub text_raw : (s : List ℕ) (p : Part) → p.raw ≡ true → text_of s p ≡ hexes (bytes_of s p)
unfolding text_of
text_raw s p h = rw h

pub text_plain : (s : List ℕ) (p : Part) → p.raw ≡ false → text_of s p ≡ bytes_of s p
unfolding text_of
text_plain s p h = rw h
