-- What the lister prints is at most 128 bytes long: each number is within its limit, so it has few digits.
-- By the limits of the event that is shown, and by the numbers and places that the reader refuses with.
use Prim.Native.Nat.{ℕ, ◌≤◌, ◌<◌, ◌^◌}
use mathlib.Core.Path.{◌≡◌, refl, sym, ap, ◌∙◌}
use mathlib.Core.Bool.{Bool, true, false}
use mathlib.Core.List.{List, [], ◌∷◌, ◌++◌}
use native.Mathlib.Nat.{zero-add}
use native.Mathlib.Omega.{arith}
use lib.ListN.{length, take, drop, length-append, length-take, length-drop}
use lib.Seq.{take_at}
use lib.Dec.{eqb, leb}
use borrow.Author.Tests.{eqb-true, leb-true}
use Rattle.scan.specs.Choice.{pick, Answer, shown, refused, and_then}
use Rattle.scan.proofs.Step.{pick_true, false_true}
use Rattle.scan.specs.Bytes.{IsBytes}
use Rattle.buffer.specs.inner.Store.{Buffer, puts, Wrote}
use Rattle.buffer.proofs.Laws.{puts_eq}
use Rattle.decimal.proofs.Spelling.{length_most, length_u64, length_u16}
use Rattle.event.specs.Event.{Event}
use Rattle.event.specs.inner.Tells.{among, Tells, refusal}
use Rattle.notepack.specs.declared.Head.{Head}
use Rattle.notepack.specs.inner.Numbers.{packed_numbers}
use Rattle.notepack.specs.Views.{numbers_of, content_of, view}
use Rattle.notepack.specs.Seen.{Seen}
use Rattle.notepack.proofs.Sound.{sound}
use Rattle.notepack.proofs.Seen.{seen}
use Rattle.notepack.proofs.Viewing.{content_numbers, numbers_event}
use Rattle.notepack.proofs.Telling.{HeadIn, numbers_tells}
use Rattle.lister.specs.Listing.{numbers_text, refusal_text, listing}

-- ---- the lengths

-- a text of four numbers of at most 16, 5, 20 and 4 digits
numbers_fit : (h : Head) → h.created_at ≤ 9_223_372_036_854_775 → h.kind ≤ 65_535 → h.content.len < 2 ^ 64 → h.tag_count ≤ 1_000
    → length (numbers_text h) ≤ 128
unfolding numbers_text
numbers_fit h t k c n =
    let a = length_most 15 h.created_at (omega arith) in
    let b = length_u16 h.kind k in
    let d = length_u64 h.content.len c in
    let e = length_most 3 h.tag_count (omega arith) in
    simp length-append (omega (arith, a, b, d, e))

-- a text of two numbers of at most 2 and 20 digits
refusal_fits : (n p : ℕ) → n ≤ 24 → p < 2 ^ 64 → length (refusal_text n p) ≤ 128
unfolding refusal_text
refusal_fits n p h k =
    let a = length_most 1 n (omega arith) in
    let b = length_u64 p k in
    simp length-append (omega (arith, a, b))

-- the content that is shown is no longer than the input
content_short : (s : List ℕ) (e : Event) (q : Seen s e) → q.head.content.len ≤ length s
content_short s e q =
    let n = q.head.content.len in
    let at = q.head.content.at in
    let c : content_of s ≡ shown q.head.content = content_numbers s ∙ ap (λ (r : Answer Head). and_then r (λ (h : Head). shown h.content)) q.numbers in
    let w : length (take n (drop at s)) ≡ n = ap (λ r. length (view s r)) (sym c) ∙ ap length q.content ∙ sym q.size in
    let u : length (take n (drop at s)) ≤ length s = simp (length-take, length-drop) (omega arith) in
    omega (arith, w, u)

-- none of the numbers is above m
abbrev none_above : ℕ → List ℕ → Bool
none_above m [] = true
none_above m (k ∷ l) = pick (leb k m) (none_above m l) false

among_most : (l : List ℕ) (m n : ℕ) → none_above m l ≡ true → among l n ≡ true → n ≤ m
among_most [] m n a h = absurd (false_true h)
among_most (k ∷ l) m n a h =
    let p = pick_true (leb k m) (none_above m l) a in
    go (leb-true k m p.0) (λ q. among_most l m n p.1 q) (eqb n k) refl h
  where
    go : k ≤ m → (among l n ≡ true → n ≤ m) → (t : Bool) → eqb n k ≡ t → pick t true (among l n) ≡ true → n ≤ m
    go b f true e h = rw (eqb-true n k e) b
    go b f false e h = f h

-- The lister's text has room in 128 bytes, whatever the input.
pub listing_fits : (s : List ℕ) → IsBytes s → length s < 2 ^ 64 → length (listing (numbers_of s)) ≤ 128
unfolding listing
listing_fits s bytes small = go (numbers_of s) refl (numbers_tells s)
  where
    go : (r : Answer Head) → numbers_of s ≡ r → Tells packed_numbers (length s) (HeadIn s) r → length (listing r) ≤ 128
    go (shown h) e w =
        let n = numbers_event s h e in
        let q = seen s bytes n.event n.shows in
        let v = (sound s bytes n.event n.shows).valid in
        let same : q.head ≡ h = let f = sym q.numbers ∙ e in cc in
        let long : h.content.len ≤ length s = rw same at (content_short s n.event q) in
        let count : h.tag_count ≡ length n.event.tags = rw same at q.count in
        numbers_fit h (omega (arith, v.time, n.time)) (omega (arith, v.kind16, n.kind)) (omega (arith, long, small)) (omega (arith, v.few, count))
    go (refused n p) e (refusal o k) = refusal_fits n p (among_most packed_numbers 24 n refl o) (omega (arith, k, small))

-- a text that fits is what stands at the buffer's start, up to the place behind it
stands_whole : {d text d' : List ℕ} {r : ℕ} → Wrote d 0 text d' r → length text ≤ length d → (r ≡ length text) × (take r d' ≡ text)
stands_whole {d} {text} {d'} {r} w h =
    let e : puts (d, 0) text ≡ (text ++ drop (length text) d, length text) = puts_eq d 0 text (omega arith) ∙ rw zero-add in
    let k = w.is ∙ e in
    let n : r ≡ length text = ap (λ (b : Buffer). b.1) k in
    let l : d' ≡ text ++ drop (length text) d = ap (λ (b : Buffer). b.0) k in
    (n, rw (n, l) (take_at text (drop (length text) d) (length text) refl))

-- ---- what is printed, by what the reader told

module _ {s d d' : List ℕ} {r : ℕ} (bytes : IsBytes s) (small : length s < 2 ^ 64) (room : 128 ≤ length d) where
  lists : {text : List ℕ} → text ≡ listing (numbers_of s) → Wrote d 0 text d' r → (r ≡ length (listing (numbers_of s))) × (take r d' ≡ listing (numbers_of s))
  lists e w =
      let whole : Wrote d 0 (listing (numbers_of s)) d' r = rw (sym e) w in
      stands_whole whole (omega (arith, room, listing_fits s bytes small))

  pub lists_numbers : {h : Head} → shown h ≡ numbers_of s → Wrote d 0 (numbers_text h) d' r → (r ≡ length (listing (numbers_of s))) × (take r d' ≡ listing (numbers_of s))
  unfolding listing
  lists_numbers e = lists (ap listing e)

  pub lists_refusal : {n p : ℕ} → refused n p ≡ numbers_of s → Wrote d 0 (refusal_text n p) d' r → (r ≡ length (listing (numbers_of s))) × (take r d' ≡ listing (numbers_of s))
  unfolding listing
  lists_refusal e = lists (ap listing e)
