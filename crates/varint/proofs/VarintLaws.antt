-- A varint is read at a place exactly where its spelling is the span, and what is written reads back.
-- The laws of `spelled` at a place, through `Span`; callers speak of `Spells` and `varint_at` alone.
use Prim.Native.Nat.{ℕ, ◌+◌, ◌^◌, ◌≤◌, ◌<◌}
use mathlib.Core.Path.{◌≡◌, refl, sym, ap, ◌∙◌}
use mathlib.Core.List.{List, ◌++◌}
use mathlib.Core.Logic.{dite, ◌↔◌}
use native.Mathlib.Omega.{arith}
use native.Mathlib.Decide.{dec_lt}
use lib.ListN.{length, drop, length-append, length-drop}
use lib.Dec.{ltb}
use borrow.Author.Tests.{lt-ltb, le-ltb}
use Rattle.scan.specs.Choice.{Answer, shown, refused, Read, read}
use Rattle.scan.specs.Bytes.{IsBytes}
use Rattle.scan.specs.inner.Span.{Span}
use Rattle.scan.proofs.Step.{pick_by}
use Rattle.scan.proofs.SpanLaws.{from_span, to_span, span_length, span_fits, span_unique}
use Rattle.scan.proofs.AllLaws.{span_all}
use Rattle.scan.proofs.Reading.{Reads, reads, fails}
use Rattle.varint.specs.Uleb.{Spells, uleb}
use Rattle.varint.specs.Varint.{Spelled, number, padded, over, cut, spelled, answered, varint_at}
use Rattle.varint.proofs.UlebLaws.{uleb_spells, spells_one, spells_ten}
use Rattle.varint.proofs.SpelledLaws.{spelled_digits, Taken, taken, taken_padded, taken_over, taken_cut, spelled_taken}

-- ---- at a place: what is accepted

-- a varint that stands in front of any bytes is read, and told with the place behind it
pub accepts_list : {n : ℕ} {l : List ℕ} (s : List ℕ) (at : ℕ) (r : List ℕ) → Spells n l → drop at s ≡ l ++ r → varint_at s at ≡ read n (at + length l)
unfolding varint_at
accepts_list {l = l} s at r h e =
    let d = spelled_digits 9 r h.digits (spells_ten h) (omega (arith, h.holds)) in
    let k = ap length e in
    rw (lt-ltb at (length s) (omega (arith, spells_one h, length-append l r, length-drop at s)), e, d)

-- a varint that is the span is read, and told with the span's end
pub accepts : {n : ℕ} {l s : List ℕ} {at c : ℕ} → Spells n l → Span s at l c → varint_at s at ≡ read n c
accepts {l = l} {s = s} {at = at} {c = c} h p = rw (span_length p) (accepts_list s at (drop c s) h (from_span p))

-- what is written reads back, whatever follows
pub reads_back : {n : ℕ} {s : List ℕ} {at c : ℕ} → n < 2 ^ 64 → Span s at (uleb n) c → varint_at s at ≡ read n c
reads_back {n} h p = accepts (uleb_spells n h) p

-- ---- at a place: what is consumed

-- the numbers of refusal of a varint
pub data Refuses : ℕ → Type 0 where
  truncated : Refuses 2
  overflow : Refuses 3
  unterminated : Refuses 4
  longer : Refuses 24

-- what is told at a place: a number with the bytes that were taken, or a refusal at the varint
data Outcome (s : List ℕ) (at : ℕ) : Answer (Read ℕ) → Type 0 where
  took : {n next : ℕ} (l : List ℕ) → Span s at l next → 1 ≤ length l → length l ≤ 10 → (IsBytes l → Spells n l) → Outcome s at (read n next)
  not_taken : {k : ℕ} → Refuses k → Outcome s at (refused k at)

answered_outcome : {t : List ℕ} {x : Spelled} (s : List ℕ) (at : ℕ) → drop at s ≡ t → Taken 9 t x → Outcome s at (answered at x)
answered_outcome s at e (taken {n = n} {w = w} l r f g h k u) =
    took {next = at + w} l (rw g (to_span s l r at (e ∙ f))) h k (λ y. let v = u y in record { digits = v.0; holds = omega (arith, v.1) })
answered_outcome s at e taken_padded = not_taken longer
answered_outcome s at e taken_over = not_taken overflow
answered_outcome s at e taken_cut = not_taken unterminated

outcome : (s : List ℕ) (at : ℕ) → Outcome s at (varint_at s at)
unfolding varint_at
outcome s at =
    pick_by (Outcome s at) (ltb at (length s)) (λ e. answered_outcome s at refl (spelled_taken 9 (drop at s))) (λ e. not_taken truncated)

-- a refusal is one of a varint's, at the varint
pub refusal : (s : List ℕ) (at : ℕ) {k p : ℕ} → varint_at s at ≡ refused k p → Refuses k × (p ≡ at)
refusal s at e = go (outcome s at) e
  where
    go : {x : Answer (Read ℕ)} {k p : ℕ} → Outcome s at x → x ≡ refused k p → Refuses k × (p ≡ at)
    go (took l q h k u) e = let z : ◌≡◌ {A = ℕ} 0 1 = cc in absurd (omega arith)
    go {k = k} (not_taken {k = j} h) e = let q : j ≡ k = cc in (rw q at h, cc)

-- what was taken for the answer r
abbrev Taking : List ℕ → ℕ → Read ℕ → Type 0
Taking s at r = (l : List ℕ) × Span s at l r.next × (1 ≤ length l) × (length l ≤ 10) × (IsBytes l → Spells r.value l)

taking : (s : List ℕ) (at : ℕ) {r : Read ℕ} → varint_at s at ≡ shown r → Taking s at r
taking s at {r} e = go (outcome s at) e
  where
    go : {x : Answer (Read ℕ)} → Outcome s at x → x ≡ shown r → Taking s at r
    go (took {n = n} {next = next} l q h k u) e =
        let f : record { value = n; next = next } ≡ r = cc in
        let v : n ≡ r.value = ap (λ (a : Read ℕ). a.value) f in
        let w : next ≡ r.next = ap (λ (a : Read ℕ). a.next) f in
        (l, rw w at q, h, k, rw v at u)
    go (not_taken h) e = let z : ◌≡◌ {A = ℕ} 0 1 = cc in absurd (omega arith)

-- a read takes one to ten bytes, and they are there
pub consumes_some : (s : List ℕ) (at : ℕ) {r : Read ℕ} → varint_at s at ≡ shown r → (at < r.next) × (r.next ≤ at + 10) × (r.next ≤ length s)
consumes_some s at e = let t = taking s at e in omega (arith, t, span_length t.1, span_fits t.1)

-- what is read of bytes is a varint that stands there, and the place told is its end
pub consumes : (s : List ℕ) (at : ℕ) {r : Read ℕ} → IsBytes s → varint_at s at ≡ shown r
    → (l : List ℕ) × Spells r.value l × Span s at l r.next
consumes s at y e = let t = taking s at e in (t.0, t.4 (span_all y t.1), t.1)

-- the same as a reading: the answer's value is spelled from `at` to the answer's place
pub varint_reads : (s : List ℕ) (at : ℕ) → IsBytes s → Reads Spells s at (varint_at s at)
varint_reads s at y = go (varint_at s at) refl
  where
    go : (x : Answer (Read ℕ)) → varint_at s at ≡ x → Reads Spells s at x
    go (shown r) e = let t = consumes s at y e in reads t.1 t.2
    go (refused n p) e = fails

-- truncated, 2, is said exactly where no byte is left
pub truncated_at : (s : List ℕ) (at : ℕ) → (varint_at s at ≡ refused 2 at) ↔ (length s ≤ at)
unfolding varint_at
truncated_at s at = (
  λ e. dite (dec_lt at (length s)) (λ h. absurd (go (spelled 9 (drop at s)) (rw (lt-ltb at (length s) h) at e))) (λ n. omega (arith, n)),
  λ h. rw (le-ltb at (length s) h),
)
  where
    go : (x : Spelled) → answered at x ≡ refused 2 at → ⊥
    go (number n w) e = let z : ◌≡◌ {A = ℕ} 0 1 = cc in omega arith
    go padded e = let z : ◌≡◌ {A = ℕ} 24 2 = cc in omega arith
    go over e = let z : ◌≡◌ {A = ℕ} 3 2 = cc in omega arith
    go cut e = let z : ◌≡◌ {A = ℕ} 4 2 = cc in omega arith

-- two varints at one place are one
pub one_varint : {n m : ℕ} {k l s : List ℕ} {at c d : ℕ} → Spells n l → Span s at l c → Spells m k → Span s at k d → (n ≡ m) × (l ≡ k) × (c ≡ d)
one_varint {n} {m} {c = c} {d = d} h p i q =
    let e = sym (accepts h p) ∙ accepts i q in
    let f : ◌≡◌ {A = Read ℕ} (record { value = n; next = c }) (record { value = m; next = d }) = cc in
    let g = ap (λ (a : Read ℕ). a.next) f in
    (ap (λ (a : Read ℕ). a.value) f, span_unique (rw g at p) q, g)
