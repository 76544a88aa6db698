-- The turns of the loop that reads a varint: what was gathered, put in front of what the rest spells, is the answer at
-- the start.
-- `Held` keeps the number small: seven bits more in each of nine turns, and one bit in the tenth byte.
use Prim.Native.Nat.{ℕ, zero, suc, ◌+◌, ◌*◌, ◌-◌, ◌^◌, ◌≤◌, ◌<◌}
use mathlib.Core.Path.{◌≡◌, refl, sym, ap, ◌∙◌}
use mathlib.Core.Bool.{Bool, true, false}
use mathlib.Core.List.{List, ◌∷◌}
use native.Mathlib.Nat.{one-le-pow, pow-succ', mul-le-mul_left}
use native.Mathlib.Numerals.{sub-one}
use native.Mathlib.Omega.{arith}
use lib.ListN.{length, get_or, drop}
use lib.Dec.{ltb, leb, eqb}
use mir.Syntax.{w64}
use mir.Val.{Fits}
use borrow.Author.Tests.{lt-ltb, le-ltb, le-leb, lt-leb, ne_eqb, eqb-false}
use Rattle.scan.specs.Choice.{pick, Answer, refused, Read, read}
use Rattle.scan.proofs.Step.{rest_none, rest_more}
use Rattle.varint.specs.Varint.{Spelled, number, padded, over, cut, carry, spelled, answered, varint_at}
use Rattle.std.specs.Prelude.{Result, Err}
use Rattle.event.specs.declared.Refusal.{Refusal}
use Rattle.event.specs.declared.Reason.TheVariants.{Truncated, VarintPadded, VarintUnterminated, VarintOverflow}
use Rattle.event.specs.inner.Told.{read_answer}

-- ---- the number stays small

-- what was gathered is below the scale, and `left` bytes more keep the scale to 63 bits
pub record Held (value scale left : ℕ) : Type 0 where
  pub below : value < scale
  pub room : scale * 128 ^ left ≤ 2 ^ 63

-- seven bits of the first byte are held
pub held_start : {d : ℕ} → d < 128 → Held d 128 8
held_start h = record { below = h; room = omega arith }

-- and of the second
pub held_two : {d e : ℕ} → d < 128 → e < 128 → Held (d + 128 * e) 16_384 7
held_two h k = record { below = omega arith; room = omega arith }

-- the next scale has its room
held_next : {v c left : ℕ} → Held v c left → 0 < left → (c * 128 * 128 ^ (left - 1) ≤ 2 ^ 63) × (c * 128 ≤ 2 ^ 63)
held_next {c = c} {left = left} h p = go left p h.room
  where
    go : (left : ℕ) → 0 < left → c * 128 ^ left ≤ 2 ^ 63 → (c * 128 * 128 ^ (left - 1) ≤ 2 ^ 63) × (c * 128 ≤ 2 ^ 63)
    go zero p r = absurd (omega arith)
    go (suc k) p r =
        let w : c * 128 * 128 ^ k ≤ 2 ^ 63 = omega (arith, rw (pow-succ' 128 k) at r) in
        rw sub-one (w, omega (arith, mul-le-mul_left (c * 128) (one-le-pow k 128 (omega arith))))

-- before the tenth byte some are left
pub more_left : {k : ℕ} → k < 9 → 0 < 9 - k
more_left h = omega arith

-- seven bits more stay below the next scale
held_sum : {v c left d : ℕ} → Held v c left → d < 128 → v + c * d < c * 128
held_sum {c = c} h q = omega (arith, h, mul-le-mul_left c q)

-- seven bits are left of a byte with the top bit
pub seven : (b : ℕ) → b < 256 → b - 128 < 128
seven b h = omega arith

module _ {v c left d : ℕ} where
  -- one byte more is held
  pub held_again : Held v c left → 0 < left → d < 128 → Held (v + c * d) (c * 128) (left - 1)
  held_again h p q = record { below = held_sum h q; room = (held_next h p).0 }

  -- the sum with its seven bits does not wrap
  pub held_add : Held v c left → 0 < left → d < 128 → Fits w64 (v + c * d)
  held_add h p q = omega (arith, held_sum h q, (held_next h p).1)

  -- nor does the product
  pub held_mul : Held v c left → 0 < left → d < 128 → Fits w64 (c * d)
  held_mul h p q = omega (arith, held_sum h q, (held_next h p).1)

  -- the sum with the tenth byte's bit does not wrap
  pub held_add_bit : Held v c left → left ≤ 0 → d ≤ 1 → Fits w64 (v + c * d)
  held_add_bit h p q = let e : left ≡ 0 = omega arith in omega (arith, h.below, rw e at h.room, mul-le-mul_left c q)

  -- nor does the product
  pub held_mul_bit : Held v c left → left ≤ 0 → d ≤ 1 → Fits w64 (c * d)
  held_mul_bit h p q = omega (arith, held_add_bit h p q)

-- the next scale does not wrap
pub held_scale : {v c left : ℕ} → Held v c left → 0 < left → Fits w64 (c * 128)
held_scale h p = omega (arith, (held_next h p).1)

pub ruleset held = (more_left, held_start, seven, held_again, held_add, held_mul, held_scale, held_add_bit, held_mul_bit)

-- ---- the answer at the start, from where the loop stands

-- the answer at `start` of what the bytes from i on spell, where v was gathered before them and they count c times
unfoldable pub onward : (start v c i : ℕ) → Spelled → Answer (Read ℕ)
onward start v c i (number n w) = pick (eqb n 0) (refused 24 start) (read (v + c * n) (i + w))
onward start v c i padded = refused 24 start
onward start v c i over = refused 3 start
onward start v c i cut = refused 4 start

-- v was gathered of the bytes before i, and what the rest spells, counted c times, makes the answer at the start
abbrev pub Gathered : (s : List ℕ) (start v c i left : ℕ) → Type 0
Gathered s start v c i left = varint_at s start ≡ onward start v c i (spelled left (drop i s))

onward_carry : (start v c i d : ℕ) (r : Spelled) → onward start v c i (carry d r) ≡ onward start (v + c * d) (c * 128) (i + 1) r
unfolding onward
onward_carry start v c i d (number n w) = by_zero (eqb n 0) refl
  where
    by_zero : (t : Bool) → eqb n 0 ≡ t
        → onward start v c i (pick t padded (number (d + 128 * n) (suc w))) ≡ pick t (refused 24 start) (read (v + c * d + c * 128 * n) (i + 1 + w))
    by_zero true z = refl
    by_zero false z =
        let k = eqb-false n 0 z in
        let e : v + c * (d + 128 * n) ≡ v + c * d + c * 128 * n = omega arith in
        let f : i + suc w ≡ i + 1 + w = omega arith in
        rw (ne_eqb (d + 128 * n) 0 (λ q. k (omega (arith, q))), e, f)
onward_carry start v c i d padded = refl
onward_carry start v c i d over = refl
onward_carry start v c i d cut = refl

-- the first byte of several
answered_carry : (start d : ℕ) (r : Spelled) → answered start (carry d r) ≡ onward start d 128 (start + 1) r
unfolding onward
answered_carry start d (number n w) = by_zero (eqb n 0)
  where
    by_zero : (t : Bool) → answered start (pick t padded (number (d + 128 * n) (suc w))) ≡ pick t (refused 24 start) (read (d + 128 * n) (start + 1 + w))
    by_zero true = refl
    by_zero false = let f : start + suc w ≡ start + 1 + w = omega arith in ap (λ (m : ℕ). read (d + 128 * n) m) f
answered_carry start d padded = refl
answered_carry start d over = refl
answered_carry start d cut = refl

spelled_step : (left b : ℕ) (l : List ℕ) → 0 < left → spelled left (b ∷ l) ≡ pick (ltb b 128) (number b 1) (carry (b - 128) (spelled (left - 1) l))
unfolding spelled
spelled_step zero b l h = absurd (omega arith)
spelled_step (suc k) b l h = rw sub-one

spelled_end : (left b : ℕ) (l : List ℕ) → left ≤ 0 → spelled left (b ∷ l) ≡ pick (leb b 1) (number b 1) over
unfolding spelled
spelled_end zero b l h = refl
spelled_end (suc k) b l h = absurd (omega arith)

-- a first byte below 128 is the whole varint
pub one_byte : (s : List ℕ) (at : ℕ) → at < length s → get_or s at 0 < 128 → read (get_or s at 0) (at + 1) ≡ varint_at s at
unfolding varint_at
one_byte s at h k = sym (rw (lt-ltb at (length s) h, rest_more s at h, spelled_step 9 (get_or s at 0) (drop (at + 1) s) (omega arith), lt-ltb (get_or s at 0) 128 k))

-- of any other seven bits are gathered
pub turn_start : (s : List ℕ) (start : ℕ) → start < length s → 128 ≤ get_or s start 0 → Gathered s start (get_or s start 0 - 128) 128 (start + 1) 8
unfolding varint_at
turn_start s start h k =
    rw (lt-ltb start (length s) h, rest_more s start h, spelled_step 9 (get_or s start 0) (drop (start + 1) s) (omega arith), le-ltb (get_or s start 0) 128 k)
    (answered_carry start (get_or s start 0 - 128) (spelled 8 (drop (start + 1) s)))

-- no byte at all is truncated
pub turn_none : (s : List ℕ) (start : ℕ) (r : Result (ℕ × ℕ) Refusal) → length s ≤ start → r ≡ Err (record { reason = Truncated; place = start }) → read_answer r ≡ varint_at s start
unfolding varint_at
turn_none s start r h e = rw (le-ltb start (length s) h, e)

module _ (s : List ℕ) (start v c i left : ℕ) where
  -- a byte with the top bit puts seven bits to what was gathered
  pub turn_again : Gathered s start v c i left → 0 < left → i < length s → 128 ≤ get_or s i 0
      → Gathered s start (v + c * (get_or s i 0 - 128)) (c * 128) (i + 1) (left - 1)
  turn_again e p h k =
      e
      ∙ rw (rest_more s i h, spelled_step left (get_or s i 0) (drop (i + 1) s) p, le-ltb (get_or s i 0) 128 k)
      (onward_carry start v c i (get_or s i 0 - 128) (spelled (left - 1) (drop (i + 1) s)))

  -- a byte without it is the last, and not 0
  pub turn_last : Gathered s start v c i left → 0 < left → i < length s → (get_or s i 0 ≡ 0 → ⊥) → get_or s i 0 < 128
      → read (v + c * get_or s i 0) (i + 1) ≡ varint_at s start
  unfolding onward
  turn_last e p h z k =
      sym (e ∙ rw (rest_more s i h, spelled_step left (get_or s i 0) (drop (i + 1) s) p, lt-ltb (get_or s i 0) 128 k, ne_eqb (get_or s i 0) 0 z))

  -- a 0 is not needed
  pub turn_padded : (r : Result (ℕ × ℕ) Refusal) → Gathered s start v c i left → 0 < left → i < length s → get_or s i 0 ≡ 0
      → r ≡ Err (record { reason = VarintPadded; place = start }) → read_answer r ≡ varint_at s start
  unfolding onward
  turn_padded r e p h z q = rw q (sym (e ∙ rw (rest_more s i h, spelled_step left (get_or s i 0) (drop (i + 1) s) p, z)))

  -- the end of the input before the last byte is unterminated
  pub turn_cut : (r : Result (ℕ × ℕ) Refusal) → Gathered s start v c i left → length s ≤ i
      → r ≡ Err (record { reason = VarintUnterminated; place = start }) → read_answer r ≡ varint_at s start
  unfolding onward spelled
  turn_cut r e h k = rw k (sym (e ∙ rw (rest_none s i h)))

  -- a tenth byte of 01 is the last
  pub turn_tenth : Gathered s start v c i left → left ≤ 0 → i < length s → (get_or s i 0 ≡ 0 → ⊥) → get_or s i 0 ≤ 1
      → read (v + c * get_or s i 0) (i + 1) ≡ varint_at s start
  unfolding onward
  turn_tenth e p h z k = sym (e ∙ rw (rest_more s i h, spelled_end left (get_or s i 0) (drop (i + 1) s) p, le-leb (get_or s i 0) 1 k, ne_eqb (get_or s i 0) 0 z))

  -- 00 is not needed
  pub tenth_padded : (r : Result (ℕ × ℕ) Refusal) → Gathered s start v c i left → left ≤ 0 → i < length s → get_or s i 0 ≡ 0
      → r ≡ Err (record { reason = VarintPadded; place = start }) → read_answer r ≡ varint_at s start
  unfolding onward
  tenth_padded r e p h z q = rw q (sym (e ∙ rw (rest_more s i h, spelled_end left (get_or s i 0) (drop (i + 1) s) p, z)))

  -- any other is an overflow
  pub turn_over : (r : Result (ℕ × ℕ) Refusal) → Gathered s start v c i left → left ≤ 0 → i < length s → 1 < get_or s i 0
      → r ≡ Err (record { reason = VarintOverflow; place = start }) → read_answer r ≡ varint_at s start
  unfolding onward
  turn_over r e p h k q = rw q (sym (e ∙ rw (rest_more s i h, spelled_end left (get_or s i 0) (drop (i + 1) s) p, lt-leb (get_or s i 0) 1 k)))

-- two bytes with the top bit set
pub turn_two : (s : List ℕ) (start : ℕ) → start < length s → 128 ≤ get_or s start 0 → start + 1 < length s → 128 ≤ get_or s (start + 1) 0
    → Gathered s start (get_or s start 0 - 128 + 128 * (get_or s (start + 1) 0 - 128)) 16_384 (start + 2) 7
turn_two s start a b c d =
    let e : start + 1 + 1 ≡ start + 2 = omega arith in
    rw e at (turn_again s start (get_or s start 0 - 128) 128 (start + 1) 8 (turn_start s start a b) (omega arith) c d)

-- behind the loop's last turn the tenth byte is at hand
pub at_tenth : {v c : ℕ} (s : List ℕ) (start k : ℕ) → k ≡ 9 → Gathered s start v c (start + k) (9 - k) → Held v c (9 - k)
    → Gathered s start v c (start + 9) 0 × Held v c 0
at_tenth s start k e g h = (rw e at g, rw e at h)

pub ruleset turns = (more_left, turn_start, turn_none, turn_again, turn_last, turn_padded, turn_cut, turn_tenth, tenth_padded, turn_over, one_byte)
