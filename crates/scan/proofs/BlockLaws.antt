-- What loops over a block count, turn by turn and block by block: bytes, neighbours, bytes before the first that stops.
-- The block from i to e is `take (e - i) (drop i s)`; where neighbours count, it is lent with the byte before it.
use Prim.Native.Nat.{ℕ, zero, suc, ◌+◌, ◌-◌, ◌<◌, ◌≤◌, min}
use mathlib.Core.Path.{◌≡◌, refl, sym, ap, ◌∙◌}
use mathlib.Core.Bool.{Bool, true, false}
use mathlib.Core.List.{List, [], ◌∷◌}
use mathlib.Core.Logic.{dite}
use native.Mathlib.Nat.{add-zero}
use native.Mathlib.Numerals.{add-one}
use native.Mathlib.Omega.{arith}
use native.Mathlib.Decide.{dec_lt, ℕ_discrete}
use lib.ListN.{length, get_or, take, drop, length-take, length-drop}
use lib.Seq.{get_or-drop, get_or-take, drop-drop}
use borrow.Author.Tests.{lt-ltb, eq-eqb, ne_eqb}
use Rattle.scan.specs.Choice.{pick}
use Rattle.scan.specs.inner.Blocks.{is_one, control_count, sum_of, neighbours, before_stop}
use Rattle.scan.proofs.Step.{rest_none, rest_more, pick_by}

-- ---- one byte

pub one_is : (b x : ℕ) → b ≡ x → is_one b x ≡ 1
unfolding is_one
one_is b x e = rw (eq-eqb b x e)

pub one_not : (b x : ℕ) → (b ≡ x → ⊥) → is_one b x ≡ 0
unfolding is_one
one_not b x n = rw (ne_eqb b x n)

pub not_one : (b x : ℕ) → is_one b x ≡ 0 → b ≡ x → ⊥
not_one b x z e = omega (arith, one_is b x e)

-- of two numbers a byte is at most one
pub one_of_two : (b x y : ℕ) → (x ≡ y → ⊥) → is_one b x + is_one b y ≤ 1
one_of_two b x y n =
    dite (ℕ_discrete b x) (λ e. omega (arith, one_is b x e, one_not b y (λ f. n (sym e ∙ f))))
    (λ m. dite (ℕ_discrete b y) (λ f. omega (arith, one_not b x m, one_is b y f)) (λ k. omega (arith, one_not b x m, one_not b y k)))

pub control_is : (b : ℕ) → b < 0x20 → control_count b ≡ 1
unfolding control_count
control_is b h = rw (lt-ltb b 0x20 h)

pub not_control : (b : ℕ) → control_count b ≡ 0 → 0x20 ≤ b
not_control b z = dite (dec_lt b 0x20) (λ h. absurd (omega (arith, control_is b h))) (λ n. omega (arith, n))

-- a byte of a block, at its place in the input
block_byte : (s : List ℕ) (a n k : ℕ) → a ≤ k → k < a + n → get_or (take n (drop a s)) (k - a) 0 ≡ get_or s k 0
block_byte s a n k l h =
    let j : a + (k - a) ≡ k = omega arith in
    get_or-take n (drop a s) (k - a) 0 (omega arith) ∙ get_or-drop a s (k - a) 0 ∙ ap (λ (x : ℕ). get_or s x 0) j

-- ---- a sum over the bytes

module _ (f : ℕ → ℕ) (s : List ℕ) (i n h : ℕ) where
  -- a byte more is counted
  pub sum_again : n + sum_of f (drop i s) ≡ h → i < length s → n + f (get_or s i 0) + sum_of f (drop (i + 1) s) ≡ h
  unfolding sum_of
  sum_again e l = let q : sum_of f (drop i s) ≡ f (get_or s i 0) + sum_of f (drop (i + 1) s) = rw (rest_more s i l) refl in omega arith

  -- all is counted
  pub sum_left : n + sum_of f (drop i s) ≡ h → length s ≤ i → n ≡ h
  unfolding sum_of
  sum_left e l = let q : sum_of f (drop i s) ≡ 0 = rw (rest_none s i l) refl in omega arith

sum_parts : (f : ℕ → ℕ) (n : ℕ) (l : List ℕ) → sum_of f l ≡ sum_of f (take n l) + sum_of f (drop n l)
unfolding sum_of
sum_parts f zero l = omega arith
sum_parts f (suc n) [] = refl
sum_parts f (suc n) (b ∷ l) = omega (arith, sum_parts f n l)

-- a block more is counted
pub sum_block : (f : ℕ → ℕ) (s : List ℕ) (i e n : ℕ) {m h : ℕ} → n + sum_of f (drop i s) ≡ h → i ≤ e → m ≡ sum_of f (take (e - i) (drop i s)) → n + m + sum_of f (drop e s) ≡ h
sum_block f s i e n v o q =
    let k : i + (e - i) ≡ e = omega arith in
    let d : drop (e - i) (drop i s) ≡ drop e s = drop-drop (e - i) i s ∙ ap (λ (j : ℕ). drop j s) k in
    let p = rw d at (sum_parts f (e - i) (drop i s)) in
    omega (arith, v, q, p)

sum_none : (f : ℕ → ℕ) (l : List ℕ) → sum_of f l ≡ 0 → (k : ℕ) → k < length l → f (get_or l k 0) ≡ 0
unfolding sum_of
sum_none f [] e k h = absurd (omega arith)
sum_none f (b ∷ l) e zero h = omega arith
sum_none f (b ∷ l) e (suc k) h = sum_none f l (omega arith) k (omega arith)

-- no byte of the block from i to e counts
pub block_none : (f : ℕ → ℕ) (s : List ℕ) (i e : ℕ) {n : ℕ} → e ≤ length s → n ≡ sum_of f (take (e - i) (drop i s)) → n ≡ 0
    → (k : ℕ) → i ≤ k → k < e → f (get_or s k 0) ≡ 0
block_none f s i e h q z k l m =
    let n : k - i < length (take (e - i) (drop i s)) = simp (length-take, length-drop) (omega arith) in
    sym (ap f (block_byte s i (e - i) k l (omega arith))) ∙ sum_none f (take (e - i) (drop i s)) (sym q ∙ z) (k - i) n

-- ---- a sum over neighbours

pub neighbours_none : (f : ℕ → ℕ → ℕ) (p : ℕ) (s : List ℕ) (i : ℕ) → length s ≤ i → neighbours f p (drop i s) ≡ 0
unfolding neighbours
neighbours_none f p s i h = rw (rest_none s i h) refl

pub neighbours_more : (f : ℕ → ℕ → ℕ) (p : ℕ) (s : List ℕ) (i : ℕ) → i < length s
    → neighbours f p (drop i s) ≡ f p (get_or s i 0) + neighbours f (get_or s i 0) (drop (i + 1) s)
unfolding neighbours
neighbours_more f p s i h = rw (rest_more s i h) refl

-- a turn: of s[i] and the byte before it; and the end
module _ (f : ℕ → ℕ → ℕ) (s : List ℕ) (i n h : ℕ) (o : 1 ≤ i) where
  pub neighbours_again : n + neighbours f (get_or s (i - 1) 0) (drop i s) ≡ h → i < length s
      → n + f (get_or s (i - 1) 0) (get_or s i 0) + neighbours f (get_or s (i + 1 - 1) 0) (drop (i + 1) s) ≡ h
  neighbours_again e l =
      let k : i + 1 - 1 ≡ i = omega arith in
      let q = neighbours_more f (get_or s (i - 1) 0) s i l in
      rw k (omega (arith, e, q))

  pub neighbours_left : n + neighbours f (get_or s (i - 1) 0) (drop i s) ≡ h → length s ≤ i → n ≡ h
  neighbours_left e l = omega (arith, e, neighbours_none f (get_or s (i - 1) 0) s i l)

-- a text from i on is its first n bytes from there, and the text behind them
neighbours_split : (f : ℕ → ℕ → ℕ) (s : List ℕ) (i n : ℕ) → 1 ≤ i → i + n ≤ length s
    → neighbours f (get_or s (i - 1) 0) (drop i s) ≡ neighbours f (get_or s (i - 1) 0) (take n (drop i s)) + neighbours f (get_or s (i + n - 1) 0) (drop (i + n) s)
unfolding neighbours
neighbours_split f s i n o h = go n i (get_or s (i - 1) 0) refl o h
  where
    go : (n i p : ℕ) → p ≡ get_or s (i - 1) 0 → 1 ≤ i → i + n ≤ length s
        → neighbours f p (drop i s) ≡ neighbours f p (take n (drop i s)) + neighbours f (get_or s (i + n - 1) 0) (drop (i + n) s)
    go zero i p q o h = rw (add-zero, sym q) (omega arith)
    go (suc n) i p q o h =
        let b = get_or s i 0 in
        let k : i + 1 - 1 ≡ i = omega arith in
        let m : i + suc n ≡ i + 1 + n = omega arith in
        let r = go n (i + 1) b (sym (ap (λ (j : ℕ). get_or s j 0) k)) (omega arith) (omega arith) in
        let d : drop i s ≡ b ∷ drop (i + 1) s = rest_more s i (omega arith) in
        let t : neighbours f p (take (suc n) (drop i s)) ≡ f p b + neighbours f b (take n (drop (i + 1) s)) = rw d refl in
        rw m (omega (arith, r, t, neighbours_more f p s i (omega arith)))

-- the sum over a block that is lent with the byte before it
abbrev pub lent_sum : (ℕ → ℕ → ℕ) → List ℕ → ℕ
lent_sum f block = neighbours f (get_or block 0 0) (drop 1 block)

-- a text from i on is its block from i to e, lent with the byte before it, and the text from e on
pub neighbours_block : (f : ℕ → ℕ → ℕ) (s : List ℕ) (i e : ℕ) {n : ℕ} → 1 ≤ i → i ≤ e → e ≤ length s → n ≡ lent_sum f (take (e - (i - 1)) (drop (i - 1) s))
    → neighbours f (get_or s (i - 1) 0) (drop i s) ≡ n + neighbours f (get_or s (e - 1) 0) (drop e s)
neighbours_block f s i e {n} o l h q =
    let k : i + (e - i) ≡ e = omega arith in
    let j : i - 1 + 1 ≡ i = omega arith in
    let m : e - (i - 1) ≡ suc (e - i) = omega arith in
    let d : drop (i - 1) s ≡ get_or s (i - 1) 0 ∷ drop i s = rw j at (rest_more s (i - 1) (omega arith)) in
    let p : n ≡ neighbours f (get_or s (i - 1) 0) (take (e - i) (drop i s)) = rw (m, d) at q in
    let r = rw k at (neighbours_split f s i (e - i) o (omega arith)) in
    omega (arith, r, p)

neighbours_zero : (f : ℕ → ℕ → ℕ) (p : ℕ) (l : List ℕ) → neighbours f p l ≡ 0 → (k : ℕ) → k < length l → f (get_or (p ∷ l) k 0) (get_or l k 0) ≡ 0
unfolding neighbours
neighbours_zero f p [] e k h = absurd (omega arith)
neighbours_zero f p (b ∷ l) e zero h = omega arith
neighbours_zero f p (b ∷ l) e (suc k) h = neighbours_zero f b l (omega arith) k (omega arith)

lent_zero : (f : ℕ → ℕ → ℕ) (l : List ℕ) → lent_sum f l ≡ 0 → (k : ℕ) → k + 1 < length l → f (get_or l k 0) (get_or l (k + 1) 0) ≡ 0
lent_zero f [] e k h = absurd (omega arith)
lent_zero f (b ∷ l) e k h = rw add-one (neighbours_zero f b l e k (omega arith))

-- no byte of the block from i to e counts with the one before it
pub pairs_none : (f : ℕ → ℕ → ℕ) (s : List ℕ) (i e : ℕ) {n : ℕ} → 1 ≤ i → e ≤ length s → n ≡ lent_sum f (take (e - (i - 1)) (drop (i - 1) s)) → n ≡ 0
    → (k : ℕ) → i ≤ k + 1 → k + 1 < e → f (get_or s k 0) (get_or s (k + 1) 0) ≡ 0
pairs_none f s i e o h q z k l m =
    let b = take (e - (i - 1)) (drop (i - 1) s) in
    let j : k + 1 - (i - 1) ≡ k - (i - 1) + 1 = omega arith in
    let n : k - (i - 1) + 1 < length b = simp (length-take, length-drop) (omega arith) in
    let x = block_byte s (i - 1) (e - (i - 1)) k (omega arith) (omega arith) in
    let y : get_or b (k - (i - 1) + 1) 0 ≡ get_or s (k + 1) 0 = rw j at (block_byte s (i - 1) (e - (i - 1)) (k + 1) (omega arith) (omega arith)) in
    rw (x, y) at (lent_zero f b (sym q ∙ z) (k - (i - 1)) n)

-- ---- the bytes before the first that stops, as a least place

module _ (stops : ℕ → Bool) where
  pub stop_within : (l : List ℕ) → before_stop stops l ≤ length l
  unfolding before_stop
  stop_within [] = omega arith
  stop_within (b ∷ l) = let n = stop_within l in pick_by (λ (r : ℕ). r ≤ suc (length l)) (stops b) (λ t. omega arith) (λ t. omega arith)

  module _ (s : List ℕ) (i n m : ℕ) where
    -- a byte more is looked at
    pub stop_more : {t : Bool} {k r : ℕ} → before_stop stops s ≡ min m (i + before_stop stops (drop i s)) → i < length s → m ≤ n → t ≡ stops (get_or s i 0) → k ≡ pick t i n → r ≡ min k m
        → before_stop stops s ≡ min r (i + 1 + before_stop stops (drop (i + 1) s))
    unfolding before_stop
    stop_more {t} {k} {r} v h l p q w =
        let f : before_stop stops (drop i s) ≡ pick t 0 (suc (before_stop stops (drop (i + 1) s))) = rw (rest_more s i h, p) refl in
        by_cases t f q
      where
        by_cases : (t : Bool) → before_stop stops (drop i s) ≡ pick t 0 (suc (before_stop stops (drop (i + 1) s))) → k ≡ pick t i n
            → before_stop stops s ≡ min r (i + 1 + before_stop stops (drop (i + 1) s))
        by_cases true f q = omega arith
        by_cases false f q = omega arith

    -- all is looked at
    pub stop_done : before_stop stops s ≡ min m (i + before_stop stops (drop i s)) → length s ≤ i → m ≤ length s → m ≡ before_stop stops s
    unfolding before_stop
    stop_done v h l = let f : before_stop stops (drop i s) ≡ 0 = rw (rest_none s i h) refl in omega arith

  -- a byte before it does not stop
  pub stop_byte : (l : List ℕ) (k : ℕ) → k < before_stop stops l → stops (get_or l k 0) ≡ false
  unfolding before_stop
  stop_byte [] k h = absurd (omega arith)
  stop_byte (b ∷ l) k h = by_cases (stops b) refl (stop_byte l) k h
    where
      by_cases : (t : Bool) → stops b ≡ t → ((k : ℕ) → k < before_stop stops l → stops (get_or l k 0) ≡ false) → (k : ℕ) → k < pick t 0 (suc (before_stop stops l)) → stops (get_or (b ∷ l) k 0) ≡ false
      by_cases true e f k h = absurd (omega arith)
      by_cases false e f zero h = e
      by_cases false e f (suc k) h = f k (omega arith)

  -- and the byte there does
  pub stop_here : (l : List ℕ) → before_stop stops l < length l → stops (get_or l (before_stop stops l) 0) ≡ true
  unfolding before_stop
  stop_here [] h = absurd (omega arith)
  stop_here (b ∷ l) h = by_cases (stops b) refl (stop_here l) h
    where
      by_cases : (t : Bool) → stops b ≡ t → (before_stop stops l < length l → stops (get_or l (before_stop stops l) 0) ≡ true) → pick t 0 (suc (before_stop stops l)) < suc (length l) → stops (get_or (b ∷ l) (pick t 0 (suc (before_stop stops l))) 0) ≡ true
      by_cases true e f h = e
      by_cases false e f h = f (omega arith)

  -- of a byte that stops and none before it
  pub stop_at_lem : (l : List ℕ) (n : ℕ) → n < length l → ((k : ℕ) → k < n → stops (get_or l k 0) ≡ false) → stops (get_or l n 0) ≡ true → before_stop stops l ≡ n
  unfolding before_stop
  stop_at_lem [] n h f e = absurd (omega arith)
  stop_at_lem (b ∷ l) zero h f e = rw e
  stop_at_lem (b ∷ l) (suc n) h f e = rw (f 0 (omega arith)) (ap suc (stop_at_lem l n (omega arith) (λ k j. f (suc k) (omega arith)) e))

  -- a block that has it
  pub stop_block : (n : ℕ) (l : List ℕ) → n ≤ length l → before_stop stops (take n l) < n → before_stop stops (take n l) ≡ before_stop stops l
  unfolding before_stop
  stop_block zero l h k = absurd (omega arith)
  stop_block (suc n) [] h k = absurd (omega arith)
  stop_block (suc n) (b ∷ l) h k = by_cases (stops b) (stop_block n l (omega arith)) k
    where
      by_cases : (t : Bool) → (before_stop stops (take n l) < n → before_stop stops (take n l) ≡ before_stop stops l) → pick t 0 (suc (before_stop stops (take n l))) < suc n → pick t 0 (suc (before_stop stops (take n l))) ≡ pick t 0 (suc (before_stop stops l))
      by_cases true f k = refl
      by_cases false f k = ap suc (f (omega arith))
