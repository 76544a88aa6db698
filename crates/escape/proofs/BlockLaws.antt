-- Blocks of a text: how much longer one gets, and how far one goes with no escape.
-- Each turn of the loops is one law whose premises are what the loop knows; `byte_tests` says what a byte becomes.
use Prim.Native.Nat.{ℕ, suc, ◌+◌, ◌*◌, ◌<◌, ◌≤◌}
use mir.Val.{bool_byte}
use mathlib.Core.Path.{◌≡◌, refl, sym, ap, ◌∙◌}
use mathlib.Core.Bool.{Bool, true, false}
use mathlib.Core.List.{List, [], ◌∷◌, ◌++◌}
use native.Mathlib.Omega.{arith}
use Rattle.std.proofs.lemmas.List.{nil_from_length}
use lib.ListN.{length, get_or, take, drop, length-append, length-drop, take-append-drop}
use lib.Seq.{drop-append-le, length-take-le, get_or-take}
use Rattle.scan.specs.Choice.{pick}
use Rattle.scan.specs.inner.Blocks.{before_stop}
use Rattle.scan.proofs.Step.{rest_none, rest_more}
use Rattle.scan.proofs.BlockLaws.{stop_within, stop_here}
use Rattle.buffer.specs.inner.Store.{Wrote}
use Rattle.buffer.proofs.Laws.{Left, also}
use Rattle.buffer.proofs.OverLaws.{wide}
use Rattle.escape.specs.declared.Escaping.{Escaping}
use Rattle.escape.specs.Escape.{backslashed, escaped}
use Rattle.escape.specs.inner.Controls.{is_uncarried, controls}
use Rattle.escape.specs.inner.Which.{byte_of}
use Rattle.escape.specs.inner.Block.{is_escaped, escape_letter, run_of}
use Rattle.escape.proofs.ByteLaws.{ReadBack, escaping, byte_tests}
use Rattle.escape.proofs.TextLaws.{escaped_append, length_least, length_most}

-- ---- the length

byte_length : (k : Escaping) (b : ℕ) → length (byte_of k b) ≡ bool_byte (is_escaped k b) + 1
byte_length k b = ap length (byte_tests k b) ∙ by_cases (is_escaped k b)
  where
    by_cases : (t : Bool) → length (pick t (backslashed (escape_letter b)) (b ∷ [])) ≡ bool_byte t + 1
    by_cases true = refl
    by_cases false = refl

-- what a byte adds to a count
pub at_most_one : (t : Bool) → bool_byte t ≤ 1
at_most_one true = omega arith
at_most_one false = omega arith

module _ (k : Escaping) (s : List ℕ) (i n h : ℕ) where
  -- a byte more is counted
  pub count_more : {t : Bool} {e : ℕ} → n + i + length (escaped (byte_of k) (drop i s)) ≡ h → i < length s → t ≡ is_escaped k (get_or s i 0) → e ≡ bool_byte t
      → n + e + (i + 1) + length (escaped (byte_of k) (drop (i + 1) s)) ≡ h
  unfolding escaped
  count_more {t} {e} v l p q =
      let b = get_or s i 0 in
      let more = escaped (byte_of k) (drop (i + 1) s) in
      let r : length (escaped (byte_of k) (drop i s)) ≡ length (byte_of k b) + length more = rw (rest_more s i l) (length-append (byte_of k b) more) in
      let g : length (byte_of k b) ≡ e + 1 = byte_length k b ∙ rw (sym p, sym q) in
      omega arith

  -- all is counted
  pub count_all : n + i + length (escaped (byte_of k) (drop i s)) ≡ h → length s ≤ i → i ≤ length s → n + length s ≡ h
  unfolding escaped
  count_all e l m = let r : length (escaped (byte_of k) (drop i s)) ≡ 0 = rw (rest_none s i l) refl in omega arith

-- a text that doesn't grow stands as it is
pub grows_not : (k : Escaping) (s : List ℕ) → length (escaped (byte_of k) s) ≡ length s → escaped (byte_of k) s ≡ s
unfolding escaped
grows_not k [] h = refl
grows_not k (b ∷ s) h = by_cases (is_escaped k b) (byte_tests k b) (grows_not k s) (sym (length-append (byte_of k b) (escaped (byte_of k) s)) ∙ h)
  where
    by_cases : (t : Bool) → byte_of k b ≡ pick t (backslashed (escape_letter b)) (b ∷ []) → (length (escaped (byte_of k) s) ≡ length s → escaped (byte_of k) s ≡ s)
        → length (byte_of k b) + length (escaped (byte_of k) s) ≡ suc (length s) → byte_of k b ++ escaped (byte_of k) s ≡ b ∷ s
    by_cases true e f g = let n = ap length e in absurd (omega (arith, length_least (byte_of k) (escaping k) s))
    by_cases false e f g = let n = ap length e in rw e (ap (λ (l : List ℕ). b ∷ l) (f (omega arith)))

-- Of a text t, r is left, and n is the length of t and what the bytes before r grew by.
module _ (f : ℕ → List ℕ) (form : ReadBack f) (t r : List ℕ) (n : ℕ) (is : n + length (escaped f r) ≡ length (escaped f t) + length r) where
  -- a block more, which grows by g
  pub grow_more : (x y : List ℕ) (g : ℕ) → r ≡ x ++ y → g + length x ≡ length (escaped f x)
      → (n + g + length (escaped f y) ≡ length (escaped f t) + length y) × (n + g ≤ 2 * length t)
  grow_more x y g e h =
      let p = ap (λ (l : List ℕ). length (escaped f l)) e ∙ ap length (escaped_append f x y) ∙ length-append (escaped f x) (escaped f y) in
      let q = ap length e ∙ length-append x y in
      let k : n + g + length (escaped f y) ≡ length (escaped f t) + length y = omega (arith, is, p, q, h) in
      (k, omega (arith, k, length_least f form y, length_most f form t))

  -- nothing is left
  pub grow_end : length r ≡ 0 → n ≡ length (escaped f t)
  unfolding escaped
  grow_end h = let z : length (escaped f r) ≡ 0 = rw (nil_from_length r h) refl in omega arith

-- ---- the run

module _ (k : Escaping) where
  -- the bytes of the run stand as they are
  run_front : (x y : List ℕ) → escaped (byte_of k) (x ++ y) ≡ take (run_of k x) x ++ escaped (byte_of k) (drop (run_of k x) x ++ y)
  unfolding before_stop escaped
  run_front [] y = refl
  run_front (b ∷ x) y = by_cases (is_escaped k b) (byte_tests k b) (run_front x y)
    where
      by_cases : (t : Bool) → byte_of k b ≡ pick t (backslashed (escape_letter b)) (b ∷ [])
          → escaped (byte_of k) (x ++ y) ≡ take (run_of k x) x ++ escaped (byte_of k) (drop (run_of k x) x ++ y)
          → escaped (byte_of k) (b ∷ x ++ y) ≡ take (pick t 0 (suc (run_of k x))) (b ∷ x) ++ escaped (byte_of k) (drop (pick t 0 (suc (run_of k x))) (b ∷ x) ++ y)
      by_cases true e f = refl
      by_cases false e f = rw (e, f)

  -- the first n bytes of s are a block, and its run is m
  module _ (s : List ℕ) (n m : ℕ) (fits : n ≤ length s) (is : m ≡ run_of k (take n s)) where
    block_length : length (take n s) ≡ n
    block_length = length-take-le n s fits

    run_inside : m ≤ n
    run_inside = omega (arith, block_length, stop_within (is_escaped k) (take n s))

    -- the run of the block, and the rest of the text
    run_then : escaped (byte_of k) s ≡ take m (take n s) ++ escaped (byte_of k) (drop m s)
    run_then =
        let block = take n s in
        let whole = take-append-drop n s in
        let rest = sym (drop-append-le m block (drop n s) (omega (arith, block_length, run_inside))) ∙ ap (λ (l : List ℕ). drop m l) whole in
        ap (λ (l : List ℕ). escaped (byte_of k) l) (sym whole) ∙ run_front block (drop n s) ∙ rw (sym is, rest)

    -- the block was stored whole at o: its run is written, and what is left goes over the rest of it
    pub run_written : {d : List ℕ} {at : ℕ} {text d' : List ℕ} {o : ℕ} {d'' : List ℕ} {r : ℕ} → Left d at text d' o (escaped (byte_of k) s)
        → Wrote d' o (take n s) d'' r → o + n ≤ length d' → Left d at text d'' (o + m) (escaped (byte_of k) (drop m s))
    run_written l w room =
        let block = take n s in
        let h = run_inside in
        let q = length-take-le m block (omega (arith, block_length)) in
        let more = length_least (byte_of k) (escaping k) (drop m s) in
        let whole = rw (sym (take-append-drop m block)) at w in
        rw q at (wide (take m block) (drop m block) (also run_then l) whole (omega (arith, more, length-drop m block, block_length, length-drop m s)) (omega arith))

    -- the byte behind the run, with its letter
    pub run_letter : (m ≡ n → ⊥) → escaped (byte_of k) (drop m s) ≡ 0x5C ∷ escape_letter (get_or s m 0) ∷ escaped (byte_of k) (drop (m + 1) s)
    unfolding escaped
    run_letter q =
        let h = run_inside in
        let here : get_or (take n s) m 0 ≡ get_or s m 0 = get_or-take n s m 0 (omega arith) in
        let stop : is_escaped k (get_or s m 0) ≡ true = rw (sym is, here) at (stop_here (is_escaped k) (take n s) (omega (arith, block_length))) in
        rw (rest_more s m (omega arith), byte_tests k (get_or s m 0), stop)

-- ---- what NSON can carry

module _ (s : List ℕ) (i n h : ℕ) where
  -- a byte more is counted
  pub control_more : n + controls (drop i s) ≡ h → i < length s → n + is_uncarried (get_or s i 0) + controls (drop (i + 1) s) ≡ h
  unfolding controls
  control_more e l = let q : controls (drop i s) ≡ is_uncarried (get_or s i 0) + controls (drop (i + 1) s) = rw (rest_more s i l) refl in omega arith

  -- all is counted
  pub control_all : n + controls (drop i s) ≡ h → length s ≤ i → n ≡ h
  unfolding controls
  control_all e l = let q : controls (drop i s) ≡ 0 = rw (rest_none s i l) refl in omega arith

controls_append : (x y : List ℕ) → controls (x ++ y) ≡ controls x + controls y
unfolding controls
controls_append [] y = omega arith
controls_append (b ∷ x) y = omega (arith, controls_append x y)

-- Of a text t, r is left, and n counts the bytes before it.
module _ (t r : List ℕ) (n : ℕ) (is : n + controls r ≡ controls t) where
  pub controls_block : (x y : List ℕ) (m : ℕ) → r ≡ x ++ y → m ≡ controls x → n + m + controls y ≡ controls t
  controls_block x y m e h = let p = ap controls e ∙ controls_append x y in omega (arith, is, p, h)

  pub controls_end : length r ≡ 0 → n ≡ controls t
  unfolding controls
  controls_end h = let z : controls r ≡ 0 = rw (nil_from_length r h) refl in omega arith
