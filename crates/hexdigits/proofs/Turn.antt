-- The turns of the loops over a text of digits, and what a full buffer leaves out.
-- The text from i on is its bytes at i and the text behind them.
use Prim.Native.Nat.{ℕ, ◌+◌, ◌*◌, ◌/◌, ◌%◌, ◌<◌, ◌≤◌}
use mathlib.Core.Path.{◌≡◌, refl, sym, ap, ◌∙◌}
use mathlib.Core.List.{List, [], ◌∷◌, ◌++◌}
use native.Mathlib.Omega.{arith}
use lib.ListN.{length, get_or, take, drop, length-take, length-drop, length-append, take-append-drop}
use lib.Seq.{append_snoc}
use Rattle.scan.proofs.Step.{rest_more}
use Rattle.buffer.specs.inner.Store.{Wrote}
use Rattle.buffer.proofs.Laws.{then}
use Rattle.buffer.proofs.Places.{past}
use Rattle.hexdigits.specs.Hex.{value_of, digit_of, hexes, unhex}
use Rattle.hexdigits.proofs.Texts.{hexes_append, length_hexes, unhex_append, length_unhex}

-- ---- too little room

-- two digits for each of n bytes and one digit more fill the buffer
pub hexes_cut : {d : List ℕ} {at : ℕ} {d₁ : List ℕ} {o : ℕ} {d₂ : List ℕ} {r : ℕ} (s : List ℕ) (n : ℕ) → n < length s → length d ≤ at + 2 * n + 1
    → Wrote d at (hexes (take n s)) d₁ o → Wrote d₁ o (digit_of (get_or s n 0 / 16) ∷ []) d₂ r → Wrote d at (hexes s) d₂ r
hexes_cut {d} {at} s n h k u v =
    let first = hexes (take n s) in
    let high = digit_of (get_or s n 0 / 16) in
    let more = digit_of (get_or s n 0 % 16) ∷ hexes (drop (n + 1) s) in
    let e : first ++ (high ∷ more) ≡ hexes s =
    ap (λ (l : List ℕ). first ++ hexes l) (sym (rest_more s n h)) ∙ sym (hexes_append (take n s) (drop n s)) ∙ ap hexes (take-append-drop n s) in
    let l = length-append first (high ∷ []) in
    rw (append_snoc first high more, e) at (past more (omega (arith, l, length_hexes (take n s), length-take n s)) (then u v))

-- the bytes of 2 * n digits fill the buffer
pub unhex_cut : {d : List ℕ} {at : ℕ} {d' : List ℕ} {r : ℕ} (t : List ℕ) (n : ℕ) → 2 * n ≤ length t → length d ≤ at + n
    → Wrote d at (unhex (take (2 * n) t)) d' r → Wrote d at (unhex t) d' r
unhex_cut t n h k w =
    let first = take (2 * n) t in
    let l = length-take (2 * n) t in
    let e = sym (unhex_append first (drop (2 * n) t) (omega arith)) ∙ ap unhex (take-append-drop (2 * n) t) in
    rw e at (past (unhex (drop (2 * n) t)) (omega (arith, length_unhex first)) w)

-- ---- two digits for a byte

-- the two digits at i are a byte
pub unhex_two : (t : List ℕ) (i : ℕ) → i + 1 < length t
    → unhex (drop i t) ≡ (16 * (value_of (get_or t i 0) % 16) + value_of (get_or t (i + 1) 0) % 16) ∷ unhex (drop (i + 2) t)
unfolding unhex
unhex_two t i h =
    let two : i + 1 + 1 ≡ i + 2 = omega arith in
    rw (rest_more t i (omega arith), rest_more t (i + 1) h, two)

-- a digit that is left over is no byte
pub unhex_ended : (t : List ℕ) (i : ℕ) → length t ≤ i + 1 → unhex (drop i t) ≡ []
unfolding unhex
unhex_ended t i h = go (drop i t) (omega (arith, length-drop i t))
  where
    go : (l : List ℕ) → length l ≤ 1 → unhex l ≡ []
    go [] k = refl
    go (a ∷ []) k = refl
    go (a ∷ b ∷ l) k = absurd (omega arith)
