-- Hex in two steps: first the value of each digit, then a byte for each two values. `pairs_values`: that is `unhex`.
-- A turn of the loop over the values takes two off the front; a block of digits is written whole.
use Rattle.std.proofs.Common.{ℕ, ◌+◌, ◌*◌, ◌/◌, ◌%◌, ◌<◌, ◌≤◌, ◌≡◌, refl, sym, ap, ◌∙◌, List, [], ◌∷◌, length, get_or, take, drop, length-take, length-drop, take-append-drop, arith}
use Rattle.scan.proofs.Step.{rest_more}
use Rattle.buffer.specs.inner.Store.{Wrote}
use Rattle.buffer.proofs.Laws.{Left, part, also, kept}
use Rattle.buffer.proofs.Places.{ends_behind}
use Rattle.hexdigits.specs.Hex.{value_of, unhex}
use Rattle.hexdigits.specs.inner.Block.{values_of, pairs_of}
use Rattle.hexdigits.proofs.Texts.{unhex_append, length_unhex}

pub length_values : (t : List ℕ) → length (values_of t) ≡ length t
unfolding values_of
length_values [] = refl
length_values (b ∷ t) = let e = length_values t in omega arith

-- ---- pairs

pub pairs_two : (v : List ℕ) (i : ℕ) → i + 1 < length v → pairs_of (drop i v) ≡ (16 * (get_or v i 0 % 16) + get_or v (i + 1) 0 % 16) ∷ pairs_of (drop (i + 2) v)
unfolding pairs_of
pairs_two v i h =
    let two : i + 1 + 1 ≡ i + 2 = omega arith in
    rw (rest_more v i (omega arith), rest_more v (i + 1) h, two)

pub pairs_ended : (v : List ℕ) (i : ℕ) → length v ≤ i + 1 → pairs_of (drop i v) ≡ []
unfolding pairs_of
pairs_ended v i h = go (drop i v) (omega (arith, length-drop i v))
  where
    go : (l : List ℕ) → length l ≤ 1 → pairs_of l ≡ []
    go [] k = refl
    go (a ∷ []) k = refl
    go (a ∷ b ∷ l) k = absurd (omega arith)

-- the bytes of the values are those of the digits
pub pairs_values : (t : List ℕ) → pairs_of (values_of t) ≡ unhex t
unfolding pairs_of values_of unhex
pairs_values [] = refl
pairs_values (a ∷ []) = refl
pairs_values (a ∷ b ∷ t) = ap (λ (l : List ℕ). (16 * (value_of a % 16) + value_of b % 16) ∷ l) (pairs_values t)

-- ---- blocks

-- a block of 64 digits is written, and there is room for the text behind it
pub block_written : {d : List ℕ} {at : ℕ} {all d₁ : List ℕ} {o : ℕ} (t : List ℕ) {d₂ : List ℕ} {p : ℕ}
    → 64 ≤ length t → o + length t / 2 ≤ length d₁ → Left d at all d₁ o (unhex t) → Wrote d₁ o (unhex (take 64 t)) d₂ p
    → (p + length (drop 64 t) / 2 ≤ length d₂) × Left d at all d₂ p (unhex (drop 64 t))
block_written t h room v w =
    let n : length (take 64 t) ≡ 64 = simp length-take (omega arith) in
    let e = ap unhex (sym (take-append-drop 64 t)) ∙ unhex_append (take 64 t) (drop 64 t) (omega arith) in
    let q = ends_behind (omega (arith, length_unhex (take 64 t))) w in
    (omega (arith, q, kept w, length_unhex (take 64 t), length-drop 64 t), part (also e v) w)
