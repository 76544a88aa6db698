-- The fast look at a spelled string: block by block no byte is odd, and then the text is as many bytes shorter as there
-- are backslashes.
-- The blocks by `neighbours_block`; the length byte by byte, where a backslash and the letter behind it are one step.
use Prim.Native.Nat.{ℕ, suc, ◌+◌, ◌-◌, ◌≤◌}
use mathlib.Core.Path.{◌≡◌, refl, sym, ap, ◌∙◌}
use mathlib.Core.Bool.{true, false}
use mathlib.Core.List.{List, [], ◌∷◌}
use mathlib.Core.Logic.{dite}
use native.Mathlib.Omega.{arith}
use native.Mathlib.Decide.{ℕ_discrete}
use lib.ListN.{length, get_or, take, drop, length-drop}
use lib.Seq.{get_or-drop, drop-drop}
use lib.Dec.{eqb}
use borrow.Author.Tests.{eq-eqb, ne_eqb, eqb-true}
use Rattle.scan.specs.inner.Blocks.{sum_of, neighbours}
use Rattle.jsonunescape.specs.inner.Run.{is_slash}
use Rattle.jsontext.specs.inner.Escape.{unescaped_letter, escape, unescape}
use Rattle.jsonunescape.specs.inner.Short.{odd_of, even_pairs}
use Rattle.scan.proofs.Step.{rest_whole}
use Rattle.scan.proofs.BlockLaws.{one_is, one_not, lent_sum, neighbours_block}
use Rattle.jsontext.proofs.Meaning.{unescape_none, unescape_byte, unescape_escape}
use Rattle.jsonunescape.proofs.Unescape.{unescape_end}
use Rattle.jsonunescape.proofs.Letters.{letter_at, letter_one}

-- ---- odd bytes, block by block

-- the turns of the loop over the blocks; i is the place of the byte before, and n what a block has
module _ (t : List ℕ) (i : ℕ) (v : neighbours odd_of (get_or t 0 0) (drop 1 t) ≡ neighbours odd_of (get_or t i 0) (drop (i + 1) t)) where
  module _ (x : List ℕ) {n : ℕ} (h : 129 ≤ length (take (length t - i) (drop i t))) (q : x ≡ take 129 (take (length t - i) (drop i t))) (r : n ≡ lent_sum odd_of x) where
    pub pairs_inside : i + 129 ≤ length t
    pairs_inside = let m : 129 ≤ length (drop i t) = rw (rest_whole t i) at h in omega (arith, m, length-drop i t)

    pairs_block : neighbours odd_of (get_or t i 0) (drop (i + 1) t) ≡ n + neighbours odd_of (get_or t (i + 128) 0) (drop (i + 128 + 1) t)
    pairs_block =
        let a : i + 1 - 1 ≡ i = omega arith in
        let b : i + 129 - 1 ≡ i + 128 = omega arith in
        let c : i + 129 ≡ i + 128 + 1 = omega arith in
        let d : i + 129 - i ≡ 129 = omega arith in
        let e : x ≡ take 129 (drop i t) = rw (rest_whole t i) at q in
        let f : n ≡ lent_sum odd_of (take (i + 129 - (i + 1 - 1)) (drop (i + 1 - 1) t)) = rw (a, d) (r ∙ ap (lent_sum odd_of) e) in
        rw (a, b, c) at (neighbours_block odd_of t (i + 1) (i + 129) (omega arith) (omega arith) pairs_inside f)

    pub pairs_again : n ≡ 0 → neighbours odd_of (get_or t 0 0) (drop 1 t) ≡ neighbours odd_of (get_or t (i + 128) 0) (drop (i + 128 + 1) t)
    pairs_again z = omega (arith, v, z, pairs_block)

    pub pairs_odd : (n ≡ 0 → ⊥) → false ≡ even_pairs t
    unfolding even_pairs
    pairs_odd z = sym (ne_eqb (neighbours odd_of (get_or t 0 0) (drop 1 t)) 0 (λ y. z (omega (arith, v, y, pairs_block))))

  -- the last block decides
  pub pairs_rest : {n : ℕ} → n ≡ lent_sum odd_of (take (length t - i) (drop i t)) → eqb n 0 ≡ even_pairs t
  unfolding even_pairs
  pairs_rest {n} q =
      let k : i + 0 ≡ i = omega arith in
      let e : n ≡ neighbours odd_of (get_or t i 0) (drop (i + 1) t) = rw (rest_whole t i, get_or-drop i t 0 0, k, drop-drop 1 i t) at q in
      rw (e ∙ sym v) refl

-- ---- one pair

-- a byte behind a backslash that is not odd
even_letter : (p b : ℕ) → p ≡ 0x5C → odd_of p b ≡ 0 → (is_slash b ≡ 0) × (unescaped_letter b ≡ 0 → ⊥)
unfolding odd_of is_slash unescaped_letter
even_letter p b s z =
    dite (ℕ_discrete b 0x6E) (λ e. (one_not b 0x5C (λ q. omega (arith, e, q)), rw e (λ q. omega (arith, q))))
    (λ n.
    dite (ℕ_discrete b 0x22) (λ e. (one_not b 0x5C (λ q. omega (arith, e, q)), rw e (λ q. omega (arith, q))))
    (λ m. let q = rw (eq-eqb p 0x5C s, one_not b 0x6E n, one_not b 0x22 m) at z in absurd (omega (arith, q))))

slash_one : (b : ℕ) → b ≡ 0x5C → is_slash b ≡ 1
unfolding is_slash
slash_one b e = one_is b 0x5C e

slash_none : (b : ℕ) → (b ≡ 0x5C → ⊥) → is_slash b ≡ 0
unfolding is_slash
slash_none b n = one_not b 0x5C n

first_even : (b : ℕ) → odd_of 0 b ≡ 0
unfolding odd_of
first_even b = refl

-- ---- the length

-- the last byte is no backslash
abbrev Closed : List ℕ → Type 0
Closed l = (k : ℕ) → length l ≡ k + 1 → get_or l k 0 ≡ 0x5C → ⊥

-- a backslash and a letter stand for one byte
unescape_letter : (b x : ℕ) (l : List ℕ) → b ≡ 0x5C → (unescaped_letter x ≡ 0 → ⊥) → unescape (b ∷ x ∷ l) ≡ unescaped_letter x ∷ unescape l
unescape_letter b x l e n =
    let t = b ∷ x ∷ l in
    unescape_escape t 0 {e = escape 2 (unescaped_letter x)} (omega arith) e (letter_at t 0 x (unescaped_letter x) refl refl n) ∙ rw (letter_one t 0 x (unescaped_letter x) refl refl n) refl

-- where no byte is odd, each backslash begins the escape of a letter, and so takes a byte away
even_length : (p : ℕ) (l : List ℕ) → neighbours odd_of p l ≡ 0 → Closed l → length (unescape l) + sum_of is_slash l ≡ length l
unfolding neighbours sum_of
even_length p [] z c = rw unescape_none refl
even_length p (b ∷ []) z c = let n : b ≡ 0x5C → ⊥ = c 0 refl in rw (unescape_byte n [], unescape_none) (omega (arith, slash_none b n))
even_length p (b ∷ x ∷ l) z c =
    dite (ℕ_discrete b 0x5C)
    (λ e.
    let r = even_letter b x e (omega arith) in
    let m = even_length x l (omega arith) (λ k q. c (suc (suc k)) (omega arith)) in
    rw (unescape_letter b x l e r.1) (omega (arith, m, r.0, slash_one b e)))
    (λ n.
    let m = even_length b (x ∷ l) (omega arith) (λ k q. c (suc k) (omega arith)) in
    rw (unescape_byte n (x ∷ l)) (omega (arith, m, slash_none b n)))

-- the length of the text of a string whose last byte is no backslash, where no byte is odd
pub short_length : (t : List ℕ) {n : ℕ} → 1 ≤ length t → (get_or t (length t - 1) 0 ≡ 0x5C → ⊥) → even_pairs t ≡ true → n ≡ sum_of is_slash t
    → length t - n ≡ length (unescape t)
unfolding even_pairs neighbours
short_length t {n} h c e q = omega (arith, q, go t h c (eqb-true _ 0 e))
  where
    closed : (t : List ℕ) → (get_or t (length t - 1) 0 ≡ 0x5C → ⊥) → Closed t
    closed t c k q e = let j : k ≡ length t - 1 = omega arith in c (rw j at e)

    go : (t : List ℕ) → 1 ≤ length t → (get_or t (length t - 1) 0 ≡ 0x5C → ⊥) → neighbours odd_of (get_or t 0 0) (drop 1 t) ≡ 0 → length (unescape t) + sum_of is_slash t ≡ length t
    go [] h c z = absurd (omega arith)
    go (b ∷ l) h c z = even_length 0 (b ∷ l) (omega (arith, z, first_even b)) (closed (b ∷ l) c)

-- nothing stands for nothing
pub short_none : (t : List ℕ) → length t ≡ 0 → 0 ≡ length (unescape t)
short_none t h = sym (ap length (unescape_end t 0 (omega arith)))
