-- Blocks in which no byte clashes with the one before it are bare bytes and escapes: `quoting_block`.
-- `Quoting s a i`: up to i they are whole, or up to the backslash before i. One byte more keeps it.
use Prim.Native.Nat.{ℕ, zero, suc, ◌+◌, ◌-◌, ◌<◌, ◌≤◌}
use mathlib.Core.Path.{◌≡◌, refl, ap, ◌∙◌}
use mathlib.Core.List.{List}
use mathlib.Core.Logic.{dite, ◌⊎◌, inl, inr}
use native.Mathlib.Nat.{add-zero}
use native.Mathlib.Omega.{arith}
use native.Mathlib.Decide.{ℕ_discrete}
use lib.ListN.{length, get_or, take, drop, length-drop}
use borrow.Author.Tests.{eq-eqb, ne_eqb}
use Rattle.scan.specs.inner.Blocks.{is_one, control_count}
use Rattle.scan.proofs.Step.{rest_whole}
use Rattle.scan.proofs.BlockLaws.{one_not, not_one, not_control, lent_sum, pairs_none}
use Rattle.jsontext.specs.inner.Escape.{unescaped_letter, letter_escape, escape_at}
use Rattle.jsonstring.specs.inner.Loose.{LooseTo, nothing, clash_of}
use Rattle.jsonstring.proofs.LooseLaws.{then_bare, then_escape}

-- ---- one byte behind another

-- what stands behind a byte, and what behind a backslash
clash_plain : (p b : ℕ) → (p ≡ 0x5C → ⊥) → clash_of p b ≡ is_one b 0x22 + control_count b
unfolding clash_of
clash_plain p b n = rw (ne_eqb p 0x5C n)

clash_slash : (p b : ℕ) → p ≡ 0x5C → clash_of p b ≡ 1 - is_one b 0x6E - is_one b 0x22
unfolding clash_of
clash_slash p b e = rw (eq-eqb p 0x5C e)

-- behind any byte but a backslash
pub clash_bare : (p b : ℕ) → (p ≡ 0x5C → ⊥) → clash_of p b ≡ 0 → (b ≡ 0x22 → ⊥) × (0x20 ≤ b)
clash_bare p b n z = let e = clash_plain p b n in (not_one b 0x22 (omega arith), not_control b (omega arith))

-- behind a backslash
pub clash_letter : (p b : ℕ) → p ≡ 0x5C → clash_of p b ≡ 0 → (b ≡ 0x6E) ⊎ (b ≡ 0x22)
clash_letter p b e z =
    let q = clash_slash p b e in
    dite (ℕ_discrete b 0x6E) (λ k. inl k) (λ n. dite (ℕ_discrete b 0x22) (λ k. inr k) (λ m. absurd (omega (arith, one_not b 0x6E n, one_not b 0x22 m))))

-- the two bytes are an escape
clash_width : (s : List ℕ) (i : ℕ) → get_or s i 0 ≡ 0x5C → clash_of (get_or s i 0) (get_or s (i + 1) 0) ≡ 0 → ((escape_at s i).width ≡ 2) × (get_or s (i + 1) 0 ≡ 0x5C → ⊥)
unfolding escape_at letter_escape unescaped_letter
clash_width s i f z = go (clash_letter (get_or s i 0) (get_or s (i + 1) 0) f z)
  where
    go : (get_or s (i + 1) 0 ≡ 0x6E) ⊎ (get_or s (i + 1) 0 ≡ 0x22) → ((escape_at s i).width ≡ 2) × (get_or s (i + 1) 0 ≡ 0x5C → ⊥)
    go (inl e) = (rw e refl, λ g. omega arith)
    go (inr e) = (rw e refl, λ g. omega arith)

-- ---- up to a place

pub record Quoting (s : List ℕ) (a i : ℕ) : Type 0 where
  pub whole : (get_or s (i - 1) 0 ≡ 0x5C → ⊥) → LooseTo s a i
  pub cut : get_or s (i - 1) 0 ≡ 0x5C → LooseTo s a (i - 1)

pub quoting_start : (s : List ℕ) (a : ℕ) → (get_or s (a - 1) 0 ≡ 0x5C → ⊥) → Quoting s a a
quoting_start s a n = record { whole = λ m. nothing; cut = λ e. absurd (n e) }

-- a byte more
quoting_more : (s : List ℕ) (a j : ℕ) → Quoting s a (j + 1) → j + 1 < length s → clash_of (get_or s j 0) (get_or s (j + 1) 0) ≡ 0 → Quoting s a (j + 1 + 1)
quoting_more s a j p h z =
    let k : j + 1 - 1 ≡ j = omega arith in
    let l : j + 1 + 1 - 1 ≡ j + 1 = omega arith in
    let whole : (get_or s j 0 ≡ 0x5C → ⊥) → LooseTo s a (j + 1) = rw k at p.whole in
    let cut : get_or s j 0 ≡ 0x5C → LooseTo s a j = rw k at p.cut in
    dite (ℕ_discrete (get_or s j 0) 0x5C)
    (λ e.
    let w = clash_width s j e z in
    let f : j + (escape_at s j).width ≡ j + 1 + 1 = omega (arith, w.0) in
    let q : LooseTo s a (j + 1 + 1) = rw f at (then_escape (cut e) (omega arith) e refl (λ y. omega (arith, w.0, y))) in
    record { whole = λ m. q; cut = λ y. absurd (w.1 (rw l at y)) })
    (λ n.
    let w = clash_bare (get_or s j 0) (get_or s (j + 1) 0) n z in
    let q = whole n in
    record { whole = λ m. then_bare q h w.0 w.1 (rw l at m); cut = λ y. rw l q })

-- a block more
quoting_block : {s : List ℕ} {a i : ℕ} (e n : ℕ) → Quoting s a i → 1 ≤ i → i ≤ e → e ≤ length s
    → n ≡ lent_sum clash_of (take (e - (i - 1)) (drop (i - 1) s)) → n ≡ 0 → Quoting s a e
quoting_block {s} {a} {i} e n p o l h q z = let k : i + (e - i) ≡ e = omega arith in rw k at (go (e - i) (omega arith))
  where
    go : (m : ℕ) → m ≤ e - i → Quoting s a (i + m)
    go zero c = rw add-zero p
    go (suc m) c =
        let f : i + m ≡ i + m - 1 + 1 = omega arith in
        let g : i + m - 1 + 1 + 1 ≡ i + suc m = omega arith in
        rw g at (quoting_more s a (i + m - 1) (rw f at (go m (omega arith))) (omega arith) (pairs_none clash_of s i e o h q z (i + m - 1) (omega arith) (omega arith)))

-- the block at hand: the 32 bytes from i on, lent with the byte before them
pub quoting_next : {s : List ℕ} {a i : ℕ} (x : List ℕ) (n : ℕ) → Quoting s a i → 1 ≤ i → i ≤ length s → 33 ≤ length (take (length s - (i - 1)) (drop (i - 1) s))
    → x ≡ take 33 (take (length s - (i - 1)) (drop (i - 1) s)) → n ≡ lent_sum clash_of x → n ≡ 0 → (i + 32 ≤ length s) × Quoting s a (i + 32)
quoting_next {s} {a} {i} x n p o l h e q z =
    let w = rest_whole s (i - 1) in
    let m : 33 ≤ length (drop (i - 1) s) = rw w at h in
    let k : i + 32 ≤ length s = omega (arith, m, length-drop (i - 1) s) in
    let f : i + 32 - (i - 1) ≡ 33 = omega arith in
    let y : x ≡ take (i + 32 - (i - 1)) (drop (i - 1) s) = rw f (rw w at e) in
    (k, quoting_block (i + 32) n p o (omega arith) k (q ∙ ap (lent_sum clash_of) y) z)
