-- The nson field says one size and one set of counts: two that are laid out in the same hex characters are the same.
-- Each hex digit tells its four bits, each two bytes their number, each number of items where a tag ends.
use Prim.Native.Nat.{ℕ, ◌/◌, ◌%◌}
use mathlib.Core.Path.{◌≡◌, refl}
use mathlib.Core.List.{List, [], ◌∷◌, ◌++◌}
use mathlib.Core.Logic.{dite}
use native.Mathlib.Omega.{arith}
use native.Mathlib.Decide.{dec_lt}
use lib.ListN.{length}
use borrow.Author.Tests.{lt-ltb, le-ltb}
use Rattle.hexdigits.specs.Hex.{digit_of, hexes}
use Rattle.nson.specs.Nson.{Counts, words, tag_counts, descriptors}

-- ---- lists, taken apart

heads : {a b : ℕ} {l m : List ℕ} → a ∷ l ≡ b ∷ m → a ≡ b
heads e = cc

tails : {a b : ℕ} {l m : List ℕ} → a ∷ l ≡ b ∷ m → l ≡ m
tails e = cc

none_some : {A : Type 0} {R : Type 0} {a : A} {l : List A} → [] ≡ a ∷ l → R
none_some e = let z : ◌≡◌ {A = ℕ} 0 1 = cc in absurd (omega arith)

-- ---- hex digits. General: these two belong to crate hex

digit_one : (v w : ℕ) → digit_of v ≡ digit_of w → v ≡ w
digit_one v w =
    dite (dec_lt v 10)
    (λ p. dite (dec_lt w 10) (λ q. rw (lt-ltb v 10 p, lt-ltb w 10 q) (λ e. omega arith)) (λ q. rw (lt-ltb v 10 p, le-ltb w 10 (omega (arith, q))) (λ e. absurd (omega (arith, q)))))
    (λ p.
    dite (dec_lt w 10) (λ q. rw (le-ltb v 10 (omega (arith, p)), lt-ltb w 10 q) (λ e. absurd (omega (arith, p))))
    (λ q. rw (le-ltb v 10 (omega (arith, p)), le-ltb w 10 (omega (arith, q))) (λ e. omega arith)))

-- hex tells the numbers, whatever they are
pub hexes_one : (l m : List ℕ) → hexes l ≡ hexes m → l ≡ m
hexes_one [] [] e = refl
hexes_one [] (b ∷ m) e = none_some e
hexes_one (a ∷ l) [] e = let z : ◌≡◌ {A = ℕ} 0 1 = cc in absurd (omega arith)
hexes_one (a ∷ l) (b ∷ m) e =
    let f = tails e in
    let p = digit_one (a / 16) (b / 16) (heads e) in
    let q = digit_one (a % 16) (b % 16) (heads f) in
    let r = hexes_one l m (tails f) in
    let n : a ≡ b = omega arith in
    cc

-- ---- the descriptors. General: belongs to crate nson

words_one : (t u x y : List ℕ) → length t ≡ length u → words t ++ x ≡ words u ++ y → (t ≡ u) × (x ≡ y)
words_one [] [] x y h e = (refl, e)
words_one [] (b ∷ u) x y h e = absurd (omega arith)
words_one (a ∷ t) [] x y h e = absurd (omega arith)
words_one (a ∷ t) (b ∷ u) x y h e =
    let f = tails e in
    let p = heads e in
    let q = heads f in
    let r = words_one t u x y (omega arith) (tails f) in
    let n : a ≡ b = omega arith in
    let k = r.0 in
    (cc, r.1)

tags_one : (k l : List (List ℕ)) → length k ≡ length l → tag_counts k ≡ tag_counts l → k ≡ l
tags_one [] [] h e = refl
tags_one [] (u ∷ l) h e = absurd (omega arith)
tags_one (t ∷ k) [] h e = absurd (omega arith)
tags_one (t ∷ k) (u ∷ l) h e =
    let r = words_one t u (tag_counts k) (tag_counts l) (heads e) (tails e) in
    let p = r.0 in
    let q = tags_one k l (omega arith) r.1 in
    cc

-- the counts are told by their layout
pub counts_one : (b c : Counts) → descriptors b ≡ descriptors c → b ≡ c
counts_one b c e =
    let f = tails e in
    let g = tails f in
    let h = tails g in
    let p = heads e in
    let q = heads f in
    let r = heads g in
    let content : b.content ≡ c.content = omega arith in
    let tags = tags_one b.tags c.tags (heads h) (tails h) in
    λ i. record { kind = p i; content = content i; tags = tags i }
