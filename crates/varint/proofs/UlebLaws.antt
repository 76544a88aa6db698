-- The laws of ULEB128: the steps of `uleb`, that it spells its number, and that nothing else does.
-- By induction on the spelling; `uleb` is opened only for its two steps.
use Prim.Native.Nat.{ℕ, zero, suc, ◌+◌, ◌*◌, ◌-◌, ◌/◌, ◌%◌, ◌≤◌, ◌<◌, ◌^◌}
use mathlib.Core.Path.{◌≡◌, refl, sym, ap, ◌∙◌}
use mathlib.Core.List.{List, [], ◌∷◌}
use mathlib.Core.Logic.{dite}
use native.Mathlib.Nat.{pow-succ', one-le-pow}
use Rattle.std.proofs.lemmas.Nat.{pow-add}
use Rattle.std.proofs.Math.Pow.{pow_mono}
use native.Mathlib.Omega.{arith}
use native.Mathlib.Decide.{dec_lt}
use lib.ListN.{length}
use lib.Dec.{ltb}
use borrow.Author.Tests.{lt-ltb, le-ltb}
use Rattle.scan.specs.Choice.{pick}
use Rattle.scan.specs.Bytes.{none, also, IsBytes}
use Rattle.varint.specs.Uleb.{Uleb, last, more, Groups, top, below, Spells, uleb_in, uleb}

-- ---- the steps of the shortest spelling

in_last : (k n : ℕ) → n < 128 → uleb_in k n ≡ n ∷ []
unfolding uleb_in
in_last zero n h = refl
in_last (suc k) n h = simp (lt-ltb n 128 h)

-- fuel from n on makes no difference
in_same : (j k n : ℕ) → n ≤ j → n ≤ k → uleb_in j n ≡ uleb_in k n
unfolding uleb_in
in_same zero k n p q = sym (in_last k n (omega arith))
in_same (suc j) zero n p q = in_last (suc j) n (omega arith)
in_same (suc j) (suc k) n p q = rw (in_same j k (n / 128) (omega arith) (omega arith))

-- a number below 128 is its own byte
pub uleb_last : (n : ℕ) → n < 128 → uleb n ≡ n ∷ []
unfolding uleb
uleb_last n h = in_last n n h

-- any other is its seven lowest bits under the top bit, and then the rest
pub uleb_more : (n : ℕ) → 128 ≤ n → uleb n ≡ (128 + n % 128) ∷ uleb (n / 128)
unfolding uleb uleb_in
uleb_more n h =
    in_same n (suc n) n (omega arith) (omega arith)
    ∙ simp (le-ltb n 128 h, in_same n (n / 128) (n / 128) (omega arith) (omega arith))

-- one byte for a number below 128
pub length_last : (n : ℕ) → n < 128 → length (uleb n) ≡ 1
length_last n h = ap length (uleb_last n h)

-- one byte more than the rest for any other
pub length_more : (n : ℕ) → 128 ≤ n → length (uleb n) ≡ length (uleb (n / 128)) + 1
length_more n h = ap length (uleb_more n h) ∙ omega arith

length_groups : (q r n : ℕ) → r < 7 → 2 ^ (r + 7 * q) ≤ n → n < 2 * 2 ^ (r + 7 * q) → length (uleb n) ≡ q + 1
length_groups zero r n s l h =
    let e : r + 7 * 0 ≡ r = omega arith in
    let m : 2 ^ r ≤ 64 = pow_mono {i = r} {j = 6} (omega (arith, s)) in
    length_last n (omega (arith, rw e at h, m))
length_groups (suc q) r n s l h =
    let e : r + 7 * suc q ≡ 7 + (r + 7 * q) = omega arith in
    let p : 2 ^ (r + 7 * suc q) ≡ 128 * 2 ^ (r + 7 * q) = ap (λ (k : ℕ). 2 ^ k) e ∙ pow-add 2 7 (r + 7 * q) in
    let o = one-le-pow (r + 7 * q) 2 (omega arith) in
    omega (arith, length_more n (omega (arith, l, p, o)), length_groups q r (n / 128) s (omega (arith, l, p)) (omega (arith, h, p)))

-- from a power of two on, and below the next, a number has one byte for each seven bits that are begun
pub length_bits : (k n : ℕ) → 2 ^ k ≤ n → n < 2 * 2 ^ k → length (uleb n) ≡ k / 7 + 1
length_bits k n l h =
    let e : k % 7 + 7 * (k / 7) ≡ k = omega arith in
    length_groups (k / 7) (k % 7) n (omega arith) (rw e l) (rw e h)

-- ---- every spelling

-- a spelling has a byte
pub digits_one : {n : ℕ} {l : List ℕ} → Uleb n l → 1 ≤ length l
digits_one (last h) = omega arith
digits_one (more h z u) = omega arith

-- every byte of a spelling is a byte
digits_bytes : {n : ℕ} {l : List ℕ} → Uleb n l → IsBytes l
digits_bytes (last {b = b} h) = also {b = b} (omega arith) none
digits_bytes (more {b = b} h z u) = also {b = 128 + b} (omega arith) (digits_bytes u)

-- the number that a list of bytes spells, if any
worth : List ℕ → ℕ
worth [] = 0
worth (b ∷ l) = pick (ltb b 128) b (b - 128 + 128 * worth l)

digits_worth : {n : ℕ} {l : List ℕ} → Uleb n l → n ≡ worth l
unfolding worth
digits_worth (last {b = b} h) = rw (lt-ltb b 128 h)
digits_worth (more {b = b} h z u) = rw (le-ltb (128 + b) 128 (omega arith), ← (digits_worth u)) (omega arith)

-- a spelling spells one number
digits_value : {n m : ℕ} {l : List ℕ} → Uleb n l → Uleb m l → n ≡ m
digits_value u v = digits_worth u ∙ sym (digits_worth v)

-- ---- the shortest spelling

in_digits : (k n : ℕ) → n ≤ k → Uleb n (uleb_in k n)
unfolding uleb_in
in_digits zero n h = last {b = n} (omega arith)
in_digits (suc k) n h =
    dite (dec_lt n 128) (λ p. rw (lt-ltb n 128 p) (last p))
    (λ q.
    let e : n % 128 + 128 * (n / 128) ≡ n = omega arith in
    rw (le-ltb n 128 (omega (arith, q))) (rw e at (more {b = n % 128} {n = n / 128} (omega arith) (omega (arith, q)) (in_digits k (n / 128) (omega arith)))))

-- `uleb n` spells n
pub uleb_digits : (n : ℕ) → Uleb n (uleb n)
unfolding uleb
uleb_digits n = in_digits n n (omega arith)

-- every byte of `uleb n` is a byte
pub uleb_bytes : (n : ℕ) → IsBytes (uleb n)
uleb_bytes n = digits_bytes (uleb_digits n)

-- two numbers have two shortest spellings
pub uleb_injective : (n m : ℕ) → uleb n ≡ uleb m → n ≡ m
uleb_injective n m e = digits_value (uleb_digits n) (rw (sym e) at (uleb_digits m))

-- the step of `uleb` at a number in seven bits and the rest
uleb_rest : (b n : ℕ) → b < 128 → 128 ≤ b + 128 * n → uleb (b + 128 * n) ≡ (128 + b) ∷ uleb n
uleb_rest b n h g =
    let p : (b + 128 * n) % 128 ≡ b = omega arith in
    let q : (b + 128 * n) / 128 ≡ n = omega arith in
    uleb_more (b + 128 * n) g ∙ rw (p, q)

-- nothing but `uleb n` spells n
digits_only_lem : {n : ℕ} {l : List ℕ} → Uleb n l → l ≡ uleb n
digits_only_lem (last {b = b} h) = sym (uleb_last b h)
digits_only_lem (more {b = b} {n = n} h z u) = ap (λ (t : List ℕ). (128 + b) ∷ t) (digits_only_lem u) ∙ sym (uleb_rest b n h (omega (arith, z)))

-- ---- among all groups of seven bits

groups_one : {n : ℕ} {l : List ℕ} → Groups n l → 1 ≤ length l
groups_one (top h) = omega arith
groups_one (below h u) = omega arith

-- none that make n are fewer than `uleb n`
pub groups_least : {n : ℕ} {l : List ℕ} → Groups n l → length (uleb n) ≤ length l
groups_least (top {b = b} h) = omega (arith, length_last b h)
groups_least (below {b = b} {n = n} h u) =
    dite (dec_lt (b + 128 * n) 128) (λ p. omega (arith, length_last (b + 128 * n) p))
    (λ q. omega (arith, ap length (uleb_rest b n h (omega (arith, q))), groups_least u))

-- a spelling is such groups
pub spelled_groups : {n : ℕ} {l : List ℕ} → Uleb n l → Groups n l
spelled_groups (last h) = top h
spelled_groups (more h z u) = below h (spelled_groups u)

-- so no spelling is shorter
pub uleb_shortest : {n : ℕ} {l : List ℕ} → Uleb n l → length (uleb n) ≤ length l
uleb_shortest u = groups_least (spelled_groups u)

-- and groups that are no more than needed are a spelling: what is refused as padded is longer than its number needs
pub groups_spelled : {n : ℕ} {l : List ℕ} → Groups n l → length l ≡ length (uleb n) → Uleb n l
groups_spelled (top h) e = last h
groups_spelled (below {b = b} {n = n} h u) e =
    dite (dec_lt (b + 128 * n) 128) (λ p. absurd (omega (arith, length_last (b + 128 * n) p, groups_one u)))
    (λ q.
    let s = uleb_rest b n h (omega (arith, q)) in
    more h (omega (arith, q, h)) (groups_spelled u (omega (arith, e, ap length s))))

-- ---- how long it is

-- the shortest spelling has a byte
pub length_one : (n : ℕ) → 1 ≤ length (uleb n)
length_one n = digits_one (uleb_digits n)

-- a number below 128 ^ (k + 1) takes at most k + 1 bytes
pub length_uleb : (k n : ℕ) → n < 128 ^ suc k → length (uleb n) ≤ suc k
length_uleb zero n h = omega (arith, length_last n h)
length_uleb (suc k) n h =
    dite (dec_lt n 128) (λ p. omega (arith, length_last n p))
    (λ q.
    let t : n / 128 < 128 ^ suc k = omega (arith, h, pow-succ' 128 (suc k)) in
    omega (arith, length_more n (omega (arith, q)), length_uleb k (n / 128) t))

-- ten bytes for any number that 64 bits hold
pub length_ten : (n : ℕ) → n < 2 ^ 64 → length (uleb n) ≤ 10
length_ten n h = length_uleb 9 n (omega arith)

-- ---- a varint

-- what is written is a varint
pub uleb_spells : (n : ℕ) → n < 2 ^ 64 → Spells n (uleb n)
uleb_spells n h = record { digits = uleb_digits n; holds = h }

-- a varint has a byte
pub spells_one : {n : ℕ} {l : List ℕ} → Spells n l → 1 ≤ length l
spells_one h = digits_one h.digits

-- every byte of a varint is a byte
pub spells_bytes : {n : ℕ} {l : List ℕ} → Spells n l → IsBytes l
spells_bytes h = digits_bytes h.digits

-- a varint has one value
pub spells_value : {n m : ℕ} {l : List ℕ} → Spells n l → Spells m l → n ≡ m
spells_value h k = digits_value h.digits k.digits

-- a varint is the shortest spelling of its number
pub spells_only : {n : ℕ} {l : List ℕ} → Spells n l → l ≡ uleb n
spells_only h = digits_only_lem h.digits

-- ten bytes at most
pub spells_ten : {n : ℕ} {l : List ℕ} → Spells n l → length l ≤ 10
spells_ten {n} h = rw (spells_only h) (length_ten n h.holds)
