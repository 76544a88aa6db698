-- The encoding of a scalar value is one character of the grammar, it decodes to the value again, and every character is
-- such an encoding.
-- Each row of the table is one equation under its bounds; the rest is arithmetic on quotients and remainders.
use Prim.Native.Nat.{ℕ, ◌+◌, ◌-◌, ◌*◌, ◌/◌, ◌<◌, ◌≤◌}
use mathlib.Core.Path.{◌≡◌, ◌∙◌}
use mathlib.Core.Bool.{true, false}
use mathlib.Core.List.{List, [], ◌∷◌}
use mathlib.Core.Logic.{dite}
use native.Mathlib.Nat.{div-div-eq-div-mul}
use native.Mathlib.Omega.{arith}
use native.Mathlib.Decide.{dec_lt}
use lib.ListN.{length}
use borrow.Author.Tests.{lt-ltb, le-ltb, le-leb, lt-leb}
use Rattle.scan.specs.Place.{within}
use Rattle.utf8.specs.Utf8.{octet, Tail, Char, one, two, three_E0, three_E1, three_ED, three_EE, four_F0, four_F1, four_F4, Utf8}
use Rattle.utf8.specs.Encode.{Scalar, below, above, tail_of, encode}
use Rattle.utf8.specs.inner.Scalar.{scalar_of}
use Rattle.utf8.proofs.WidthLaws.{char_length}
use Rattle.utf8.proofs.Laws.{utf8_char}

-- ---- the rows of the table

module _ (n : ℕ) where
  surrogate : 0xD800 ≤ n → n ≤ 0xDFFF → within 0xD800 0xDFFF n ≡ true
  unfolding within
  surrogate h l = simp (le-leb 0xD800 n h, le-leb n 0xDFFF l)

  under : n < 0xD800 → within 0xD800 0xDFFF n ≡ false
  unfolding within
  under h = simp (lt-leb 0xD800 n h)

  over : 0xDFFF < n → within 0xD800 0xDFFF n ≡ false
  unfolding within
  over h = simp (le-leb 0xD800 n (omega arith), lt-leb n 0xDFFF h)

  -- no scalar value is a surrogate
  no_surrogate : Scalar n → within 0xD800 0xDFFF n ≡ false
  no_surrogate (below b) = under b
  no_surrogate (above b m) = over b

  -- one byte
  pub encode_one : n < 0x80 → encode n ≡ n ∷ []
  unfolding encode
  encode_one h = simp (lt-ltb n 0x80 h)

  -- two bytes
  pub encode_two : 0x80 ≤ n → n < 0x800 → encode n ≡ (0xC0 + n / 64) ∷ tail_of n ∷ []
  unfolding encode
  encode_two h l = simp (le-ltb n 0x80 h, lt-ltb n 0x800 l)

  -- a surrogate has none
  pub encode_surrogate : 0xD800 ≤ n → n ≤ 0xDFFF → encode n ≡ []
  unfolding encode
  encode_surrogate h l = simp (le-ltb n 0x80 (omega arith), le-ltb n 0x800 (omega arith), surrogate h l)

  -- three bytes
  pub encode_three : Scalar n → 0x800 ≤ n → n < 0x10000 → encode n ≡ (0xE0 + n / 4096) ∷ tail_of (n / 64) ∷ tail_of n ∷ []
  unfolding encode
  encode_three g h l = simp (le-ltb n 0x80 (omega arith), le-ltb n 0x800 h, no_surrogate g, lt-ltb n 0x10000 l)

  -- four bytes
  pub encode_four : 0x10000 ≤ n → n < 0x110000 → encode n ≡ (0xF0 + n / 262144) ∷ tail_of (n / 4096) ∷ tail_of (n / 64) ∷ tail_of n ∷ []
  unfolding encode
  encode_four h l = simp (le-ltb n 0x80 (omega arith), le-ltb n 0x800 (omega arith), over (omega arith), le-ltb n 0x10000 h, lt-ltb n 0x110000 l)

  -- past 10FFFF there is none
  pub encode_past : 0x110000 ≤ n → encode n ≡ []
  unfolding encode
  encode_past h =
      simp (le-ltb n 0x80 (omega arith), le-ltb n 0x800 (omega arith), over (omega arith), le-ltb n 0x10000 (omega arith), le-ltb n 0x110000 h)

pub ruleset rows = (encode_one, encode_two, encode_surrogate, encode_three, encode_four, encode_past, below, above)

-- ---- a scalar value's bytes are one character

tail : (n : ℕ) → Tail (tail_of n)
tail n = octet {b = tail_of n} (omega arith) (omega arith)

module _ (n : ℕ) where
  -- a row of three: E0, E1 to EC, ED below the surrogates, EE and EF above them
  three : Scalar n → 0x800 ≤ n → n < 0x10000 → Char ((0xE0 + n / 4096) ∷ tail_of (n / 64) ∷ tail_of n ∷ [])
  three (below b) h l =
      dite (dec_lt n 0x1000)
      (λ p. let e : 0xE0 + n / 4096 ≡ 0xE0 = omega arith in rw e (three_E0 (octet {b = tail_of (n / 64)} (omega arith) (omega arith)) (tail n)))
      (λ q.
      dite (dec_lt n 0xD000) (λ p. three_E1 (octet {b = 0xE0 + n / 4096} (omega (arith, q)) (omega arith)) (tail (n / 64)) (tail n))
      (λ r.
      let e : 0xE0 + n / 4096 ≡ 0xED = omega (arith, r) in
      rw e (three_ED (octet {b = tail_of (n / 64)} (omega arith) (omega (arith, r))) (tail n))))
  three (above b m) h l = three_EE (octet {b = 0xE0 + n / 4096} (omega arith) (omega arith)) (tail (n / 64)) (tail n)

  -- a row of four: F0, F1 to F3, F4
  four : 0x10000 ≤ n → n < 0x110000 → Char ((0xF0 + n / 262144) ∷ tail_of (n / 4096) ∷ tail_of (n / 64) ∷ tail_of n ∷ [])
  four h l =
      dite (dec_lt n 0x40000)
      (λ p.
      let e : 0xF0 + n / 262144 ≡ 0xF0 = omega arith in
      rw e (four_F0 (octet {b = tail_of (n / 4096)} (omega arith) (omega arith)) (tail (n / 64)) (tail n)))
      (λ q.
      dite (dec_lt n 0x100000)
      (λ p. four_F1 (octet {b = 0xF0 + n / 262144} (omega (arith, q)) (omega arith)) (tail (n / 4096)) (tail (n / 64)) (tail n))
      (λ r.
      let e : 0xF0 + n / 262144 ≡ 0xF4 = omega (arith, r) in
      rw e (four_F4 (octet {b = tail_of (n / 4096)} (omega arith) (omega (arith, r))) (tail (n / 64)) (tail n))))

  -- no scalar value is past 10FFFF
  most : Scalar n → n < 0x110000
  most (below b) = omega arith
  most (above b m) = omega arith

-- the bytes of a scalar value are one character
pub encode_char : {n : ℕ} → Scalar n → Char (encode n)
encode_char {n} g =
    dite (dec_lt n 0x80) (λ l. rw (encode_one n l) (one (octet {b = n} (omega arith) (omega arith))))
    (λ q₁.
    dite (dec_lt n 0x800)
    (λ l. rw (encode_two n (omega (arith, q₁)) l) (two (octet {b = 0xC0 + n / 64} (omega (arith, q₁)) (omega arith)) (tail n)))
    (λ q₂.
    dite (dec_lt n 0x10000)
    (λ l. rw (encode_three n g (omega (arith, q₂)) l) (three n g (omega (arith, q₂)) l))
    (λ q₃. rw (encode_four n (omega (arith, q₃)) (most n g)) (four n (omega (arith, q₃)) (most n g)))))

-- the bytes of a scalar value are a text
pub encode_utf8 : {n : ℕ} → Scalar n → Utf8 (encode n)
encode_utf8 g = utf8_char (encode_char g)

-- a scalar value takes 1 to 4 bytes
pub encode_length : {n : ℕ} → Scalar n → (1 ≤ length (encode n)) × (length (encode n) ≤ 4)
encode_length g = char_length (encode_char g)

-- every other number takes none
pub encode_none : (n : ℕ) → (Scalar n → ⊥) → encode n ≡ []
encode_none n f =
    dite (dec_lt n 0xD800) (λ l. absurd (f (below l)))
    (λ q.
    dite (dec_lt n 0xE000) (λ l. encode_surrogate n (omega (arith, q)) (omega arith))
    (λ r.
    dite (dec_lt n 0x110000) (λ l. absurd (f (above (omega (arith, r)) (omega arith)))) (λ t. encode_past n (omega (arith, t)))))

-- ---- decoding

-- a scalar value decodes to itself
pub decode_encode : {n : ℕ} → Scalar n → scalar_of (encode n) ≡ n
unfolding scalar_of
decode_encode {n} g =
    dite (dec_lt n 0x80) (λ l. rw (encode_one n l))
    (λ q₁.
    dite (dec_lt n 0x800) (λ l. rw (encode_two n (omega (arith, q₁)) l) (omega arith))
    (λ q₂.
    dite (dec_lt n 0x10000) (λ l. rw (encode_three n g (omega (arith, q₂)) l) (omega (arith, div-div-eq-div-mul n 64 64)))
    (λ q₃.
    rw (encode_four n (omega (arith, q₃)) (most n g)) (omega (arith, most n g, div-div-eq-div-mul n 64 64, div-div-eq-div-mul n 4096 64)))))

-- what a character decodes to is a scalar value
pub char_scalar : {c : List ℕ} → Char c → Scalar (scalar_of c)
unfolding scalar_of
char_scalar {c} (one (octet p q)) = below {n = scalar_of c} (omega arith)
char_scalar {c} (two (octet p q) (octet r t)) = below {n = scalar_of c} (omega arith)
char_scalar {c} (three_E0 (octet r t) (octet u v)) = below {n = scalar_of c} (omega arith)
char_scalar {c} (three_E1 (octet p q) (octet r t) (octet u v)) = below {n = scalar_of c} (omega arith)
char_scalar {c} (three_ED (octet r t) (octet u v)) = below {n = scalar_of c} (omega arith)
char_scalar {c} (three_EE (octet p q) (octet r t) (octet u v)) = above {n = scalar_of c} (omega arith) (omega arith)
char_scalar {c} (four_F0 (octet r t) (octet u v) (octet w x)) = above {n = scalar_of c} (omega arith) (omega arith)
char_scalar {c} (four_F1 (octet p q) (octet r t) (octet u v) (octet w x)) = above {n = scalar_of c} (omega arith) (omega arith)
char_scalar {c} (four_F4 (octet r t) (octet u v) (octet w x)) = above {n = scalar_of c} (omega arith) (omega arith)

module _ (a b c d : ℕ) where
  -- the rows of two, three and four bytes, put together and taken apart again
  two_back : 0xC2 ≤ a → a ≤ 0xDF → Tail b → encode ((a - 0xC0) * 64 + (b - 0x80)) ≡ a ∷ b ∷ []
  two_back p q (octet r t) =
      let n = (a - 0xC0) * 64 + (b - 0x80) in
      let e : 0xC0 + n / 64 ≡ a = omega arith in
      let f : tail_of n ≡ b = omega arith in
      encode_two n (omega arith) (omega arith) ∙ rw (e, f)

  three_back : 0xE0 ≤ a → a ≤ 0xEF → 0x80 ≤ b → b ≤ 0xBF → Tail c
      → (let n = (a - 0xE0) * 4096 + (b - 0x80) * 64 + (c - 0x80) in 0x800 ≤ n → Scalar n → encode n ≡ a ∷ b ∷ c ∷ [])
  three_back p q r t (octet u v) h g =
      let n = (a - 0xE0) * 4096 + (b - 0x80) * 64 + (c - 0x80) in
      let e : 0xE0 + n / 4096 ≡ a = omega arith in
      let m : n / 64 ≡ (a - 0xE0) * 64 + (b - 0x80) = omega arith in
      let f : tail_of (n / 64) ≡ b = omega arith in
      let k : tail_of n ≡ c = omega arith in
      encode_three n g h (omega arith) ∙ rw (e, f, k)

  four_back : 0xF0 ≤ a → a ≤ 0xF4 → 0x80 ≤ b → b ≤ 0xBF → Tail c → Tail d
      → (let n = (a - 0xF0) * 262144 + (b - 0x80) * 4096 + (c - 0x80) * 64 + (d - 0x80) in 0x10000 ≤ n → n < 0x110000 → encode n ≡ a ∷ b ∷ c ∷ d ∷ [])
  four_back p q r t (octet u v) (octet w x) h l =
      let n = (a - 0xF0) * 262144 + (b - 0x80) * 4096 + (c - 0x80) * 64 + (d - 0x80) in
      let e : 0xF0 + n / 262144 ≡ a = omega arith in
      let m : n / 64 ≡ (a - 0xF0) * 4096 + (b - 0x80) * 64 + (c - 0x80) = omega arith in
      let j : n / 4096 ≡ (a - 0xF0) * 64 + (b - 0x80) = omega arith in
      let f : tail_of (n / 4096) ≡ b = omega arith in
      let g : tail_of (n / 64) ≡ c = omega arith in
      let k : tail_of n ≡ d = omega arith in
      encode_four n h l ∙ rw (e, f, g, k)

-- a character is the encoding of what it decodes to
pub encode_decode : {c : List ℕ} → Char c → encode (scalar_of c) ≡ c
unfolding scalar_of
encode_decode (one {a = a} (octet p q)) = encode_one a (omega arith)
encode_decode (two {a = a} {b = b} (octet p q) t) = two_back a b 0 0 p q t
encode_decode (three_E0 {b = b} {c = c} (octet r t) u) =
    three_back 0xE0 b c 0 (omega arith) (omega arith) (omega arith) (omega arith) u (omega arith) (char_scalar (three_E0 (octet r t) u))
encode_decode (three_E1 {a = a} {b = b} {c = c} (octet p q) (octet r t) u) =
    three_back a b c 0 (omega arith) (omega arith) (omega arith) (omega arith) u (omega arith) (char_scalar (three_E1 (octet p q) (octet r t) u))
encode_decode (three_ED {b = b} {c = c} (octet r t) u) =
    three_back 0xED b c 0 (omega arith) (omega arith) (omega arith) (omega arith) u (omega arith) (char_scalar (three_ED (octet r t) u))
encode_decode (three_EE {a = a} {b = b} {c = c} (octet p q) (octet r t) u) =
    three_back a b c 0 (omega arith) (omega arith) (omega arith) (omega arith) u (omega arith) (char_scalar (three_EE (octet p q) (octet r t) u))
encode_decode (four_F0 {b = b} {c = c} {d = d} (octet r t) (octet u v) (octet w x)) =
    four_back 0xF0 b c d (omega arith) (omega arith) (omega arith) (omega arith) (octet u v) (octet w x) (omega arith) (omega arith)
encode_decode (four_F1 {a = a} {b = b} {c = c} {d = d} (octet p q) (octet r t) (octet u v) (octet w x)) =
    four_back a b c d (omega arith) (omega arith) (omega arith) (omega arith) (octet u v) (octet w x) (omega arith) (omega arith)
encode_decode (four_F4 {b = b} {c = c} {d = d} (octet r t) (octet u v) (octet w x)) =
    four_back 0xF4 b c d (omega arith) (omega arith) (omega arith) (omega arith) (octet u v) (octet w x) (omega arith) (omega arith)
