-- What is encoded is decoded again, and a text that is base64 is the encoding of what it decodes to: so base64 without
-- padding leaves no freedom. Lengths, and texts in parts.
-- By induction, a group at a time; each byte and each character of a group is one equation of arithmetic.
use Prim.Native.Nat.{ℕ, zero, suc, ◌+◌, ◌-◌, ◌*◌, ◌/◌, ◌%◌, ◌<◌}
use mathlib.Core.Path.{◌≡◌, refl, sym, ap, ◌∙◌}
use mathlib.Core.Bool.{true, false}
use mathlib.Core.List.{List, [], ◌∷◌, ◌++◌}
use native.Mathlib.Omega.{arith}
use lib.ListN.{length, take, drop, get_or}
use lib.Dec.{eqb, lit<}
use borrow.Author.Tests.{lt-ltb, ltb-true, eqb-true, eq-eqb}
use Rattle.scan.specs.Bytes.{All, none, also, IsBytes}
use Rattle.scan.proofs.Step.{false_true}
use Rattle.base64text.specs.Base64.{character_of, six_bits, in_alphabet, encoded, decoded, ends_whole, first, second, third}
use Rattle.base64text.proofs.Alphabet.{bits_character, character_bits}

-- a byte of the alphabet
abbrev pub Character : ℕ → Type 0
Character b = six_bits b < 64

pub character_in : (b : ℕ) → Character b → in_alphabet b ≡ true
unfolding in_alphabet
character_in b h = lt-ltb (six_bits b) 64 h

pub in_character : (b : ℕ) → in_alphabet b ≡ true → Character b
unfolding in_alphabet
in_character b h = ltb-true (six_bits b) 64 h

-- ---- what is encoded is decoded again

module _ (a b c : ℕ) (p : a < 256) (q : b < 256) (r : c < 256) where
  first_back : first (a / 4) (a % 4 * 16 + b / 16) ≡ a
  first_back = omega arith

  second_back : second (a % 4 * 16 + b / 16) (b % 16 * 4 + c / 64) ≡ b
  second_back = omega arith

  third_back : third (b % 16 * 4 + c / 64) (c % 64) ≡ c
  third_back = omega arith

  first_only : first (a / 4) (a % 4 * 16) ≡ a
  first_only = omega arith

  second_only : second (a % 4 * 16 + b / 16) (b % 16 * 4) ≡ b
  second_only = omega arith

pub decoded_encoded : (l : List ℕ) → IsBytes l → decoded (encoded l) ≡ l
unfolding encoded decoded
decoded_encoded [] none = refl
decoded_encoded (a ∷ []) (also p none) =
    rw (bits_character (a / 4) (omega arith), bits_character (a % 4 * 16) (omega arith), first_only a a a p p p)
decoded_encoded (a ∷ b ∷ []) (also p (also q none)) =
    rw (bits_character (a / 4) (omega arith), bits_character (a % 4 * 16 + b / 16) (omega arith), bits_character (b % 16 * 4) (omega arith), first_back a b b p q q, second_only a b b p q q)
decoded_encoded (a ∷ b ∷ c ∷ l) (also p (also q (also r y))) =
    rw (
      bits_character (a / 4) (omega arith),
      bits_character (a % 4 * 16 + b / 16) (omega arith),
      bits_character (b % 16 * 4 + c / 64) (omega arith),
      bits_character (c % 64) (omega arith),
      first_back a b c p q r,
      second_back a b c p q r,
      third_back a b c p q r,
      decoded_encoded l y,
    )

-- it ends as base64 does
pub encoded_whole : (l : List ℕ) → IsBytes l → ends_whole (encoded l) ≡ true
unfolding encoded ends_whole
encoded_whole [] none = refl
encoded_whole (a ∷ []) (also p none) = rw (bits_character (a % 4 * 16) (omega arith)) (eq-eqb (a % 4 * 16 % 16) 0 (omega arith))
encoded_whole (a ∷ b ∷ []) (also p (also q none)) = rw (bits_character (b % 16 * 4) (omega arith)) (eq-eqb (b % 16 * 4 % 4) 0 (omega arith))
encoded_whole (a ∷ b ∷ c ∷ l) (also p (also q (also r y))) = encoded_whole l y

a_character : (v : ℕ) → v < 64 → Character (character_of v)
a_character v h = rw (bits_character v h) h

-- it is of the alphabet
pub encoded_in : (l : List ℕ) → IsBytes l → All Character (encoded l)
unfolding encoded
encoded_in [] none = none
encoded_in (a ∷ []) (also p none) = also (a_character (a / 4) (omega arith)) (also (a_character (a % 4 * 16) (omega arith)) none)
encoded_in (a ∷ b ∷ []) (also p (also q none)) =
    also (a_character (a / 4) (omega arith)) (also (a_character (a % 4 * 16 + b / 16) (omega arith)) (also (a_character (b % 16 * 4) (omega arith)) none))
encoded_in (a ∷ b ∷ c ∷ l) (also p (also q (also r y))) =
    also (a_character (a / 4) (omega arith))
    (also (a_character (a % 4 * 16 + b / 16) (omega arith))
    (also (a_character (b % 16 * 4 + c / 64) (omega arith))
    (also (a_character (c % 64) (omega arith)) (encoded_in l y))))

-- two byte strings with one encoding are one
pub encoded_injective : (l m : List ℕ) → IsBytes l → IsBytes m → encoded l ≡ encoded m → l ≡ m
encoded_injective l m y z e = sym (decoded_encoded l y) ∙ ap decoded e ∙ decoded_encoded m z

-- ---- a text that is base64 is the encoding of what it decodes to

character_was : (b v : ℕ) → Character b → v ≡ six_bits b → character_of v ≡ b
character_was b v l e = ap character_of e ∙ character_bits b l

module _ (a b c d : ℕ) (p : a < 64) (q : b < 64) (r : c < 64) (s : d < 64) where
  was1 : first a b / 4 ≡ a
  was1 = omega arith

  was2 : first a b % 4 * 16 + second b c / 16 ≡ b
  was2 = omega arith

  was3 : second b c % 16 * 4 + third c d / 64 ≡ c
  was3 = omega arith

  was4 : third c d % 64 ≡ d
  was4 = omega arith

  was2_only : b % 16 ≡ 0 → first a b % 4 * 16 ≡ b
  was2_only h = omega arith

  was3_only : c % 4 ≡ 0 → second b c % 16 * 4 ≡ c
  was3_only h = omega arith

pub encoded_decoded : (t : List ℕ) → All Character t → ends_whole t ≡ true → encoded (decoded t) ≡ t
unfolding encoded decoded ends_whole
encoded_decoded [] none e = refl
encoded_decoded (a ∷ []) (also p none) e = absurd (false_true e)
encoded_decoded (a ∷ b ∷ []) (also p (also q none)) e =
    let h = eqb-true (six_bits b % 16) 0 e in
    let z = lit< tt in
    rw (character_was a _ p (was1 (six_bits a) (six_bits b) 0 0 p q z z), character_was b _ q (was2_only (six_bits a) (six_bits b) 0 0 p q z z h))
encoded_decoded (a ∷ b ∷ c ∷ []) (also p (also q (also r none))) e =
    let h = eqb-true (six_bits c % 4) 0 e in
    let z = lit< tt in
    rw (
      character_was a _ p (was1 (six_bits a) (six_bits b) 0 0 p q z z),
      character_was b _ q (was2 (six_bits a) (six_bits b) (six_bits c) 0 p q r z),
      character_was c _ r (was3_only (six_bits a) (six_bits b) (six_bits c) 0 p q r z h),
    )
encoded_decoded (a ∷ b ∷ c ∷ d ∷ t) (also p (also q (also r (also u y)))) e =
    let z = lit< tt in
    rw (
      character_was a _ p (was1 (six_bits a) (six_bits b) 0 0 p q z z),
      character_was b _ q (was2 (six_bits a) (six_bits b) (six_bits c) 0 p q r z),
      character_was c _ r (was3 (six_bits a) (six_bits b) (six_bits c) (six_bits d) p q r u),
      character_was d _ u (was4 (six_bits a) (six_bits b) (six_bits c) (six_bits d) p q r u),
      encoded_decoded t y e,
    )

-- what is decoded is bytes
module _ (a b : ℕ) where
  first_byte : first a b < 256
  first_byte = omega arith

  second_byte : second a b < 256
  second_byte = omega arith

  third_byte : third a b < 256
  third_byte = omega arith

pub decoded_bytes : (t : List ℕ) → IsBytes (decoded t)
unfolding decoded
decoded_bytes [] = none
decoded_bytes (a ∷ []) = none
decoded_bytes (a ∷ b ∷ []) = also (first_byte (six_bits a) (six_bits b)) none
decoded_bytes (a ∷ b ∷ c ∷ []) = also (first_byte (six_bits a) (six_bits b)) (also (second_byte (six_bits b) (six_bits c)) none)
decoded_bytes (a ∷ b ∷ c ∷ d ∷ t) =
    also (first_byte (six_bits a) (six_bits b)) (also (second_byte (six_bits b) (six_bits c)) (also (third_byte (six_bits c) (six_bits d)) (decoded_bytes t)))

-- ---- lengths

pub length_encoded : (l : List ℕ) → length (encoded l) ≡ length l / 3 * 4 + (length l % 3 * 4 + 2) / 3
unfolding encoded
length_encoded [] = refl
length_encoded (a ∷ []) = refl
length_encoded (a ∷ b ∷ []) = refl
length_encoded (a ∷ b ∷ c ∷ l) = omega (arith, length_encoded l)

pub length_decoded : (t : List ℕ) → length (decoded t) ≡ length t / 4 * 3 + length t % 4 * 3 / 4
unfolding decoded
length_decoded [] = refl
length_decoded (a ∷ []) = refl
length_decoded (a ∷ b ∷ []) = refl
length_decoded (a ∷ b ∷ c ∷ []) = refl
length_decoded (a ∷ b ∷ c ∷ d ∷ t) = omega (arith, length_decoded t)

-- ---- in parts: whole groups, and the rest

pub encoded_parts : (k n : ℕ) (l : List ℕ) → n ≡ 3 * k → encoded l ≡ encoded (take n l) ++ encoded (drop n l)
unfolding encoded
encoded_parts zero n l e = rw e
encoded_parts (suc k) n l e = let m : n ≡ suc (suc (suc (3 * k))) = omega arith in rw m (go (λ l. encoded_parts k (3 * k) l refl) l)
  where
    go : ((l : List ℕ) → encoded l ≡ encoded (take (3 * k) l) ++ encoded (drop (3 * k) l)) → (l : List ℕ) → encoded l ≡ encoded (take (suc (suc (suc (3 * k)))) l) ++ encoded (drop (suc (suc (suc (3 * k)))) l)
    go f [] = refl
    go f (a ∷ []) = refl
    go f (a ∷ b ∷ []) = refl
    go f (a ∷ b ∷ c ∷ l) =
        ap (λ (t : List ℕ). character_of (a / 4) ∷ character_of (a % 4 * 16 + b / 16) ∷ character_of (b % 16 * 4 + c / 64) ∷ character_of (c % 64) ∷ t) (f l)

pub decoded_parts : (k n : ℕ) (t : List ℕ) → n ≡ 4 * k → decoded t ≡ decoded (take n t) ++ decoded (drop n t)
unfolding decoded
decoded_parts zero n t e = rw e
decoded_parts (suc k) n t e = let m : n ≡ suc (suc (suc (suc (4 * k)))) = omega arith in rw m (go (λ t. decoded_parts k (4 * k) t refl) t)
  where
    go : ((t : List ℕ) → decoded t ≡ decoded (take (4 * k) t) ++ decoded (drop (4 * k) t)) → (t : List ℕ) → decoded t ≡ decoded (take (suc (suc (suc (suc (4 * k))))) t) ++ decoded (drop (suc (suc (suc (suc (4 * k))))) t)
    go f [] = refl
    go f (a ∷ []) = refl
    go f (a ∷ b ∷ []) = refl
    go f (a ∷ b ∷ c ∷ []) = refl
    go f (a ∷ b ∷ c ∷ d ∷ t) =
        ap (λ (l : List ℕ). first (six_bits a) (six_bits b) ∷ second (six_bits b) (six_bits c) ∷ third (six_bits c) (six_bits d) ∷ l) (f t)

-- ---- how a text ends, by what its length leaves after division by 4

pub ends_none : (t : List ℕ) → length t % 4 ≡ 0 → true ≡ ends_whole t
unfolding ends_whole
ends_none [] h = refl
ends_none (a ∷ []) h = absurd (omega arith)
ends_none (a ∷ b ∷ []) h = absurd (omega arith)
ends_none (a ∷ b ∷ c ∷ []) h = absurd (omega arith)
ends_none (a ∷ b ∷ c ∷ d ∷ t) h = ends_none t (omega arith)

pub ends_lone : (t : List ℕ) → length t % 4 ≡ 1 → false ≡ ends_whole t
unfolding ends_whole
ends_lone [] h = absurd (omega arith)
ends_lone (a ∷ []) h = refl
ends_lone (a ∷ b ∷ []) h = absurd (omega arith)
ends_lone (a ∷ b ∷ c ∷ []) h = absurd (omega arith)
ends_lone (a ∷ b ∷ c ∷ d ∷ t) h = ends_lone t (omega arith)

last_on : (a b c d : ℕ) (t : List ℕ) → 0 < length t → get_or (a ∷ b ∷ c ∷ d ∷ t) (suc (suc (suc (suc (length t)))) - 1) 0 ≡ get_or t (length t - 1) 0
last_on a b c d t h = let e : suc (suc (suc (suc (length t)))) - 1 ≡ suc (suc (suc (suc (length t - 1)))) = omega arith in rw e

pub ends_two : (t : List ℕ) → length t % 4 ≡ 2 → eqb (six_bits (get_or t (length t - 1) 0) % 16) 0 ≡ ends_whole t
unfolding ends_whole
ends_two [] h = absurd (omega arith)
ends_two (a ∷ []) h = absurd (omega arith)
ends_two (a ∷ b ∷ []) h = refl
ends_two (a ∷ b ∷ c ∷ []) h = absurd (omega arith)
ends_two (a ∷ b ∷ c ∷ d ∷ t) h = rw (last_on a b c d t (omega arith)) (ends_two t (omega arith))

pub ends_three : (t : List ℕ) → length t % 4 ≡ 3 → eqb (six_bits (get_or t (length t - 1) 0) % 4) 0 ≡ ends_whole t
unfolding ends_whole
ends_three [] h = absurd (omega arith)
ends_three (a ∷ []) h = absurd (omega arith)
ends_three (a ∷ b ∷ []) h = absurd (omega arith)
ends_three (a ∷ b ∷ c ∷ []) h = refl
ends_three (a ∷ b ∷ c ∷ d ∷ t) h = rw (last_on a b c d t (omega arith)) (ends_three t (omega arith))
