-- A text that comes in parts: whether it is digits, and a byte for each two digits of it.
-- Each question over `++` is the question of the first part and then of the rest; the bytes of a scalar value are such
-- a part.
use Prim.Native.Nat.{ℕ, ◌+◌, ◌*◌, ◌-◌, ◌%◌, ◌<◌, ◌≤◌}
use mathlib.Core.Path.{◌≡◌, refl, sym, ap, ◌∙◌}
use mathlib.Core.Bool.{Bool, true, false}
use mathlib.Core.List.{List, [], ◌∷◌, ◌++◌}
use mathlib.Core.Logic.{dite}
use native.Mathlib.Omega.{arith}
use native.Mathlib.Decide.{dec_lt}
use lib.ListN.{length, get_or, take, drop}
use lib.Seq.{take_at}
use lib.Dec.{ltb}
use borrow.Author.Tests.{lt-ltb, le-ltb}
use Rattle.scan.specs.Bytes.{All}
use Rattle.scan.proofs.Step.{pick_by}
use Rattle.buffer.specs.inner.Store.{Buffer, Wrote}
use Rattle.buffer.proofs.Laws.{Left, puts_eq}
use Rattle.utf8.specs.Encode.{Scalar, below, above, encode}
use Rattle.utf8.proofs.EncodeLaws.{encode_length, encode_none}
use Rattle.hexdigits.specs.Hex.{value_of, digit_of, unhex, all_digits}
use Rattle.hexdigits.proofs.Digits.{value_of_digit}
use Rattle.hexdigits.proofs.Texts.{digits_pass, digits_append}
use Rattle.hexdigits.proofs.Turn.{unhex_two, unhex_ended}
use Rattle.jsonunescape.specs.inner.Half.{held, half_behind}
use Rattle.jsontext.specs.declared.Escape.{Escape}
use Rattle.jsontext.specs.inner.Escape.{escape_at, or_itself, unescape}
use Rattle.jsonunescape.specs.inner.Run.{backslash_at}
use Rattle.jsontext.proofs.Meaning.{unescape_escape}
use Rattle.jsonunescape.proofs.Unescape.{unescape_run, unescape_end, turn_text}

-- ---- the bytes of a scalar value in an array of four

scalar_or : (n : ℕ) → length (encode n) ≤ 4
scalar_or n =
    dite (dec_lt n 0x110000)
    (λ h. dite (dec_lt n 0xD800) (λ k. (encode_length (below k)).1)
    (λ m. dite (dec_lt n 0xE000) (λ k. omega (arith, ap length (encode_none n (surrogate (omega (arith, m)) k)))) (λ o. (encode_length (above {n = n} (omega (arith, o)) (omega arith))).1)))
    (λ g. omega (arith, ap length (encode_none n (past (omega (arith, g))))))
  where
    surrogate : 0xD800 ≤ n → n < 0xE000 → Scalar n → ⊥
    surrogate l h (below k) = omega arith
    surrogate l h (above k m) = omega arith

    past : 0x110000 ≤ n → Scalar n → ⊥
    past l (below k) = omega arith
    past l (above k m) = omega arith

-- what was written to it from its start is there
pub encoded : {d d' : List ℕ} {k : ℕ} (n : ℕ) → length d ≡ 4 → Wrote d 0 (encode n) d' k → take k (drop 0 d') ≡ encode n
encoded {d} {d'} {k} n l w =
    let e = w.is ∙ puts_eq d 0 (encode n) (omega (arith, scalar_or n)) in
    let f : k ≡ length (encode n) = ap (λ (b : Buffer). b.1) e ∙ omega arith in
    ap (λ (b : Buffer). take k (drop 0 b.0)) e ∙ take_at (encode n) (drop (0 + length (encode n)) d) k (sym f)

-- ---- digits in parts

pub digits_on : {x : Bool} (a b : List ℕ) → x ≡ all_digits (a ++ b) → all_digits a ≡ true → x ≡ all_digits b
digits_on a b e t = e ∙ digits_append a b ∙ rw t

pub digits_off : {x : Bool} (a b : List ℕ) → x ≡ all_digits (a ++ b) → all_digits a ≡ false → false ≡ x
digits_off a b e f = sym (e ∙ digits_append a b ∙ rw f)

pub digits_none : all_digits [] ≡ true
digits_none = digits_pass All.none

-- ---- two digits for a byte, in parts

-- the half that is read and the next digit are a byte
held_byte : (h b : ℕ) (l : List ℕ) → h < 16 → unhex (held h (b ∷ l)) ≡ (16 * h + value_of b % 16) ∷ unhex (held 16 l)
unfolding held
held_byte h b l k =
    let v = value_of_digit h k in
    let n : 16 * (value_of (digit_of h) % 16) + value_of b % 16 ≡ 16 * h + value_of b % 16 = omega arith in
    rw (lt-ltb h 16 k) (unhex_two (digit_of h ∷ b ∷ l) 0 (omega arith) ∙ ap (λ (m : ℕ). m ∷ unhex l) n)

-- a digit where no half is read is the half
held_half : (h b : ℕ) (l : List ℕ) → 16 ≤ h → unhex (held h (b ∷ l)) ≡ unhex (held (value_of b % 16) l)
unfolding held
held_half h b [] k = rw (le-ltb h 16 k, lt-ltb (value_of b % 16) 16 (omega arith)) (unhex_ended (b ∷ []) 0 (omega arith) ∙ sym (unhex_ended (digit_of (value_of b % 16) ∷ []) 0 (omega arith)))
held_half h b (c ∷ l) k =
    let v = value_of_digit (value_of b % 16) (omega arith) in
    let n : 16 * (value_of b % 16) + value_of c % 16 ≡ 16 * (value_of (digit_of (value_of b % 16)) % 16) + value_of c % 16 = omega arith in
    rw (le-ltb h 16 k, lt-ltb (value_of b % 16) 16 (omega arith))
    (unhex_two (b ∷ c ∷ l) 0 (omega arith) ∙ ap (λ (m : ℕ). m ∷ unhex l) n ∙ sym (unhex_two (digit_of (value_of b % 16) ∷ c ∷ l) 0 (omega arith)))

-- a half alone is no byte
pub held_end : (h : ℕ) → unhex (held h []) ≡ []
unfolding held
held_end h = pick_by (λ (l : List ℕ). unhex l ≡ []) (ltb h 16) (λ t. unhex_ended (digit_of h ∷ []) 0 (omega arith)) (λ f. unhex_ended [] 0 (omega arith))

-- no half is read yet
pub held_none : (l : List ℕ) → held 16 l ≡ l
unfolding held
held_none l = refl

behind_byte : (h b : ℕ) (l : List ℕ) → h < 16 → half_behind h (b ∷ l) ≡ half_behind 16 l
unfolding half_behind
behind_byte h b l k = rw (lt-ltb h 16 k)

behind_half : (h b : ℕ) (l : List ℕ) → 16 ≤ h → half_behind h (b ∷ l) ≡ half_behind (value_of b % 16) l
unfolding half_behind
behind_half h b l k = rw (le-ltb h 16 k)

pub behind_end : (h : ℕ) → half_behind h [] ≡ h
unfolding half_behind
behind_end h = refl

-- a digit more, where a half is read and where none is
pub digit_byte : (h b : ℕ) → h < 16 → (unhex (held h (b ∷ [])) ≡ (16 * h + value_of b % 16) ∷ []) × (16 ≡ half_behind h (b ∷ []))
digit_byte h b k = (held_byte h b [] k ∙ ap (λ (l : List ℕ). (16 * h + value_of b % 16) ∷ l) (held_end 16), sym (behind_byte h b [] k ∙ behind_end 16))

pub digit_half : (b : ℕ) → (unhex (held 16 (b ∷ [])) ≡ []) × (value_of b % 16 ≡ half_behind 16 (b ∷ []))
digit_half b =
    (held_half 16 b [] (omega arith) ∙ held_end (value_of b % 16), sym (behind_half 16 b [] (omega arith) ∙ behind_end (value_of b % 16)))

pub behind_more : (h b : ℕ) (l : List ℕ) → half_behind h (b ∷ l) ≡ half_behind (half_behind h (b ∷ [])) l
unfolding half_behind
behind_more h b l = refl

-- digits in parts: the half that is left over goes on
pub held_append : (h : ℕ) (a b : List ℕ) → unhex (held h (a ++ b)) ≡ unhex (held h a) ++ unhex (held (half_behind h a) b)
held_append h [] b = ap (λ (k : ℕ). unhex (held k b)) (sym (behind_end h)) ∙ ap (λ (l : List ℕ). l ++ unhex (held (half_behind h []) b)) (sym (held_end h))
held_append h (x ∷ a) b =
    dite (dec_lt h 16)
    (λ k.
    held_byte h x (a ++ b) k
    ∙ ap (λ (l : List ℕ). (16 * h + value_of x % 16) ∷ l) (held_append 16 a b)
    ∙ ap (λ (l : List ℕ). l ++ unhex (held (half_behind 16 a) b)) (sym (held_byte h x a k))
    ∙ ap (λ (m : ℕ). unhex (held h (x ∷ a)) ++ unhex (held m b)) (sym (behind_byte h x a k)))
    (λ g.
    let k : 16 ≤ h = omega (arith, g) in
    held_half h x (a ++ b) k
    ∙ held_append (value_of x % 16) a b
    ∙ ap (λ (l : List ℕ). l ++ unhex (held (half_behind (value_of x % 16) a) b)) (sym (held_half h x a k))
    ∙ ap (λ (m : ℕ). unhex (held h (x ∷ a)) ++ unhex (held m b)) (sym (behind_half h x a k)))

-- ---- the loops over a spelled string that ask of its text

-- whether the text is digits is what the text from i on says
pub record InDigits (t : List ℕ) (i : ℕ) : Type 0 where
  pub same : all_digits (unescape t) ≡ all_digits (unescape (drop i t))

module _ {t : List ℕ} {i : ℕ} (v : InDigits t i) where
  module _ {e : ℕ} {r : Bool} (q : e ≡ backslash_at t i) (a : r ≡ all_digits (take (e - i) (drop i t))) where
    pub digits_run : r ≡ true → InDigits t e
    digits_run y = record {
      same = digits_on (take (e - i) (drop i t)) (unescape (drop e t)) (v.same ∙ ap all_digits (unescape_run t i q)) (sym a ∙ y);
    }

    pub digits_run_off : r ≡ false → false ≡ all_digits (unescape t)
    digits_run_off y = digits_off (take (e - i) (drop i t)) (unescape (drop e t)) (v.same ∙ ap all_digits (unescape_run t i q)) (sym a ∙ y)

  module _ {x : Escape} {r : Bool} (h : i < length t) (s : get_or t i 0 ≡ 0x5C) (f : x ≡ or_itself (escape_at t i)) (a : r ≡ all_digits (encode x.scalar)) where
    pub digits_escape : r ≡ true → InDigits t (i + x.width)
    digits_escape y = record {
      same = digits_on (encode x.scalar) (unescape (drop (i + x.width) t)) (v.same ∙ ap all_digits (unescape_escape t i h s f)) (sym a ∙ y);
    }

    pub digits_escape_off : r ≡ false → false ≡ all_digits (unescape t)
    digits_escape_off y = digits_off (encode x.scalar) (unescape (drop (i + x.width) t)) (v.same ∙ ap all_digits (unescape_escape t i h s f)) (sym a ∙ y)

  pub digits_end : length t ≤ i → true ≡ all_digits (unescape t)
  digits_end h = sym (v.same ∙ ap all_digits (unescape_end t i h) ∙ digits_none)

-- two digits for a byte, over a run and over an escape of a spelled string
pub unhex_run : (t : List ℕ) (i h : ℕ) {e : ℕ} → e ≡ backslash_at t i
    → unhex (held h (unescape (drop i t)))
    ≡ unhex (held h (take (e - i) (drop i t))) ++ unhex (held (half_behind h (take (e - i) (drop i t))) (unescape (drop e t)))
unhex_run t i h {e} q = ap (λ (l : List ℕ). unhex (held h l)) (unescape_run t i q) ∙ held_append h (take (e - i) (drop i t)) (unescape (drop e t))

pub unhex_escape : (t : List ℕ) (i e h : ℕ) {x : Escape} → e ≡ backslash_at t i → e < length t → x ≡ or_itself (escape_at t e)
    → unhex (held h (unescape (drop e t))) ≡ unhex (held h (encode x.scalar)) ++ unhex (held (half_behind h (encode x.scalar)) (unescape (drop (e + x.width) t)))
unhex_escape t i e h {x} q l f =
    ap (λ (l : List ℕ). unhex (held h l)) (turn_text t i e x q l f) ∙ held_append h (encode x.scalar) (unescape (drop (e + x.width) t))

pub unhex_end : (t : List ℕ) (i h : ℕ) → length t ≤ i → unhex (held h (unescape (drop i t))) ≡ []
unhex_end t i h l = ap (λ (m : List ℕ). unhex (held h m)) (unescape_end t i l) ∙ held_end h

-- what is left, with another half of the same value
pub with_half : {d : List ℕ} {at : ℕ} {all d' : List ℕ} {o : ℕ} (h k : ℕ) (l : List ℕ) → k ≡ h → Left d at all d' o (unhex (held h l)) → Left d at all d' o (unhex (held k l))
with_half h k l e v = rw e v
