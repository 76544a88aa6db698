-- A text is no longer than its spelling; what has no backslash is its own text.
-- By induction over what is left: a byte that is no backslash, or an escape, which stands for no more than it takes.
use Prim.Native.Nat.{ℕ, zero, suc, ◌+◌, ◌*◌, ◌-◌, ◌/◌, ◌≤◌}
use mathlib.Core.Path.{◌≡◌, refl, sym, ap, ◌∙◌}
use mathlib.Core.Bool.{Bool, true, false}
use mathlib.Core.List.{List, ◌++◌}
use mathlib.Core.Logic.{dite}
use native.Mathlib.Omega.{arith}
use native.Mathlib.Decide.{dec_lt, ℕ_discrete}
use lib.ListN.{length, get_or, take, drop, length-take, length-drop}
use Rattle.scan.proofs.Step.{rest_more}
use Rattle.scan.proofs.AllLaws.{all_map}
use Rattle.jsontext.specs.inner.Escape.{escape_at, or_itself, unescape}
use Rattle.jsonunescape.specs.inner.Run.{backslash_at}
use Rattle.jsontext.proofs.Meaning.{unescape_byte, unescape_itself}
use Rattle.jsonunescape.proofs.Unescape.{unescape_end, taken, length_escape, unescape_whole}
use Rattle.varint.specs.Uleb.{uleb}
use Rattle.hexdigits.specs.Hex.{unhex, goes_as_bytes}
use Rattle.hexdigits.specs.inner.LowerHex.{number, letter, LowerHex}
use Rattle.hexdigits.proofs.Texts.{go_digits}
use Rattle.notepack.specs.Strict.{pack_element}
use Rattle.notepack.proofs.Lengths.{element_bytes, element_text, length_as_bytes, length_as_text}

length_from : (k : ℕ) (t : List ℕ) (i : ℕ) → length t ≤ i + k → length (unescape (drop i t)) ≤ length t - i
length_from zero t i h = let e = ap length (unescape_end t i (omega arith)) in omega arith
length_from (suc k) t i h =
    dite (dec_lt i (length t))
    (λ l.
    dite (ℕ_discrete (get_or t i 0) 0x5C)
    (λ e.
    let x = or_itself (escape_at t i) in
    let u = taken t i l e refl in
    let r = length_from k t (i + x.width) (omega (arith, u.some)) in
    omega (arith, length_escape t i l e refl, u.some, u.inside, u.shorter, r))
    (λ n.
    let r = length_from k t (i + 1) (omega arith) in
    let e = ap length (ap unescape (rest_more t i l) ∙ unescape_byte n (drop (i + 1) t)) in
    omega arith))
    (λ g. let e = ap length (unescape_end t i (omega (arith, g))) in omega arith)

-- a text is no longer than its spelling
pub length_unescape : (t : List ℕ) → length (unescape t) ≤ length t
length_unescape t = let m : length (unescape t) ≤ length t - 0 = length_from (length t) t 0 (omega arith) in omega arith

digit_plain : (b : ℕ) → LowerHex b → b ≡ 0x5C → ⊥
digit_plain b (number l h) e = omega arith
digit_plain b (letter l h) e = omega arith

-- digits are no backslash: what goes as bytes is its own text
digits_text : (t : List ℕ) → goes_as_bytes t ≡ true → unescape t ≡ t
digits_text t g = unescape_itself (all_map digit_plain (go_digits t g).2)

-- the element of a part that is its own text
module _ {t l : List ℕ} {g : Bool} (p : t ≡ l) (a : g ≡ goes_as_bytes t) where
  -- it goes as bytes
  module _ (h : g ≡ true) where
    own_digits : pack_element (unescape l) ≡ pack_element t
    own_digits = ap pack_element (ap unescape (sym p) ∙ digits_text t (sym a ∙ h))

    pub digits_element : pack_element (unescape l) ≡ uleb (2 * (length t / 2) + 1) ++ unhex t
    digits_element = own_digits ∙ element_bytes t g a h

    pub digits_length : length (pack_element (unescape l)) ≡ length (uleb (2 * (length t / 2) + 1)) + length t / 2
    digits_length = ap length own_digits ∙ length_as_bytes t g a h

  -- it doesn't, and has no backslash
  module _ (h : g ≡ false) {e : ℕ} (q : e ≡ backslash_at t 0) (k : length t ≤ e) where
    own_plain : pack_element (unescape l) ≡ pack_element t
    own_plain = ap pack_element (ap unescape (sym p) ∙ unescape_whole t q k)

    pub plain_element : pack_element (unescape l) ≡ uleb (2 * length t) ++ t
    plain_element = own_plain ∙ element_text t g a h

    pub plain_length : length (pack_element (unescape l)) ≡ length (uleb (2 * length t)) + length t
    plain_length = ap length own_plain ∙ length_as_text t g a h

-- a part of n bytes has at most n, and no more than the input
pub part_most : (s : List ℕ) (from n : ℕ) → (length (take n (drop from s)) ≤ n) × (length (take n (drop from s)) ≤ length s)
part_most s from n = (simp (length-take, length-drop) (omega arith), simp (length-take, length-drop) (omega arith))

-- the text of n bytes is no longer than n, nor than the input
pub text_most : (s : List ℕ) (from n : ℕ) {k : ℕ} → k ≡ length (unescape (take n (drop from s))) → (k ≤ n) × (k ≤ length s)
text_most s from n q =
    let m = length_unescape (take n (drop from s)) in
    let p = part_most s from n in
    (omega arith, omega arith)

-- the element's form, by the length that was measured
module _ (t : List ℕ) {k : ℕ} {g : Bool} (q : k ≡ length t) (a : g ≡ goes_as_bytes t) where
  pub as_bytes : g ≡ true → pack_element t ≡ uleb (2 * (k / 2) + 1) ++ unhex t
  as_bytes h = rw q (element_bytes t g a h)

  pub as_text : g ≡ false → pack_element t ≡ uleb (2 * k) ++ t
  as_text h = rw q (element_text t g a h)

  pub bytes_length : g ≡ true → length (pack_element t) ≡ length (uleb (2 * (k / 2) + 1)) + k / 2
  bytes_length h = rw q (length_as_bytes t g a h)

  pub text_length : g ≡ false → length (pack_element t) ≡ length (uleb (2 * k)) + k
  text_length h = rw q (length_as_text t g a h)
