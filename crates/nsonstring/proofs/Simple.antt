-- A text without a clash is quoted, and shorter by its backslashes; without a byte above ASCII it is UTF-8.
-- By induction over the list with the byte before it: behind a backslash stands the letter of an escape, else a bare
-- byte or a backslash.
use Prim.Native.Nat.{ℕ, suc, ◌+◌, ◌-◌, ◌<◌, ◌≤◌}
use mathlib.Core.Path.{◌≡◌, sym, ap, ◌∙◌}
use mathlib.Core.List.{List, [], ◌∷◌}
use mathlib.Core.Logic.{dite, ◌⊎◌, inl, inr}
use native.Mathlib.Nat.{zero-add}
use native.Mathlib.Omega.{arith}
use native.Mathlib.Decide.{ℕ_discrete}
use lib.ListN.{length, get_or}
use Rattle.scan.specs.Bytes.{All, also}
use Rattle.utf8.specs.Utf8.{Utf8}
use Rattle.utf8.proofs.Laws.{utf8_ascii}
use Rattle.escape.specs.inner.Quoted.{Quoted, none, bare, escape, NsonBare, nson_bare, NsonLetter, letter_n, letter_quote}
use Rattle.jsontext.specs.Grammar as json
use Rattle.jsontext.specs.inner.Escape.{unescape}
use Rattle.scan.specs.inner.Blocks.{neighbours}
use Rattle.jsontext.proofs.Meaning.{unescape_none, unescape_byte, unescape_char}
use Rattle.jsonunescape.proofs.Unescape.{unescape_end}
use Rattle.scan.proofs.BlockLaws.{one_is, one_not}
use Rattle.jsonstring.specs.inner.Loose.{clash_of}
use Rattle.jsonstring.proofs.ClashLaws.{clash_bare, clash_letter}
use Rattle.nsonstring.specs.Counted.{fault_in}
use Rattle.nsonstring.specs.inner.Simple.{slash_of, high_of, Simple}
use Rattle.nsonstring.proofs.Faults.{faultless, fault_end}

-- ---- one byte

-- no escape begins before the first byte
pub slash_space : (b : ℕ) → slash_of 0x20 b ≡ 0
unfolding slash_of
slash_space b = one_not 0x20 0x5C (λ e. omega arith)

-- ---- the whole text

-- quoted, and n bytes longer than what it spells
pub record Sound (l : List ℕ) (n : ℕ) : Type 0 where
  pub quoted : Quoted NsonBare NsonLetter l
  pub longer : length (unescape l) + n ≡ length l

-- what stands behind p: by itself, or with p where that is a backslash
record Behind (p : ℕ) (l : List ℕ) (n : ℕ) : Type 0 where
  plain : (p ≡ 0x5C → ⊥) → Sound l n
  slash : p ≡ 0x5C → Sound (0x5C ∷ l) n

sound_none : Sound [] 0
sound_none = record { quoted = none; longer = ap (λ (l : List ℕ). length l + 0) unescape_none }

sound_bare : {b : ℕ} {l : List ℕ} {n : ℕ} → NsonBare b → Sound l n → Sound (b ∷ l) n
sound_bare {b} {l} {n} (nson_bare h q m) s =
    record { quoted = bare (nson_bare h q m) s.quoted; longer = omega (arith, s.longer, ap length (unescape_byte m l)) }

-- an escape of one letter spells one byte
sound_escape : {c b : ℕ} {l : List ℕ} {n : ℕ} → NsonLetter c → json.Letter c b → Sound l n → Sound (0x5C ∷ c ∷ l) (1 + n)
sound_escape {l = l} g j s = record { quoted = escape g s.quoted; longer = omega (arith, s.longer, ap length (unescape_char (json.letter j) l)) }

sound_letter : {b : ℕ} {l : List ℕ} {n : ℕ} → (b ≡ 0x6E) ⊎ (b ≡ 0x22) → Sound l n → Sound (0x5C ∷ b ∷ l) (1 + n)
sound_letter (inl e) s = rw e (sound_escape letter_n json.line_feed s)
sound_letter (inr e) s = rw e (sound_escape letter_quote json.quotation_mark s)

letter_other : {b : ℕ} → (b ≡ 0x6E) ⊎ (b ≡ 0x22) → b ≡ 0x5C → ⊥
letter_other (inl e) f = omega arith
letter_other (inr e) f = omega arith

by_byte : (p b : ℕ) (l : List ℕ) (n : ℕ) → clash_of p b ≡ 0 → Behind b l n → Behind p (b ∷ l) (slash_of p b + n)
unfolding slash_of
by_byte p b l n z r = record {
  plain = λ k.
      let u = clash_bare p b k z in
      rw (one_not p 0x5C k, zero-add) (dite (ℕ_discrete b 0x5C) (λ e. let q = r.slash e in rw e q) (λ m. sound_bare (nson_bare u.1 u.0 m) (r.plain m)));
  slash = λ e. let u = clash_letter p b e z in rw (one_is p 0x5C e) (sound_letter u (r.plain (letter_other u)));
}

behind : (p : ℕ) (l : List ℕ) → neighbours clash_of p l ≡ 0 → (get_or (p ∷ l) (length l) 0 ≡ 0x5C → ⊥) → Behind p l (neighbours slash_of p l)
unfolding neighbours
behind p [] z n = record { plain = λ k. sound_none; slash = λ e. absurd (n e) }
behind p (b ∷ l) z n = by_byte p b l (neighbours slash_of b l) (omega arith) (behind b l (omega arith) n)

pub simple_sound : (t : List ℕ) {n h : ℕ} → Simple t n h → Sound t n
simple_sound [] s = rw s.escapes ((behind 0x20 [] s.clashes (λ e. omega arith)).plain (λ e. omega arith))
simple_sound (b ∷ l) s =
    let k : suc (length l) - 1 ≡ length l = omega arith in
    rw s.escapes ((behind 0x20 (b ∷ l) s.clashes (λ e. s.ended (ap (λ (j : ℕ). get_or (b ∷ l) j 0) k ∙ e))).plain (λ e. omega arith))

-- no byte above ASCII
ascii : (p : ℕ) (l : List ℕ) → neighbours high_of p l ≡ 0 → All (λ (b : ℕ). b < 0x80) l
unfolding neighbours high_of
ascii p [] z = All.none
ascii p (b ∷ l) z = also {b = b} (omega arith) (ascii b l (omega arith))

pub simple_ascii : {t : List ℕ} {n h : ℕ} → Simple t n h → h ≡ 0 → Utf8 t
simple_ascii {t} s z = utf8_ascii (ascii 0x20 t (sym s.above ∙ z))

-- ---- what the look answers

-- the empty text has no fault and spells nothing
pub none_fault : (t : List ℕ) → length t ≡ 0 → 0 ≡ fault_in t
none_fault t z = sym (fault_end t 0 (omega arith))

pub none_len : (t : List ℕ) → length t ≡ 0 → 0 ≡ length (unescape t)
none_len t z = sym (ap length (unescape_end t 0 (omega arith)))

-- a text has no fewer bytes than escapes
pub simple_most : {t : List ℕ} {n h : ℕ} → Simple t n h → n ≤ length t
simple_most {t} s = omega (arith, (simple_sound t s).longer)

-- a simple text that is UTF-8 has no fault, and is longer than what it spells by its escapes
pub simple_fault : {t : List ℕ} {n h : ℕ} → Simple t n h → Utf8 t → 0 ≡ fault_in t
simple_fault {t} s u = sym (faultless (simple_sound t s).quoted u)

pub simple_len : {t : List ℕ} {n h : ℕ} → Simple t n h → length t - n ≡ length (unescape t)
simple_len {t} s = omega (arith, (simple_sound t s).longer)

pub ruleset seen = (none_fault, none_len, simple_most, simple_len)
