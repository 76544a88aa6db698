-- A backslash with a letter behind it: a turn of `put_spelled` that needs no more than the letter.
-- The letter's escape is the escape at that place, and what it stands for is one byte.
use Prim.Native.Nat.{ℕ, ◌+◌, ◌-◌, ◌<◌, ◌^◌}
use mathlib.Core.Path.{◌≡◌, refl, sym, ◌∙◌}
use mathlib.Core.List.{List, [], ◌∷◌}
use native.Mathlib.Omega.{arith}
use lib.ListN.{length, get_or, drop}
use borrow.Author.Tests.{ne_eqb}
use mir.Syntax.{w64}
use mir.Val.{Fits}
use Rattle.utf8.specs.Encode.{encode}
use Rattle.utf8.proofs.EncodeLaws.{encode_one}
use Rattle.jsontext.specs.inner.Escape.{escape, unescaped_letter, letter_escape, escape_at, or_itself, unescape}
use Rattle.jsonunescape.specs.inner.Run.{backslash_at}
use Rattle.jsontext.proofs.EscapeLaws.{LetterOf, letter_is, no_letter, of_letter, letter_small}
use Rattle.jsonunescape.proofs.Unescape.{turn_fits, turn_less, turn_text}

-- it is not u, and what it stands for is ASCII
letter_facts : (c : ℕ) → (unescaped_letter c ≡ 0 → ⊥) → (c < 0x75) × (unescaped_letter c < 0x80)
letter_facts c = go (of_letter c)
  where
    go : {b : ℕ} → LetterOf c b → (b ≡ 0 → ⊥) → (c < 0x75) × (b < 0x80)
    go (letter_is l) n = let s = letter_small l in (s.3, s.1)
    go no_letter n = absurd (n refl)

-- the letter c, which stands for b, behind the backslash at e
module _ (t : List ℕ) (e c b : ℕ) (f : c ≡ get_or t (e + 1) 0) (g : b ≡ unescaped_letter c) (n : b ≡ 0 → ⊥) where
  small : (c < 0x75) × (b < 0x80)
  small = let s = letter_facts c (λ z. n (g ∙ z)) in (s.0, rw g s.1)

  pub letter_at : escape 2 b ≡ or_itself (escape_at t e)
  unfolding escape_at letter_escape or_itself
  letter_at = sym (rw (← f, ne_eqb c 0x75 (λ z. omega (arith, small, z)), ← g, ne_eqb b 0 n))

  pub letter_one : encode b ≡ b ∷ []
  letter_one = encode_one b small.1

-- the same at the end e of the run from i on
module _ (t : List ℕ) (i e c b : ℕ) (q : e ≡ backslash_at t i) (h : e < length t) (f : c ≡ get_or t (e + 1) 0) (g : b ≡ unescaped_letter c) (n : b ≡ 0 → ⊥) where
  pub letter_fits : length t < 2 ^ 64 → Fits w64 (e + 2)
  letter_fits l = turn_fits t i e (escape 2 b) q h (letter_at t e c b f g n) l

  pub letter_less : i < length t → length t - (e + 2) < length t - i
  letter_less l = turn_less t i e (escape 2 b) q h (letter_at t e c b f g n) l

  pub letter_text : unescape (drop e t) ≡ b ∷ unescape (drop (e + 2) t)
  letter_text = turn_text t i e (escape 2 b) q h (letter_at t e c b f g n) ∙ rw (letter_one t e c b f g n) refl

pub ruleset letter_steps = (letter_fits, letter_less)
