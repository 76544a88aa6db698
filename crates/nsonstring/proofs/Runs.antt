-- The fast look from backslash to backslash: bare bytes and an escape before a quoted text are quoted.
-- `Before t i`: if the text from i on is quoted, the whole is. A turn of the loop is one law.
use Prim.Native.Nat.{ℕ, ◌+◌, ◌-◌, ◌<◌, ◌≤◌}
use mathlib.Core.Path.{◌≡◌, sym, ap, ◌∙◌}
use mathlib.Core.Bool.{Bool, true}
use mathlib.Core.List.{List, ◌∷◌, ◌++◌}
use native.Mathlib.Omega.{arith}
use lib.ListN.{length, get_or, take, drop}
use Rattle.scan.specs.Bytes.{All, also}
use Rattle.scan.proofs.Step.{rest_none, rest_more, rest_block}
use Rattle.escape.specs.inner.Quoted.{Quoted, none, bare, escape, NsonBare, NsonLetter}
use Rattle.jsonunescape.specs.inner.Run.{backslash_at}
use Rattle.jsonunescape.proofs.Unescape.{run_onward, run_slash}
use Rattle.nsonstring.specs.Counted.{is_letter}
use Rattle.nsonstring.proofs.Faults.{test_letter, letter_place}

pub record Before (t : List ℕ) (i : ℕ) : Type 0 where
  pub back : Quoted NsonBare NsonLetter (drop i t) → Quoted NsonBare NsonLetter t

pub at_start : (t : List ℕ) → Before t 0
at_start t = record { back = λ q. q }

all_bare : {a l : List ℕ} → All NsonBare a → Quoted NsonBare NsonLetter l → Quoted NsonBare NsonLetter (a ++ l)
all_bare All.none q = q
all_bare (also h r) q = bare h (all_bare r q)

-- bare bytes are passed
after_run : {t : List ℕ} {i : ℕ} (e : ℕ) → e ≡ backslash_at t i → All NsonBare (take (e - i) (drop i t)) → Before t i → Before t e
after_run {t} {i} e q b p = record { back = λ r. p.back (rw (rest_block t i e (run_onward t i q)) (all_bare b r)) }

-- an escape is passed
after_escape : {t : List ℕ} {e : ℕ} → e < length t → get_or t e 0 ≡ 0x5C → is_letter (get_or t (e + 1) 0) ≡ true → Before t e → Before t (e + 2)
after_escape {t} {e} h s g p =
    let c = get_or t (e + 1) 0 in
    let k : e + 1 + 1 ≡ e + 2 = omega arith in
    let m : drop (e + 1) t ≡ c ∷ drop (e + 2) t = rest_more t (e + 1) (letter_place t (e + 1) g) ∙ ap (λ (j : ℕ). c ∷ drop j t) k in
    let q : drop e t ≡ 0x5C ∷ (c ∷ drop (e + 2) t) = rest_more t e h ∙ ap (λ (b : ℕ). b ∷ drop (e + 1) t) s ∙ ap (λ (l : List ℕ). 0x5C ∷ l) m in
    record { back = λ r. p.back (rw q (escape (test_letter c g) r)) }

-- a turn: a run and the escape behind it
pub turn_inside : (t : List ℕ) (e : ℕ) {b : ℕ} {l : Bool} → b ≡ get_or t (e + 1) 0 → l ≡ is_letter b → l ≡ true → e + 2 ≤ length t
turn_inside t e b l g = let n = letter_place t (e + 1) (ap is_letter (sym b) ∙ sym l ∙ g) in omega arith

pub turn : {t : List ℕ} {i : ℕ} {part : List ℕ} {b : ℕ} {l : Bool} (e : ℕ) → e ≡ backslash_at t i → part ≡ take (e - i) (drop i t) → All NsonBare part → e < length t
    → b ≡ get_or t (e + 1) 0 → l ≡ is_letter b → l ≡ true → Before t i → Before t (e + 2)
turn {t} {i} e q r a h b l g p = after_escape h (run_slash t i q h) (ap is_letter (sym b) ∙ sym l ∙ g) (after_run e q (rw r at a) p)

-- nothing is left
pub at_end : {t : List ℕ} {i : ℕ} → length t ≤ i → Before t i → Quoted NsonBare NsonLetter t
at_end {t} {i} h p = p.back (rw (rest_none t i h) none)

-- a run up to the end
pub run_end : {t : List ℕ} {i : ℕ} (e : ℕ) → e ≡ backslash_at t i → All NsonBare (take (e - i) (drop i t)) → length t ≤ e → Before t i → Quoted NsonBare NsonLetter t
run_end e q b h p = at_end h (after_run e q b p)

pub ruleset runs = (run_onward, at_start, turn_inside, turn, at_end, run_end)
