-- The turns of the loop over characters: `At t i`, the earliest fault of the whole is the earliest from place i on.
-- Each premise is what the loop knows; each law is one step law of `Faults`.
use Prim.Native.Nat.{ℕ, ◌+◌, ◌<◌, ◌≤◌}
use mathlib.Core.Path.{◌≡◌, refl, sym, ap, ◌∙◌}
use mathlib.Core.Bool.{Bool, true, false}
use mathlib.Core.List.{List}
use native.Mathlib.Omega.{arith}
use lib.ListN.{length, get_or, drop}
use Rattle.utf8.specs.inner.Width.{width_at}
use Rattle.utf8.proofs.WidthLaws.{width_within}
use Rattle.nsonstring.specs.Counted.{is_letter, fault_in}
use Rattle.nsonstring.proofs.Faults.{letter_place, fault_end, fault_quote, fault_control, fault_letter, fault_escape, fault_ill, fault_width}

pub record At (t : List ℕ) (i : ℕ) : Type 0 where
  pub inside : i ≤ length t
  pub same : fault_in t ≡ fault_in (drop i t)

pub at_start : (t : List ℕ) → At t 0
at_start t = record { inside = omega arith; same = refl }

module _ (t : List ℕ) (i : ℕ) (v : At t i) where
  pub end_all : length t ≤ i → 0 ≡ fault_in t
  end_all h = sym (v.same ∙ fault_end t i h)

  pub end_quote : i < length t → get_or t i 0 ≡ 0x22 → 13 ≡ fault_in t
  end_quote h e = sym (v.same ∙ fault_quote t i h e)

  pub end_control : i < length t → get_or t i 0 < 0x20 → 14 ≡ fault_in t
  end_control h e = sym (v.same ∙ fault_control t i h e)

module _ (t : List ℕ) (i : ℕ) (b : ℕ) (l : Bool) (v : At t i) (h : i < length t) (e : get_or t i 0 ≡ 0x5C) (q : b ≡ get_or t (i + 1) 0) (k : l ≡ is_letter b) where
  letter_is : is_letter (get_or t (i + 1) 0) ≡ l
  letter_is = ap is_letter (sym q) ∙ sym k

  pub end_escape : l ≡ false → 14 ≡ fault_in t
  end_escape f = sym (v.same ∙ fault_escape t i h e (letter_is ∙ f))

  pub on_escape : l ≡ true → At t (i + 2)
  on_escape f =
      let n = letter_place t (i + 1) (letter_is ∙ f) in
      record { inside = omega arith; same = v.same ∙ fault_letter t i h e (letter_is ∙ f) }

module _ (t : List ℕ) (i : ℕ) (w : ℕ) (v : At t i) (h : i < length t) (a : get_or t i 0 ≡ 0x22 → ⊥) (b : 0x20 ≤ get_or t i 0) (c : get_or t i 0 ≡ 0x5C → ⊥) (k : w ≡ width_at t i) where
  pub end_ill : w ≡ 0 → 5 ≡ fault_in t
  end_ill z = sym (v.same ∙ fault_ill t i h a b c (sym k ∙ z))

  pub on_char : (w ≡ 0 → ⊥) → At t (i + w)
  on_char n =
      let m : width_at t i ≡ 0 → ⊥ = λ z. n (k ∙ z) in
      rw k (record { inside = width_within t i m; same = v.same ∙ fault_width t i h a b c m })

pub ruleset turns = (end_all, end_quote, end_control, end_escape, on_escape, end_ill, on_char)
