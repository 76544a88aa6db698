-- The turns of the loop over a string, character after character up to the closing quote.
-- Each premise is what the loop knows. `InText` says that the string read from its start is the string read from here,
-- with fuel enough.
use Prim.Native.Nat.{ℕ, zero, suc, ◌+◌, ◌-◌, ◌<◌, ◌≤◌}
use mathlib.Core.Path.{◌≡◌, refl, sym, ap, ◌∙◌}
use mathlib.Core.List.{List}
use native.Mathlib.Omega.{arith}
use lib.ListN.{length, get_or}
use borrow.Author.Tests.{lt-ltb, le-ltb, eq-eqb, ne_eqb}
use Rattle.scan.specs.Choice.{Answer, refused, Read, read}
use Rattle.scan.proofs.Step.{byte_none}
use Rattle.utf8.specs.inner.Width.{width_at}
use Rattle.jsontext.specs.declared.Spelled.{Spelled}
use Rattle.jsontext.specs.declared.Escape.{Escape}
use Rattle.jsontext.specs.inner.Escape.{no_escape, escape_at}
use Rattle.jsontext.specs.Text.{chars_at, string_at}

-- the string at `start`, read from its start, is the string read from i on with fuel enough
pub record InText (s : List ℕ) (start i : ℕ) : Type 0 where
  pub fuel : ℕ
  pub enough : length s ≤ fuel + i
  pub same : string_at s start ≡ chars_at fuel s start i

-- behind the opening quote
pub text_start : (s : List ℕ) (start b : ℕ) → b ≡ get_or s start 0 → b ≡ 0x22 → InText s start (start + 1)
unfolding string_at
text_start s start b e q = record { fuel = length s; enough = omega arith; same = rw (eq-eqb (get_or s start 0) 0x22 (sym e ∙ q)) }

-- no opening quote
pub text_none : (s : List ℕ) (start b : ℕ) {x : Answer (Read Spelled)} → b ≡ get_or s start 0 → (b ≡ 0x22 → ⊥) → x ≡ refused 14 start → x ≡ string_at s start
unfolding string_at
text_none s start b e q r = r ∙ sym (rw (ne_eqb (get_or s start 0) 0x22 (λ f. q (e ∙ f))))

-- the fuel is not used up before the end
fueled : {s : List ℕ} {start i : ℕ} → InText s start i → i < length s
    → (k : ℕ) × (length s ≤ suc k + i) × (string_at s start ≡ chars_at (suc k) s start i)
fueled {s} {start} {i} v h = go v.fuel v.enough v.same
  where
    go : (k : ℕ) → length s ≤ k + i → string_at s start ≡ chars_at k s start i → (k : ℕ) × (length s ≤ suc k + i) × (string_at s start ≡ chars_at (suc k) s start i)
    go zero e q = absurd (omega arith)
    go (suc k) e q = (k, e, q)

module _ (s : List ℕ) (start i : ℕ) where
  -- the closing quote
  pub text_quote : InText s start i → i < length s → get_or s i 0 ≡ 0x22 → read (record { from = start + 1; count = i - (start + 1) }) (i + 1) ≡ string_at s start
  unfolding chars_at
  text_quote v h q = let f = fueled v h in sym (f.2 ∙ rw (eq-eqb (get_or s i 0) 0x22 q))

  module _ (v : InText s start i) (h : i < length s) (n : get_or s i 0 ≡ 0x22 → ⊥) where
    -- a raw control byte
    pub text_control : {x : Answer (Read Spelled)} → get_or s i 0 < 0x20 → x ≡ refused 14 start → x ≡ string_at s start
    unfolding chars_at
    text_control l r = let f = fueled v h in r ∙ sym (f.2 ∙ rw (ne_eqb (get_or s i 0) 0x22 n, lt-ltb (get_or s i 0) 0x20 l))

    -- a backslash that begins no escape
    pub text_bad_escape : 0x20 ≤ get_or s i 0 → get_or s i 0 ≡ 0x5C → no_escape ≡ escape_at s i → refused 14 start ≡ string_at s start
    unfolding chars_at
    text_bad_escape l q e =
        let f = fueled v h in
        sym (f.2 ∙ rw (ne_eqb (get_or s i 0) 0x22 n, le-ltb (get_or s i 0) 0x20 l, eq-eqb (get_or s i 0) 0x5C q, ← e))

    -- an escape
    pub text_escape : {e : Escape} → 0x20 ≤ get_or s i 0 → get_or s i 0 ≡ 0x5C → e ≡ escape_at s i → (e.width ≡ 0 → ⊥) → InText s start (i + e.width)
    unfolding chars_at
    text_escape {e = x} l q e z =
        let f = fueled v h in
        let w = ap (λ (x : Escape). x.width) (sym e) in
        record {
          fuel = f.0;
          enough = omega (arith, f.1, z);
          same = f.2 ∙ rw (ne_eqb (get_or s i 0) 0x22 n, le-ltb (get_or s i 0) 0x20 l, eq-eqb (get_or s i 0) 0x5C q, w, ne_eqb x.width 0 z);
        }

    -- an ASCII character
    pub text_ascii : 0x20 ≤ get_or s i 0 → (get_or s i 0 ≡ 0x5C → ⊥) → get_or s i 0 < 0x80 → InText s start (i + 1)
    unfolding chars_at
    text_ascii l q a =
        let f = fueled v h in
        record {
          fuel = f.0;
          enough = omega (arith, f.1);
          same = f.2 ∙ rw (ne_eqb (get_or s i 0) 0x22 n, le-ltb (get_or s i 0) 0x20 l, ne_eqb (get_or s i 0) 0x5C q, lt-ltb (get_or s i 0) 0x80 a);
        }

    -- an ill-formed sequence
    pub text_bad_char : {x : Answer (Read Spelled)} {w : ℕ} → 0x20 ≤ get_or s i 0 → (get_or s i 0 ≡ 0x5C → ⊥) → 0x80 ≤ get_or s i 0 → w ≡ width_at s i → w ≡ 0
        → x ≡ refused 5 (start + 1) → x ≡ string_at s start
    unfolding chars_at
    text_bad_char l q a e z r =
        let f = fueled v h in
        r ∙ sym (f.2 ∙ rw (ne_eqb (get_or s i 0) 0x22 n, le-ltb (get_or s i 0) 0x20 l, ne_eqb (get_or s i 0) 0x5C q, le-ltb (get_or s i 0) 0x80 a, ← e, eq-eqb _ _ z))

    -- a sequence
    pub text_char : {w : ℕ} → 0x20 ≤ get_or s i 0 → (get_or s i 0 ≡ 0x5C → ⊥) → 0x80 ≤ get_or s i 0 → w ≡ width_at s i → (w ≡ 0 → ⊥) → InText s start (i + w)
    unfolding chars_at
    text_char l q a e z =
        let f = fueled v h in
        record {
          fuel = f.0;
          enough = omega (arith, f.1, z);
          same = f.2 ∙ rw (ne_eqb (get_or s i 0) 0x22 n, le-ltb (get_or s i 0) 0x20 l, ne_eqb (get_or s i 0) 0x5C q, le-ltb (get_or s i 0) 0x80 a, ← e, ne_eqb _ _ z);
        }

-- the end before the closing quote
pub text_end_lem : (s : List ℕ) (start i : ℕ) {x : Answer (Read Spelled)} → InText s start i → length s ≤ i → x ≡ refused 14 start → x ≡ string_at s start
unfolding chars_at
text_end_lem s start i v h r = r ∙ sym (v.same ∙ go v.fuel)
  where
    go : (k : ℕ) → chars_at k s start i ≡ refused 14 start
    go zero = refl
    go (suc k) = rw (byte_none s i h)

-- a place before the end of a block is within the input
pub before_end : {i e n : ℕ} → i < e → e ≤ n → i < n
before_end h k = omega arith

pub ruleset texts =
    (before_end, text_start, text_none, text_quote, text_control, text_bad_escape, text_escape, text_ascii, text_bad_char, text_char, text_end_lem)
