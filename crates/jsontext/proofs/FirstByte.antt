-- The first byte of a value or a name: no white space and no closing bracket; so each of them takes a byte or more.
-- By cases on the grammar.
use Prim.Native.Nat.{ℕ, ◌<◌, ◌≤◌}
use mathlib.Core.Path.{◌≡◌, refl}
use mathlib.Core.Bool.{false}
use mathlib.Core.List.{List, ◌∷◌, ◌++◌}
use native.Mathlib.Omega.{arith}
use lib.ListN.{length, get_or}
use lib.Dec.{eqb}
use borrow.Author.Tests.{ne_eqb}
use Rattle.scan.specs.inner.Span.{step, Span}
use Rattle.scan.proofs.SpanLaws.{span_length, span_fits}
use Rattle.jsontext.specs.Grammar as json
use Rattle.jsontext.specs.Token.{is_space}

-- the first byte of a value or a name is no white space and no closing bracket
pub record First (b : ℕ) : Type 0 where
  pub solid : is_space b ≡ false
  pub no_bracket : eqb b 0x5D ≡ false
  pub no_brace : eqb b 0x7D ≡ false

first_minus : First 0x2D
unfolding is_space
first_minus = record { solid = refl; no_bracket = refl; no_brace = refl }

first_quote : First 0x22
unfolding is_space
first_quote = record { solid = refl; no_bracket = refl; no_brace = refl }

first_digit : (b : ℕ) → 0x30 ≤ b → b ≤ 0x39 → First b
unfolding is_space
first_digit b l h = record {
  solid =
      simp (ne_eqb b 0x20 (λ e. omega arith), ne_eqb b 0x0A (λ e. omega arith), ne_eqb b 0x0D (λ e. omega arith), ne_eqb b 0x09 (λ e. omega arith));
  no_bracket = ne_eqb b 0x5D (λ e. omega arith);
  no_brace = ne_eqb b 0x7D (λ e. omega arith);
}

-- a list that begins with such a byte
pub data Begins : List ℕ → Type 0 where
  begins : {b : ℕ} {l : List ℕ} → First b → Begins (b ∷ l)

begins_number : {l : List ℕ} → json.Number l → Begins l
begins_number (json.Number.number json.no_minus json.zero f e) = begins (first_digit 0x30 (omega arith) (omega arith))
begins_number (json.Number.number json.no_minus (json.digit1_9 {b = b} l h m) f e) = begins (first_digit b (omega arith) h)
begins_number (json.Number.number json.minus i f e) = begins first_minus

pub begins_value : {v : json.Json} {l : List ℕ} → json.Spells v l → Begins l
unfolding is_space
begins_value json.is_false = begins (record { solid = refl; no_bracket = refl; no_brace = refl })
begins_value json.is_null = begins (record { solid = refl; no_bracket = refl; no_brace = refl })
begins_value json.is_true = begins (record { solid = refl; no_bracket = refl; no_brace = refl })
begins_value (json.empty_object w) = begins (record { solid = refl; no_bracket = refl; no_brace = refl })
begins_value (json.is_object w m x) = begins (record { solid = refl; no_bracket = refl; no_brace = refl })
begins_value (json.empty_array w) = begins (record { solid = refl; no_bracket = refl; no_brace = refl })
begins_value (json.is_array w i x) = begins (record { solid = refl; no_bracket = refl; no_brace = refl })
begins_value (json.is_number n) = begins_number n
begins_value (json.is_string (json.quoted g)) = begins first_quote

begins_append : {l : List ℕ} → Begins l → (m : List ℕ) → Begins (l ++ m)
begins_append (begins f) m = begins f

pub begins_items : {i : json.Items} {l : List ℕ} → json.SpellsItems i l → Begins l
begins_items (json.last_item g) = begins_value g
begins_items (json.more_items g c r) = begins_append (begins_value g) _

pub begins_member : {n : List ℕ} {v : json.Json} {l : List ℕ} → json.SpellsMember n v l → Begins l
begins_member (json.is_member (json.quoted q) c g) = begins first_quote

pub begins_members : {m : json.Members} {l : List ℕ} → json.SpellsMembers m l → Begins l
begins_members (json.last_member g) = begins_member g
begins_members (json.more_members g c r) = begins_append (begins_member g) _

pub first_at : {s l : List ℕ} {a c : ℕ} → Begins l → Span s a l c → First (get_or s a 0)
first_at (begins f) (step h e r) = rw e f

pub number_first : {s l : List ℕ} {a c : ℕ} → json.Number l → Span s a l c → (0x2D ≤ get_or s a 0) × (get_or s a 0 ≤ 0x39)
number_first (json.Number.number json.no_minus json.zero f e) (step h q r) = (omega arith, omega arith)
number_first (json.Number.number json.no_minus (json.digit1_9 l h m) f e) (step k q r) = (omega arith, omega arith)
number_first (json.Number.number json.minus i f e) (step h q r) = (omega arith, omega arith)

-- what begins with a byte takes one or more, within the input
pub some_bytes : {s l : List ℕ} {a e : ℕ} → Begins l → Span s a l e → (a < e) × (e ≤ length s)
some_bytes (begins f) (step h q r) = (omega (arith, span_length r), omega (arith, h, span_length r, span_fits r))
