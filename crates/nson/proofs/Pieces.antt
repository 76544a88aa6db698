-- The pieces of the reading, each in both directions: shown exactly where its spelling is a span of the input.
-- By the laws of the fixed byte string, of hex and of decimal spellings; each piece ends where its span ends.
use Prim.Native.Nat.{ℕ, ◌+◌}
use mathlib.Core.Path.{◌≡◌, sym, ap, ◌∙◌}
use mathlib.Core.List.{List}
use lib.ListN.{length}
use borrow.Author.Tests.{eqb-true, eq-eqb}
use Rattle.scan.specs.Choice.{shown, Read, read}
use Rattle.scan.specs.Bytes.{All}
use Rattle.scan.specs.inner.Span.{Span}
use Rattle.scan.proofs.Step.{pick_true}
use Rattle.scan.proofs.SpanLaws.{span_length, part_of_span, span_of_part}
use Rattle.scan.proofs.PlaceLaws.{stands_span, span_stands}
use Rattle.scan.proofs.Reading.{read_same}
use Rattle.scan.proofs.Many.{pick_shown, shown_same}
use Rattle.hexdigits.specs.inner.LowerHex.{LowerHex}
use Rattle.hexdigits.proofs.Texts.{digits_pass, pass_digits}
use Rattle.decimal.specs.Decimal.{decimal, number_of}
use Rattle.decimal.proofs.Spelling.{number_decimal}
use Rattle.scan.proofs.CompareLaws.{same_same, bytes_same}
use Rattle.nson.specs.Read.{piece_at, part_at, hex_at, is_decimal, decimal_at}

-- ---- a fixed piece

pub piece_shown : (number : ℕ) (w s : List ℕ) (at p : ℕ) → piece_at number w s at ≡ shown p → Span s at w p
unfolding piece_at
piece_shown number w s at p e =
    let u = pick_shown _ _ number at p e in
    let f : at + length w ≡ p = shown_same u.1 in
    rw f at (stands_span w s at u.0)

pub piece_accepts : {w s : List ℕ} {at p : ℕ} (number : ℕ) → Span s at w p → piece_at number w s at ≡ shown p
unfolding piece_at
piece_accepts number r = rw (span_stands r) (ap shown (sym (span_length r)))

-- ---- hex digits

-- n hex digits stand between two places
pub record HexHere (n : ℕ) (s : List ℕ) (at p : ℕ) : Type 0 where
  pub span : Span s at (part_at n s at) p
  pub count : length (part_at n s at) ≡ n
  pub digits : All LowerHex (part_at n s at)

pub hex_shown : (n : ℕ) (s : List ℕ) (at p : ℕ) → hex_at n s at ≡ shown p → HexHere n s at p
unfolding hex_at
hex_shown n s at p e =
    let l = part_at n s at in
    let u = pick_shown _ _ 12 at p e in
    let v = pick_shown _ _ 12 at p u.1 in
    let c = eqb-true (length l) n u.0 in
    let f : at + n ≡ p = shown_same v.1 in
    record { span = rw f at (span_of_part s at n c); count = c; digits = pass_digits l v.0 }

pub hex_accepts : {s l : List ℕ} {at p : ℕ} (n : ℕ) → Span s at l p → length l ≡ n → All LowerHex l → hex_at n s at ≡ shown p
unfolding hex_at
hex_accepts {s} {l} {at} {p} n r e d =
    let f : at + n ≡ p = ap (λ (k : ℕ). at + k) (sym e) ∙ sym (span_length r) in
    rw (part_of_span n e r, eq-eqb (length l) n e, digits_pass d) (ap shown f)

-- ---- a number in so many digits

pub decimal_shown : (number n : ℕ) (s : List ℕ) (at : ℕ) (v : Read ℕ) → decimal_at number n s at ≡ shown v
    → (length (decimal v.value) ≡ n) × Span s at (decimal v.value) v.next
unfolding decimal_at is_decimal
decimal_shown number n s at v e =
    let l = part_at n s at in
    let u = pick_shown _ _ number at v e in
    let t = pick_true _ _ u.0 in
    let c = eqb-true (length l) n t.0 in
    let f = read_same u.1 in
    let d : l ≡ decimal v.value = bytes_same l (decimal (number_of l)) t.1 ∙ ap decimal f.0 in
    (ap length (sym d) ∙ c, rw (d, f.1) at (span_of_part s at n c))

pub decimal_accepts : {s : List ℕ} {at c : ℕ} (number n x : ℕ) → Span s at (decimal x) c → length (decimal x) ≡ n → decimal_at number n s at ≡ read x c
unfolding decimal_at is_decimal
decimal_accepts {s} {at} {c} number n x r e =
    let f : at + n ≡ c = ap (λ (k : ℕ). at + k) (sym e) ∙ sym (span_length r) in
    rw (part_of_span n e r, eq-eqb (length (decimal x)) n e, number_decimal x, same_same (decimal x)) (ap (read x) f)
