-- Strings of digits are their own text, by the laws of crate jsonstring.
use Prim.Native.Nat.{ℕ, ◌*◌}
use mathlib.Core.Path.{◌≡◌, sym, ap, ◌∙◌}
use mathlib.Core.Bool.{Bool, true}
use lib.ListN.{length}
use borrow.Author.Tests.{eq-eqb}
use Rattle.hexdigits.specs.Hex.{goes_as_bytes}
use Rattle.hexdigits.proofs.Texts.{digits_pass, go_digits}
use Rattle.event.specs.Event.{Text}
use Rattle.jsontext.specs.inner.Escape.{unescape}
use Rattle.jsonstring.proofs.PlainLaws.{digits_own}
use Rattle.jsonevent.specs.Field.{is_hex_of}

pub hex_plain : (n : ℕ) (t : Text) {g : Bool} → length t ≡ 2 * n → g ≡ goes_as_bytes t → g ≡ true → true ≡ is_hex_of n (unescape t)
unfolding is_hex_of
hex_plain n t {g} h e f =
    let d = go_digits t (sym e ∙ f) in
    rw (digits_own d.2, eq-eqb (length t) (2 * n) h) (sym (digits_pass d.2))

pub hex_spelled : (n : ℕ) (t : Text) {l : Text} {g : Bool} → l ≡ t → length l ≡ 2 * n → g ≡ goes_as_bytes l → g ≡ true → true ≡ is_hex_of n (unescape t)
hex_spelled n t {l} {g} q h e f = hex_plain n t (sym (ap length q) ∙ h) (e ∙ ap goes_as_bytes q) f
