-- A JSON text spells at most one value, and characters as they are spelled stand for one text.
-- White space before the value ends where the value begins, so two values of one text start alike.
use Prim.Native.Nat.{ℕ}
use mathlib.Core.Path.{◌≡◌, sym, ◌∙◌}
use mathlib.Core.Bool.{false}
use mathlib.Core.List.{List}
use native.Mathlib.Omega.{arith}
use lib.ListN.{length, get_or}
use Rattle.scan.specs.inner.Span.{Span}
use Rattle.scan.proofs.Step.{byte_none}
use Rattle.scan.proofs.SpanLaws.{cut, input_span}
use Rattle.jsontext.specs.Grammar as json
use Rattle.jsontext.specs.Token.{is_space, space_at}
use Rattle.jsontext.proofs.TokenLaws.{Stop, stop_end, space_accepts}
use Rattle.jsontext.proofs.FirstByte.{first_at, begins_value}
use Rattle.jsontext.proofs.ValueComplete.{ws_stop}
use Rattle.jsontext.proofs.Unambiguous.{one_at}
use Rattle.jsontext.proofs.Meaning.{unescape_chars}

-- The value of a text stands where the white space before it ends, and nothing behind it could lengthen a number.
pub data ValueIn (s : List ℕ) (v : json.Json) : Type 0 where
  value_in : {l : List ℕ} {e : ℕ} → json.Spells v l → Span s (space_at s 0) l e → Stop (get_or s e 0) → ValueIn s v

-- The end of the input stops a number.
pub end_stops : (s : List ℕ) → Stop (get_or s (length s) 0)
end_stops s = rw (byte_none s (length s) (omega arith)) stop_end

pub text_value : {v : json.Json} {s : List ℕ} → json.JsonText v s → ValueIn s v
text_value {v} {s} (json.text {w = w} {l = l} {x = x} g h k) =
    let u = cut w (input_span s) in
    let y = cut l u.2 in
    let e = space_accepts g u.1 (first_at (begins_value h) y.1).solid in
    value_in {e = y.0} h (rw e y.1) (ws_stop k y.2 (end_stops s))

-- THE unambiguity of a text: a JSON text spells at most one value.
pub one_value : {v w : json.Json} {s : List ℕ} → json.JsonText v s → json.JsonText w s → v ≡ w
one_value g h = go (text_value g) (text_value h)
  where
    go : {s : List ℕ} {v w : json.Json} → ValueIn s v → ValueIn s w → v ≡ w
    go (value_in g p st) (value_in h q su) = (one_at g p st h q su).0

-- No white space stands behind the end.
pub end_solid : (s : List ℕ) → is_space (get_or s (length s) 0) ≡ false
unfolding is_space
end_solid s = rw (byte_none s (length s) (omega arith))

-- Characters as they are spelled stand for one text.
pub chars_one : {n t u : List ℕ} → json.Chars n t → json.Chars n u → t ≡ u
chars_one c d = sym (unescape_chars c) ∙ unescape_chars d
