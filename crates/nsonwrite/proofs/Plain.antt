-- NSON can carry the text of a raw part: hex digits are no bytes below 20.
-- By each digit's own bounds.
use Prim.Native.Nat.{ℕ}
use mathlib.Core.Path.{◌≡◌}
use mathlib.Core.Bool.{true}
use mathlib.Core.List.{List}
use lib.ListN.{drop}
use native.Mathlib.Omega.{arith}
use Rattle.scan.specs.Bytes.{IsBytes}
use Rattle.scan.proofs.AllLaws.{all_map, all_take, all_drop}
use Rattle.hexdigits.specs.inner.LowerHex.{number, letter, LowerHex}
use Rattle.hexdigits.proofs.Texts.{hexes_digits}
use Rattle.escape.specs.Escape.{Carried, other}
use Rattle.escape.specs.inner.Controls.{nson_text}
use Rattle.escape.proofs.QuotedLaws.{nson_text_lem}
use Rattle.notepack.specs.declared.Part.{Part}
use Rattle.notepack.specs.Unpack.{text_of}
use Rattle.notepack.proofs.Walking.{text_raw}

digit_carried : (b : ℕ) → LowerHex b → Carried b
digit_carried b (number l h) = other {b = b} (omega arith)
digit_carried b (letter l h) = other {b = b} (omega arith)

pub raw_plain : (s : List ℕ) → IsBytes s → (p : Part) → p.raw ≡ true → nson_text (text_of s p) ≡ true
raw_plain s bytes p r =
    let b = all_take {l = drop p.at s} p.len (all_drop p.at bytes) in
    rw (text_raw s p r) ((nson_text_lem _).1 (all_map digit_carried (hexes_digits b)))
