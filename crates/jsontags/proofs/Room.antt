-- How long the strings and arrays of tags get: at most three times the strict form.
-- A text takes a byte and itself there, and its string at most two bytes for each, two quotes and a comma; hex digits
-- need no escape.
use Prim.Native.Nat.{ℕ, ◌+◌, ◌*◌, ◌≤◌}
use mathlib.Core.Path.{ap}
use mathlib.Core.List.{List, [], ◌∷◌, map}
use native.Mathlib.Omega.{arith}
use lib.ListN.{length, length-append}
use Rattle.scan.proofs.Step.{pick_by}
use Rattle.varint.specs.Uleb.{uleb}
use Rattle.varint.proofs.UlebLaws.{length_one}
use Rattle.hexdigits.specs.Hex.{unhex, goes_as_bytes}
use Rattle.hexdigits.proofs.Texts.{go_digits, length_unhex}
use Rattle.escape.specs.declared.Escaping.{Escaping}
use Rattle.escape.specs.inner.Which.{byte_of}
use Rattle.escape.proofs.ByteLaws.{escaping}
use Rattle.escape.proofs.TextLaws.{length_most}
use Rattle.event.specs.Event.{Text, Tag}
use Rattle.notepack.specs.Strict.{pack_element, pack_elements, pack_tag, pack_tags}
use Rattle.jsontags.specs.TagText.{quoted, commaed, tag_text}
use Rattle.jsontags.proofs.Texts.{digits_stand, length_quoted, length_array}

-- an item and a comma more at most
length_commaed : (x : List ℕ) (l : List (List ℕ)) → length (commaed (x ∷ l)) ≤ length x + 1 + length (commaed l)
length_commaed x [] = omega arith
length_commaed x (y ∷ l) = omega (arith, length-append x (0x2C ∷ commaed (y ∷ l)))

module _ (k : Escaping) where
  string_room : (t : Text) → length (quoted (byte_of k) t) + 1 ≤ 3 * length (pack_element t)
  unfolding pack_element
  string_room t =
      pick_by (λ (l : List ℕ). length (quoted (byte_of k) t) + 1 ≤ 3 * length l) (goes_as_bytes t)
      (λ g.
      let d = go_digits t g in
      let n = 2 * length (unhex t) + 1 in
      omega (arith, length_quoted (byte_of k) t, ap length (digits_stand k d.2), d.1, length_unhex t, length-append (uleb n) (unhex t), length_one n))
      (λ g.
      let n = 2 * length t in
      omega (arith, length_quoted (byte_of k) t, length_most (byte_of k) (escaping k) t, length-append (uleb n) t, length_one n))

  strings_room : (ts : Tag) → length (commaed (map (quoted (byte_of k)) ts)) ≤ 3 * length (pack_elements ts)
  strings_room [] = omega arith
  strings_room (t ∷ ts) =
      omega (arith, string_room t, strings_room ts, length_commaed (quoted (byte_of k) t) (map (quoted (byte_of k)) ts), length-append (pack_element t) (pack_elements ts))

  array_room : (t : Tag) → length (tag_text (byte_of k) t) + 1 ≤ 3 * length (pack_tag t)
  unfolding tag_text pack_tag
  array_room t =
      omega (arith, strings_room t, length_array (map (quoted (byte_of k)) t), length-append (uleb (length t)) (pack_elements t), length_one (length t))

  pub arrays_room : (l : List Tag) → length (commaed (map (tag_text (byte_of k)) l)) ≤ 3 * length (pack_tags l)
  arrays_room [] = omega arith
  arrays_room (t ∷ l) =
      omega (arith, array_room t, arrays_room l, length_commaed (tag_text (byte_of k) t) (map (tag_text (byte_of k)) l), length-append (pack_tag t) (pack_tags l))
