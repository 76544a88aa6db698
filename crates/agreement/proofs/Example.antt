-- The demand is not empty: the example of rule 12.4 is accepted by both readers; with a count that lies the plain JSON
-- reader still shows the event, and the NSON reader refuses. By running the definitions.
use Prim.Native.Nat.{ℕ}
use mathlib.Core.Path.{◌≡◌, refl}
use mathlib.Core.List.{List, [], ◌∷◌, ◌++◌}
use native.Mathlib.Omega.{arith}
use lib.ListN.{length, replicate}
use Rattle.scan.specs.Ascii.{ascii}
use Rattle.scan.specs.Choice.{shown, refused}
use Rattle.scan.specs.Place.{begins, stands_at, within, run, run_at}
use Rattle.utf8.specs.Encode.{encode}
use Rattle.utf8.specs.inner.Width.{width_at}
use Rattle.hexdigits.specs.Hex.{hexes, value_of, unhex, all_digits}
use Rattle.decimal.specs.Decimal.{decimal_in, decimal}
use Rattle.escape.specs.Escape.{nson_byte, escaped}
use Rattle.scan.specs.Compare.{same_bytes}
use Rattle.event.specs.Event.{Event}
use Rattle.jsontags.specs.TagText.{tags_text}
use Rattle.jsontext.specs.inner.Escape.{unescaped_letter, letter_escape, escape_at, or_itself, unescaped, unescape}
use Rattle.jsontext.specs.Token.{is_space, space_at, word_at, digits_or, minus_at, sign_at, int_at, frac_at, is_e, exp_at, number_from, unsigned_from, skip_number}
use Rattle.jsontext.specs.Text.{chars_at, string_at}
use Rattle.jsontext.specs.Value as value
use Rattle.jsontext.specs.Grammar as json
use Rattle.jsonevent.specs.Meaning.{Values, Once, once}
use Rattle.jsonevent.proofs.OneEvent.{values_one}
use Rattle.jsonevent.specs.Field.{text_at, is_hex_of, hex_at, digits_only, whole_of, whole_at, after_item, items_at, inside_at, array_at, one_or_more, tag_at, tags_standing, index_in, field_of, field_at}
use Rattle.jsonevent.specs.Object as object
use Rattle.jsonevent.specs.inner.Closing as closing
use Rattle.nson.specs.Nson.{Counts, head_text, body_text, nson}
use Rattle.nson.specs.Read.{read_nson}
use Rattle.nson.proofs.Example.{example_read, example_refused}
use Rattle.agreement.specs.Counted.{StringOf, string_of, TrueCounts}
use Rattle.agreement.proofs.Agree.{both_accept}

-- the event of the NSON examples of rule 12.4
abbrev event : Event
event =
    record {
      id = replicate 32 0;
      pubkey = replicate 32 0;
      sig = replicate 64 0;
      created_at = 1_000_000_000;
      kind = 1;
      tags = [];
      content = 0x61 ∷ 0x22 ∷ 0x62 ∷ [];
    }

pub example_both : (read_nson (nson event) ≡ shown event) × (object.read_json (nson event) ≡ shown event)
example_both = (example_read, both_accept (nson event) event example_read)

-- three bytes are counted where four stand
abbrev lying : List ℕ
lying = head_text event ++ hexes (0x08 ∷ 0x01 ∷ 0x00 ∷ 0x03 ∷ 0x00 ∷ []) ++ body_text event

pub example_lying : (object.read_json lying ≡ shown event) × (read_nson lying ≡ refused 13 353)
unfolding head_text body_text escaped nson_byte decimal decimal_in tags_text object.read_json object.whole_at object.object_at object.inside_at object.members_at object.after_member closing.close_at object.member_at object.colon_at field_at field_of index_in tags_standing tag_at one_or_more array_at inside_at items_at after_item whole_at whole_of digits_only hex_at is_hex_of text_at value.value_at value.skip_walk_by value.skip_value_by chars_at string_at is_space space_at word_at digits_or minus_at sign_at int_at frac_at is_e exp_at number_from unsigned_from skip_number unescaped_letter letter_escape escape_at or_itself unescaped unescape same_bytes value_of unhex all_digits width_at within run run_at stands_at begins encode
example_lying = (refl, example_refused.0)

-- a\"b between its quotes has four bytes, so a count of three is not true of it
abbrev spelled : json.Json
spelled = json.string (0x61 ∷ 0x5C ∷ 0x22 ∷ 0x62 ∷ [])

string_long : {l : List ℕ} {n : ℕ} → StringOf (json.string l) n → length l ≡ n
string_long string_of = refl

pub example_false : (m : json.Members) (size : ℕ) (c : Counts) → Values (ascii "content") m (spelled ∷ []) → c.content ≡ 3 → TrueCounts m size c → ⊥
example_false m size c h n t = go t.content
  where
    go : Once m (ascii "content") StringOf c.content → ⊥
    go (once {v = v} e g) =
        let f : v ∷ [] ≡ spelled ∷ [] = values_one e h in
        let same : v ≡ spelled = cc in
        let k = string_long (rw same at g) in
        omega arith
