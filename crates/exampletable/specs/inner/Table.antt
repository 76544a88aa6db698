-- The checked examples of rule 12.4, one table, one statement; `proofs/Proved` proves it by computation. Assumes
-- nothing.
use Rattle.std.specs.Prelude.{ℕ, ◌≡◌, List, [], ◌∷◌, ◌++◌, length, replicate}
use Rattle.scan.specs.Ascii.{ascii}
use Rattle.scan.specs.Choice.{shown, refused}
use Rattle.varint.specs.Uleb.{uleb}
use Rattle.varint.specs.Varint.{varint_at}
use Rattle.hexdigits.specs.Hex.{hexes}
use Rattle.event.specs.Event.{Event}
use Rattle.notepack.specs.Strict.{pack_element}
use Rattle.nson.specs.Nson.{counts, nson_field, head_text, body_text, nson}
use Rattle.nson.specs.Read.{read_nson}

-- the event of the examples of NSON
abbrev pub event : Event
event =
    record {
      id = replicate 32 0;
      pubkey = replicate 32 0;
      sig = replicate 64 0;
      created_at = 1_000_000_000;
      kind = 1;
      tags = [];
      content = ascii "a\"b";
    }

-- its text, with n in the place of the count of the content's bytes
abbrev pub with : ℕ → List ℕ
with n = head_text event ++ hexes (0x08 ∷ 0x01 ∷ 0x00 ∷ n ∷ 0x00 ∷ []) ++ body_text event

pub record CheckedExamples : Type 0 where
  -- varints
  pub example_1 : uleb 0 ≡ 0x00 ∷ []
  pub example_2 : uleb 127 ≡ 0x7f ∷ []
  pub example_3 : uleb 128 ≡ 0x80 ∷ 0x01 ∷ []
  pub example_4 : uleb 1_720_000_000 ≡ 0x80 ∷ 0xbc ∷ 0x94 ∷ 0xb4 ∷ 0x06 ∷ []
  pub example_5 : varint_at (0xff ∷ 0xff ∷ 0xff ∷ 0xff ∷ 0xff ∷ 0xff ∷ 0xff ∷ 0xff ∷ 0xff ∷ 0x02 ∷ []) 0 ≡ refused 3 0
  pub example_6 : varint_at (0x80 ∷ []) 0 ≡ refused 4 0
  pub example_7 : varint_at (0x80 ∷ 0x00 ∷ []) 0 ≡ refused 24 0
  -- elements: `ab`, `AB`, `abc`, and the empty text
  pub example_8 : pack_element (ascii "ab") ≡ 0x03 ∷ 0xab ∷ []
  pub example_9 : pack_element (ascii "AB") ≡ 0x04 ∷ 0x41 ∷ 0x42 ∷ []
  pub example_10 : pack_element (ascii "abc") ≡ 0x06 ∷ 0x61 ∷ 0x62 ∷ 0x63 ∷ []
  pub example_11 : pack_element [] ≡ 0x00 ∷ []
  -- the event of rule 12.4 as NSON: the nson field, the length, and that it is read
  pub example_12 : (nson_field (counts event) ≡ hexes (0x08 ∷ 0x01 ∷ 0x00 ∷ 0x04 ∷ 0x00 ∷ [])) × (length (nson event) ≡ 366) × (read_nson (nson event) ≡ shown event)
  -- the same text with another count of the content's bytes, in the place of 4
  pub example_13 : read_nson (with 3) ≡ refused 13 353
  pub example_14 : read_nson (with 2) ≡ refused 14 350
  pub example_15 : read_nson (with 5) ≡ refused 13 350
