-- The rules' own examples (17.4 to 17.6), and this: a wrong word whether bytes are bare can't be seen. 01 and an event
-- of kind 1 without content and tags, all else zero, said to be bare, read well as an event of kind 0 with one byte of
-- content.
-- By running the definitions on both readings.
use Prim.Native.Nat.{ℕ}
use mathlib.Core.Path.{◌≡◌, refl, ap}
use mathlib.Core.Bool.{true, false}
use mathlib.Core.List.{List, [], ◌∷◌, ◌++◌}
use native.Mathlib.Omega.{arith}
use lib.ListN.{replicate}
use Rattle.scan.specs.Choice.{shown, refused, many}
use Rattle.scan.specs.Place.{within}
use Rattle.utf8.specs.inner.Width.{width_of, sequences, is_utf8}
use Rattle.varint.specs.Varint.{spelled, varint_at}
use Rattle.event.specs.Event.{Event}
use Rattle.notepack.specs.Unpack.{part_of, text_of, payload_at, text_at, number_at, content_at, element_at, tag_count_at, tag_at, numbers_at, head_at, packed_at, event_of, unpack}
use Rattle.versioned.specs.Versioned.{version_at, start_of, given}
use Rattle.versioned.specs.Views.{packed_given, element_given}
use Rattle.versioned.specs.ThereAndBack.{WrongWord}

-- id, pubkey and sig, then created_at 0, kind 1, no content, no tags
abbrev bare : List ℕ
bare = replicate 128 0 ++ (0 ∷ 1 ∷ 0 ∷ 0 ∷ [])

abbrev first : Event
first = record { id = replicate 32 0; pubkey = replicate 32 0; sig = replicate 64 0; created_at = 0; kind = 1; tags = []; content = [] }

abbrev other : Event
other = record { id = 1 ∷ replicate 31 0; pubkey = replicate 32 0; sig = replicate 64 0; created_at = 0; kind = 0; tags = []; content = 0 ∷ [] }

pub wrong_word : WrongWord
unfolding given start_of version_at unpack event_of packed_at head_at numbers_at content_at number_at text_at payload_at text_of varint_at spelled many is_utf8 sequences width_of within
wrong_word =
    record {
      bytes = 1 ∷ bare;
      versioned = first;
      bare = other;
      read_versioned = refl;
      read_bare = refl;
      differ = λ e. let k = ap (λ (x : Event). x.kind) e in omega arith;
    }

-- ---- the examples of rules 17.4 to 17.6

pub nothing_given : given false unpack [] ≡ refused 2 0
unfolding given start_of version_at
nothing_given = refl

pub other_first : given false unpack (2 ∷ []) ≡ refused 25 0
unfolding given start_of version_at
other_first = refl

pub bare_given : given false unpack (replicate 128 0 ++ (0 ∷ 0 ∷ 0 ∷ 0 ∷ [])) ≡ refused 25 0
unfolding given start_of version_at
bare_given = refl

pub nothing_behind : given false unpack (1 ∷ []) ≡ refused 2 1
unfolding given start_of version_at unpack packed_at head_at payload_at
nothing_behind = refl

pub cut_behind : given false unpack (1 ∷ (replicate 128 0 ++ (0x80 ∷ []))) ≡ refused 4 129
unfolding given start_of version_at unpack packed_at head_at numbers_at number_at payload_at varint_at spelled
cut_behind = refl

pub element_behind : element_given false 0 1 (1 ∷ (replicate 128 0 ++ (0 ∷ 0 ∷ 0 ∷ 1 ∷ 2 ∷ 2 ∷ 0x64 ∷ 3 ∷ 0xab ∷ []))) ≡ shown (part_of 137 1 true)
unfolding element_given packed_given start_of version_at packed_at head_at numbers_at content_at number_at text_at payload_at element_at tag_at tag_count_at varint_at spelled many is_utf8 sequences width_of within
element_behind = refl
