-- Reading NSON: piece after piece, counts before the text they count, with the refusals and places of rules 6, 10 and
-- 11. A piece is checked, and what it says is then taken from its place. Assumes nothing.
use Rattle.std.specs.Prelude.{ℕ, ◌+◌, ◌*◌, ◌%◌, Bool, true, false, List, [], ◌∷◌, length, take, drop, leb, eqb}
use Rattle.scan.specs.Ascii.{ascii}
use Rattle.scan.specs.Choice.{pick, Answer, shown, refused, Read, read, and_then, many}
use Rattle.scan.specs.Place.{byte_at, stands_at, within}
use Rattle.hexdigits.specs.Hex.{value_of, unhex, all_digits}
use Rattle.decimal.specs.Decimal.{decimal, number_of}
use Rattle.scan.specs.Compare.{same_bytes}
use Rattle.event.specs.Event.{Text, Tag, Event}
use Rattle.jsontext.specs.inner.Escape.{unescape}
use Rattle.nsonstring.specs.Counted.{fault_in}
use Rattle.nson.specs.Nson.{id_label, pubkey_label, sig_label, time_label, nson_label, kind_label, content_label, tags_label, Counts}
use Rattle.nson.specs.inner.Places.{id_place, pubkey_place, sig_place, size_place}

-- ---- pieces: the place behind them, or the refusal at their start

-- a fixed piece; `number` is the refusal where another byte or the end stands
unfoldable pub piece_at : ℕ → List ℕ → List ℕ → ℕ → Answer ℕ
piece_at number w s at = pick (stands_at w s at) (shown (at + length w)) (refused number at)

-- the n bytes from a place on, or as many of them as there are
abbrev pub part_at : ℕ → List ℕ → ℕ → List ℕ
part_at n s at = take n (drop at s)

-- n lowercase hex digits
unfoldable pub hex_at : ℕ → List ℕ → ℕ → Answer ℕ
hex_at n s at = pick (eqb (length (part_at n s at)) n) (pick (all_digits (part_at n s at)) (shown (at + n)) (refused 12 at)) (refused 12 at)

-- a number in n digits with no leading zero unless it is 0: the spelling that `decimal` gives
unfoldable pub is_decimal : ℕ → List ℕ → Bool
is_decimal n l = pick (eqb (length l) n) (same_bytes l (decimal (number_of l))) false

unfoldable pub decimal_at : ℕ → ℕ → List ℕ → ℕ → Answer (Read ℕ)
decimal_at number n s at = pick (is_decimal n (part_at n s at)) (read (number_of (part_at n s at)) (at + n)) (refused number at)

-- n counted bytes between two quotes: the earliest fault in them, else 13 where the input ends before
unfoldable pub text_at : ℕ → List ℕ → ℕ → Answer ℕ
text_at n s at =
    pick (eqb (fault_in (part_at n s at)) 0) (pick (eqb (length (part_at n s at)) n) (shown (at + n)) (refused 13 at))
    (refused (fault_in (part_at n s at)) at)

-- ---- up to the descriptors

-- a label, then n hex digits
unfoldable pub labelled_at : List ℕ → ℕ → List ℕ → ℕ → Answer ℕ
labelled_at w n s at = and_then (piece_at 12 w s at) λ a. hex_at n s a

-- id, pubkey and sig
unfoldable pub keys_at : List ℕ → Answer ℕ
keys_at s =
    and_then (labelled_at id_label 64 s 0) λ a.
    and_then (labelled_at pubkey_label 64 s a) λ b.
    labelled_at sig_label 128 s b

-- the time: ten digits, the first not 0
unfoldable pub time_at : List ℕ → ℕ → Answer (Read ℕ)
time_at s at = and_then (piece_at 12 time_label s at) λ a. decimal_at 12 10 s a

-- all of it, and the time
unfoldable pub head_at : List ℕ → Answer (Read ℕ)
head_at s =
    and_then (keys_at s) λ a.
    and_then (time_at s a) λ t.
    and_then (piece_at 12 nson_label s t.next) λ b.
    read t.value b

-- ---- the descriptors: all are checked before the kind

-- the byte that two hex digits say, and the number that two such bytes say, the upper one first
unfoldable pub byte_here : List ℕ → ℕ → ℕ
byte_here s at = 16 * (value_of (byte_at s at) % 16) + value_of (byte_at s (at + 1)) % 16

unfoldable pub word_here : List ℕ → ℕ → ℕ
word_here s at = 256 * byte_here s at + byte_here s (at + 2)

-- a descriptor of n hex digits: 13 at the size where it would pass the end that the size says, before 12 where it isn't
-- there or no hex
unfoldable pub descriptor_at : ℕ → ℕ → List ℕ → ℕ → Answer ℕ
descriptor_at n end s at = pick (leb (at + n) end) (hex_at n s at) (refused 13 size_place)

unfoldable pub byte_count_at : ℕ → List ℕ → ℕ → Answer (Read ℕ)
byte_count_at end s at = and_then (descriptor_at 2 end s at) λ p. read (byte_here s at) p

unfoldable pub word_count_at : ℕ → List ℕ → ℕ → Answer (Read ℕ)
word_count_at end s at = and_then (descriptor_at 4 end s at) λ p. read (word_here s at) p

-- kind characters: 1 to 5
unfoldable pub kind_count_at : ℕ → List ℕ → ℕ → Answer (Read ℕ)
kind_count_at end s at = and_then (byte_count_at end s at) λ n. pick (within 1 5 n.value) (shown n) (refused 13 at)

-- a tag's number of items: none is 9
unfoldable pub item_count_at : ℕ → List ℕ → ℕ → Answer (Read ℕ)
item_count_at end s at = and_then (byte_count_at end s at) λ n. pick (eqb n.value 0) (refused 9 at) (shown n)

-- a tag's counts: one for each item
unfoldable pub tag_counts_at : ℕ → List ℕ → ℕ → Answer (Read (List ℕ))
tag_counts_at end s at = and_then (item_count_at end s at) λ n. many (word_count_at end s) n.value n.next

-- the counts that end where the size says: 13 at the size where they end before
unfoldable pub counts_to : ℕ → List ℕ → ℕ → Answer (Read Counts)
counts_to end s at =
    and_then (kind_count_at end s at) λ k.
    and_then (word_count_at end s k.next) λ c.
    and_then (byte_count_at end s c.next) λ n.
    and_then (many (tag_counts_at end s) n.value n.next) λ t.
    pick (eqb t.next end) (read (record { kind = k.value; content = c.value; tags = t.value }) t.next) (refused 13 size_place)

-- the nson field: the size, which counts the hex characters behind it, and the descriptors
unfoldable pub counts_at : List ℕ → Answer (Read Counts)
counts_at s = and_then (hex_at 2 s size_place) λ p. counts_to (p + byte_here s size_place) s p

-- ---- the text that is counted

-- the kind in so many digits, and its range
unfoldable pub kind_at : ℕ → List ℕ → ℕ → Answer (Read ℕ)
kind_at n s at = and_then (decimal_at 13 n s at) λ k. pick (leb k.value 65_535) (shown k) (refused 6 at)

-- the comma in front of an item that is not the first
abbrev pub comma_at : Bool → List ℕ → ℕ → Answer ℕ
comma_at false s at = shown at
comma_at true s at = piece_at 13 (ascii ",") s at

-- items without white space, one for each count
unfoldable pub items_at : {N A : Type 0} → (N → ℕ → Answer (Read A)) → Bool → List N → List ℕ → ℕ → Answer (Read (List A))
items_at item later [] s at = read [] at
items_at item later (n ∷ l) s at =
    and_then (comma_at later s at) λ c.
    and_then (item n c) λ x.
    and_then (items_at item true l s x.next) λ xs.
    read (x.value ∷ xs.value) xs.next

-- an array of them: each bracket is a piece of its own
unfoldable pub array_at : {N A : Type 0} → (N → ℕ → Answer (Read A)) → List N → List ℕ → ℕ → Answer (Read (List A))
array_at item l s at =
    and_then (piece_at 13 (ascii "[") s at) λ a.
    and_then (items_at item false l s a) λ xs.
    and_then (piece_at 13 (ascii "]") s xs.next) λ b.
    read xs.value b

-- an item: a quote, a counted text, a quote
unfoldable pub item_at : List ℕ → ℕ → ℕ → Answer (Read Text)
item_at s n at =
    and_then (piece_at 13 (ascii "\"") s at) λ a.
    and_then (text_at n s a) λ b.
    and_then (piece_at 13 (ascii "\"") s b) λ c.
    read (unescape (part_at n s a)) c

unfoldable pub tag_at : List ℕ → List ℕ → ℕ → Answer (Read Tag)
tag_at s l at = array_at (item_at s) l s at

unfoldable pub tags_standing : List (List ℕ) → List ℕ → ℕ → Answer (Read (List Tag))
tags_standing l s at = array_at (tag_at s) l s at

-- ---- behind the descriptors

unfoldable pub kind_part_at : ℕ → List ℕ → ℕ → Answer (Read ℕ)
kind_part_at n s at = and_then (piece_at 13 kind_label s at) λ a. kind_at n s a

unfoldable pub content_part_at : ℕ → List ℕ → ℕ → Answer (Read Text)
content_part_at n s at =
    and_then (piece_at 13 content_label s at) λ a.
    and_then (text_at n s a) λ b.
    read (unescape (part_at n s a)) b

unfoldable pub tags_part_at : List (List ℕ) → List ℕ → ℕ → Answer (Read (List Tag))
tags_part_at l s at =
    and_then (piece_at 13 tags_label s at) λ a.
    and_then (tags_standing l s a) λ t.
    and_then (piece_at 13 (ascii "}") s t.next) λ b.
    read t.value b

pub record Body : Type 0 where
  pub kind : ℕ
  pub content : Text
  pub tags : List Tag

unfoldable pub body_read_at : Counts → List ℕ → ℕ → Answer (Read Body)
body_read_at n s at =
    and_then (kind_part_at n.kind s at) λ k.
    and_then (content_part_at n.content s k.next) λ c.
    and_then (tags_part_at n.tags s c.next) λ t.
    read (record { kind = k.value; content = c.value; tags = t.value }) t.next

-- ---- the whole

-- id, pubkey and sig have their places
unfoldable pub event_read : List ℕ → ℕ → Body → Event
event_read s time b =
    record {
      id = unhex (part_at 64 s id_place);
      pubkey = unhex (part_at 64 s pubkey_place);
      sig = unhex (part_at 128 s sig_place);
      created_at = time;
      kind = b.kind;
      tags = b.tags;
      content = b.content;
    }

unfoldable pub event_at : List ℕ → Answer (Read Event)
event_at s =
    and_then (head_at s) λ h.
    and_then (counts_at s) λ n.
    and_then (body_read_at n.value s n.next) λ b.
    read (event_read s h.value b.value) b.next

-- the event that a text shows, or the refusal: 1 first of all, and 10 for a byte after the end
unfoldable pub read_nson : List ℕ → Answer Event
read_nson s =
    pick (leb (length s) 65_536)
    (and_then (event_at s) λ e. pick (eqb e.next (length s)) (shown e.value) (refused 10 e.next))
    (refused 1 0)
