-- What each entry may refuse: its own numbers, none of them 0, each at a place that does not pass the input's end. So C
-- tells a value from a refusal by the first number alone. `proofs/Refusals` shows it. Assumes nothing.
use Prim.{Unit}
use Rattle.std.specs.Prelude.{ℕ, ◌≤◌, ◌<◌, ◌≡◌, Bool, true, false, List, [], ◌∷◌, length}
use Rattle.scan.specs.Choice.{Answer, shown, refused, and_then}
use Rattle.buffer.specs.Entry.{writes, leaves}
use Rattle.event.specs.Event.{Event}
use Rattle.event.specs.inner.Tells.{among, Tells}
use Rattle.notepack.specs.Unpack.{unpack}
use Rattle.notepack.specs.Strict.{pack}
use Rattle.elements.specs.Elements.{elements_told, elements_left}
use Rattle.strict.specs.Strict.{strict}
use Rattle.versioned.specs.Versioned.{given}
use Rattle.versioned.specs.Views.{numbers_given, texts_given, element_given}
use Rattle.versioned.specs.Moves.{versions, version_leaves, bares, bare_leaves}
use Rattle.notepack.specs.inner.Numbers.{packed_numbers}
use Rattle.versioned.specs.inner.Numbers.{given_numbers, given_view_numbers}
use Rattle.stringform.specs.StringForm.{event_string, read_string, itself}
use Rattle.stringform.specs.inner.Numbers.{string_numbers}
use Rattle.pointer.specs.Pointer.{form_at}
use Rattle.pointer.specs.Entries.{pointer_texts, pointer_element, within65536, convertible}
use Rattle.pointer.specs.Written.{pointer_form}
use Rattle.pointer.specs.inner.Numbers.{pointer_numbers, question_numbers, converting_numbers}
use Rattle.canonical.specs.Canonical.{canonical}
use Rattle.nson.specs.inner.Numbers.{nson_numbers}
use Rattle.nson.specs.Nson.{nson}
use Rattle.nson.specs.Entries.{nson_reads, carried}
use Rattle.jsonevent.specs.inner.Numbers.{json_numbers}
use Rattle.jsonevent.specs.Entries.{json_reads}
use Rattle.bothreaders.specs.Both.{both, both_first, both_second}
use Rattle.versionedrivals.specs.Rivals.{rivals_given}
use Rattle.versionedrivals.specs.inner.Telling.{GivenTell}
use Rattle.table.specs.Offer.{outcome_of, cells_after}
use Rattle.tablebytes.specs.Entries.{table_offer_of, bytes_after, table_slot, sized, zeroed}
use Rattle.tablebytes.specs.inner.Telling.{OfferTells, SlotTells}
use Rattle.sha256.specs.Pieces.{started}
use Rattle.sha256bytes.specs.StateBytes.{bytes_of_state, add_in, finish_in}
use Rattle.identity.specs.Identity.{belongs}
use Rattle.kezubimoryu.specs.Entries.{ok, yes_no, outcome_told}

-- an entry that only asks: a value, or one of the numbers at a place of the input
abbrev pub Asks : List ℕ → List ℕ → Answer ℕ → Type 0
Asks numbers s = Tells numbers (length s) (λ (v : ℕ). Unit {0})

-- an entry that writes into d: besides, 11 with a length that d does not have
pub data Fills (numbers s d : List ℕ) : Answer ℕ → Type 0 where
  written : {n : ℕ} → Fills numbers s d (shown n)
  refusal : {n p : ℕ} → among numbers n ≡ true → p ≤ length s → Fills numbers s d (refused n p)
  too_short : {n : ℕ} → length d < n → Fills numbers s d (refused 11 n)

-- both readers, which write into two buffers: 11 with a length that one of them does not have
pub data FillsBoth (numbers s d₁ d₂ : List ℕ) : Answer ℕ → Type 0 where
  written : {n : ℕ} → FillsBoth numbers s d₁ d₂ (shown n)
  refusal : {n p : ℕ} → among numbers n ≡ true → p ≤ length s → FillsBoth numbers s d₁ d₂ (refused n p)
  first_short : {n : ℕ} → length d₁ < n → FillsBoth numbers s d₁ d₂ (refused 11 n)
  second_short : {n : ℕ} → length d₂ < n → FillsBoth numbers s d₁ d₂ (refused 11 n)

-- the hash: a message that is too long; it has no input with places, so its own is 0
abbrev pub hash_numbers : List ℕ
hash_numbers = 35 ∷ []

-- what the NSON writer adds to the reader's numbers: 17, and 0 is a place of every input
abbrev pub writer_numbers : Bool → List ℕ
writer_numbers b = 17 ∷ given_numbers b

-- what the writer of the pointer form adds: 29
abbrev pub form_numbers : Bool → List ℕ
form_numbers b = 29 ∷ given_numbers b

pub record Refusals : Type 0 where
  -- b says whether a packed input is bare: places count in the bytes given, and 25 is of a versioned one alone
  pub notepack_read : (b : Bool) (s : List ℕ) → Asks (given_numbers b) s (ok (numbers_given b s))
  pub notepack_is_strict : (b : Bool) (s : List ℕ) → Asks (given_numbers b) s (yes_no (given b strict s))
  pub notepack_write : (b : Bool) (s d : List ℕ) → Fills (given_numbers b) s d (writes pack (given b unpack s) d)
  pub notepack_tag_len : (b : Bool) (i : ℕ) (s : List ℕ) → Asks (given_view_numbers b) s (texts_given b i s)
  pub notepack_element : (b : Bool) (i j : ℕ) (s : List ℕ) → Asks (given_view_numbers b) s (ok (element_given b i j s))
  pub notepack_elements : (b : Bool) (i : ℕ) (s d : List ℕ) → Asks (given_numbers b) s (elements_told b i s d)
  pub string_write : (b : Bool) (s d : List ℕ) → Fills (given_numbers b) s d (writes (event_string b) (given b unpack s) d)
  pub string_read_lem : (b : Bool) (t d : List ℕ) → Fills (string_numbers b) t d (writes itself (read_string b t) d)
  pub canonical_write : (b : Bool) (s d : List ℕ) → Fills (given_numbers b) s d (writes canonical (given b unpack s) d)
  pub nson_write : (b : Bool) (s d : List ℕ) → Fills (writer_numbers b) s d (writes nson (carried (given b unpack s)) d)
  -- the moves
  pub versioned_from_bare : (s d : List ℕ) → Fills packed_numbers s d (versions s d)
  pub bare_from_versioned : (s d : List ℕ) → Fills (given_numbers false) s d (bares s d)
  -- the pointer form
  pub pointer_read : (s : List ℕ) → Asks pointer_numbers s (ok (form_at s))
  pub pointer_tag_len : (i : ℕ) (s : List ℕ) → Asks question_numbers s (pointer_texts i s)
  pub pointer_element_lem : (i j : ℕ) (s : List ℕ) → Asks question_numbers s (ok (pointer_element i j s))
  pub pointer_convert : (s d : List ℕ) → Fills converting_numbers s d (writes pack (convertible s) d)
  pub pointer_write : (b : Bool) (s d : List ℕ) → Fills (form_numbers b) s d (writes pointer_form (within65536 pointer_form (given b unpack s)) d)
  pub nson_read : (s d : List ℕ) → Fills nson_numbers s d (nson_reads s d)
  pub json_read : (s d : List ℕ) → Fills json_numbers s d (json_reads s d)
  pub read_both : (s d₁ d₂ : List ℕ) → FillsBoth json_numbers s d₁ d₂ (and_then (both s d₁ d₂) (λ c. shown c.which))
  -- of two inputs: whose refusal it is stands in `GivenTell`
  pub which_is_kept : (s : List ℕ) (b : Bool) (t : List ℕ) (c : Bool) → GivenTell s b t c (rivals_given s b t c)
  -- a table: its numbers and places stand in `OfferTells` and `SlotTells`; emptying refuses with 34 at 0
  pub table_offer_lem : (slots cells : List ℕ) (b : Bool) (s : List ℕ) → OfferTells (given_numbers b) s (outcome_told (outcome_of (table_offer_of slots cells (given b unpack s))))
  pub table_slot_lem : (slots cells : List ℕ) (n : ℕ) → SlotTells (ok (table_slot slots cells n))
  pub table_empty : (slots cells : List ℕ) → Tells (34 ∷ []) 0 (λ (v : ℕ). Unit {0}) (sized slots cells)
  -- SHA-256: 11 with a length that the state, or the digest's buffer, does not have; the id question
  pub sha256_start : (b : List ℕ) → Fills [] [] b (writes bytes_of_state (shown started) b)
  pub sha256_add : (b p : List ℕ) → Fills hash_numbers [] b (writes bytes_of_state (add_in b p) b)
  pub sha256_finish : (b d : List ℕ) → FillsBoth hash_numbers [] b d (writes itself (finish_in b) d)
  pub id_belongs : (b : Bool) (s : List ℕ) → Asks (given_numbers b) s (yes_no (given b belongs s))
  -- after a refusal a lent buffer is as it was (rule 12.1.5): of an entry that writes the text of an event, and of both
  -- readers over one text
  pub write_keeps : (text : Event → List ℕ) (a : Answer Event) (d : List ℕ) (n p : ℕ) → writes text a d ≡ refused n p → leaves text a d ≡ d
  pub string_keeps : (b : Bool) (t d : List ℕ) (n p : ℕ) → writes itself (read_string b t) d ≡ refused n p → leaves itself (read_string b t) d ≡ d
  pub version_keeps : (s d : List ℕ) (n p : ℕ) → versions s d ≡ refused n p → version_leaves s d ≡ d
  pub bare_keeps : (s d : List ℕ) (n p : ℕ) → bares s d ≡ refused n p → bare_leaves s d ≡ d
  pub elements_keep : (b : Bool) (i : ℕ) (s d : List ℕ) (n p : ℕ) → elements_told b i s d ≡ refused n p → elements_left b i s d ≡ d
  pub both_keeps : (s d₁ d₂ : List ℕ) (n p : ℕ) → both s d₁ d₂ ≡ refused n p → (both_first s d₁ d₂ ≡ d₁) × (both_second s d₁ d₂ ≡ d₂)
  pub offer_keeps : (slots cells : List ℕ) (a : Answer Event) (n p : ℕ) → table_offer_of slots cells a ≡ refused n p
      → (bytes_after (table_offer_of slots cells a) slots ≡ slots) × (cells_after (table_offer_of slots cells a) cells ≡ cells)
  pub empty_keeps : (slots cells : List ℕ) (n p : ℕ) → sized slots cells ≡ refused n p
      → (zeroed (sized slots cells) slots ≡ slots) × (zeroed (sized slots cells) cells ≡ cells)
  pub start_keeps : (b : List ℕ) (n p : ℕ) → writes bytes_of_state (shown started) b ≡ refused n p → leaves bytes_of_state (shown started) b ≡ b
  pub add_keeps : (b p : List ℕ) (n q : ℕ) → writes bytes_of_state (add_in b p) b ≡ refused n q → leaves bytes_of_state (add_in b p) b ≡ b
  pub finish_keeps : (b d : List ℕ) (n p : ℕ) → writes itself (finish_in b) d ≡ refused n p → leaves itself (finish_in b) d ≡ d
  -- no number is 0
  pub hash_not_0 : among hash_numbers 0 ≡ false
  pub packed_not_0 : (b : Bool) → among (writer_numbers b) 0 ≡ false
  pub string_not_0 : (b : Bool) → among (string_numbers b) 0 ≡ false
  pub view_not_0 : (b : Bool) → among (given_view_numbers b) 0 ≡ false
  pub nson_not_0 : among nson_numbers 0 ≡ false
  pub json_not_0 : among json_numbers 0 ≡ false
  pub pointer_not_0 : (among question_numbers 0 ≡ false) × (among converting_numbers 0 ≡ false)
  pub form_not_0 : (b : Bool) → among (form_numbers b) 0 ≡ false
