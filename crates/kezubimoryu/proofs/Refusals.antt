-- Every entry's refusals are its own, with a number that is not 0 and a place in the input.
-- From what each reading tells; an entry that writes adds 11 alone.
use Prim.{Unit, tt}
use Prim.Native.Nat.{ℕ}
use mathlib.Core.Path.{◌≡◌, refl}
use mathlib.Core.Bool.{Bool, true, false}
use mathlib.Core.List.{List, [], ◌∷◌}
use native.Mathlib.Omega.{arith}
use lib.ListN.{length}
use lib.Dec.{eqb, leb}
use borrow.Author.Tests.{leb-false}
use Rattle.scan.specs.Choice.{pick, Answer, shown, refused, and_then}
use Rattle.buffer.specs.Entry.{written, filled, writes, leaves}
use Rattle.event.specs.Event.{Event}
use Rattle.event.specs.inner.Tells.{among, Tells, value, refusal}
use Rattle.event.proofs.TellsLaws.{then_tells, pick_tells, all_among, wider}
use Rattle.notepack.specs.Unpack.{Packed, unpack}
use Rattle.notepack.specs.Strict.{pack}
use Rattle.notepack.proofs.Telling.{unpack_tells}
use Rattle.elements.specs.Elements.{rows, listed, elements_told, elements_left}
use Rattle.strict.specs.Strict.{strict}
use Rattle.strict.proofs.Telling.{strict_tells}
use Rattle.versioned.specs.Versioned.{given}
use Rattle.versioned.specs.Views.{packed_given}
use Rattle.versioned.specs.Moves.{with_version, without_version, accepted, movable}
use Rattle.versioned.specs.inner.Numbers.{given_numbers, given_view_numbers}
use Rattle.stringform.specs.inner.Numbers.{string_numbers}
use Rattle.versioned.proofs.Telling.{given_tells, packed_given_tells, numbers_given_tells, texts_given_tells, element_given_tells, accepted_tells, movable_tells}
use Rattle.stringform.specs.StringForm.{event_string, read_string, itself}
use Rattle.stringform.proofs.Telling.{string_tells}
use Rattle.canonical.specs.Canonical.{canonical}
use Rattle.nson.specs.Nson.{nson}
use Rattle.nson.specs.inner.Decision.{carries}
use Rattle.nson.specs.Entries.{carried}
use Rattle.nson.proofs.Telling.{nson_tells}
use Rattle.jsonevent.specs.Object.{read_json}
use Rattle.pointer.specs.Entries.{within65536, convertible}
use Rattle.pointer.specs.Written.{pointer_form}
use Rattle.pointer.proofs.Telling.{form_tells}
use Rattle.pointer.proofs.ViewTelling.{texts_tell, element_tells, convertible_tells}
use Rattle.jsonevent.specs.inner.Numbers.{json_numbers}
use Rattle.jsonevent.proofs.Telling.{json_tells}
use Rattle.bothreaders.specs.Both.{Compared, compared, both_of, first_of, second_of, both, both_first, both_second}
use Rattle.nson.specs.Read.{read_nson}
use Rattle.versionedrivals.proofs.Telling.{rivals_given_tell}
use Rattle.table.specs.Standing.{Stand}
use Rattle.table.specs.Offer.{Offer, cells_after}
use Rattle.tablebytes.specs.Entries.{table_offer_of, bytes_after, sized, zeroed}
use Rattle.tablebytes.specs.inner.Telling as telling
use Rattle.tablebytes.specs.inner.Telling.{OfferTells, outcome, of_event, over_a_cell, full, SlotTells, found, no_event}
use Rattle.tablebytes.proofs.Telling.{table_offer_tells, table_slot_tells}
use Rattle.sha256.specs.Pieces.{started}
use Rattle.sha256.specs.declared.Hash.{Hash}
use Rattle.sha256bytes.specs.StateBytes.{bytes_of_state, add_in, finish_in}
use Rattle.sha256bytes.proofs.Telling.{HashTells, short, too_long, add_tells, finish_tells}
use Rattle.identity.specs.Identity.{belongs}
use Rattle.identity.proofs.Telling.{belongs_tells}
use Rattle.kezubimoryu.specs.Entries.{outcome_number}
use Rattle.kezubimoryu.specs.inner.Refusals.{Asks, Fills, too_short, FillsBoth, first_short, second_short, writer_numbers, form_numbers, hash_numbers, Refusals}

-- a question of which only the answer's being there is told, or a number of it
told : {A : Type 0} {P : A → Type 0} {numbers : List ℕ} (s : List ℕ) {r : Answer A} (f : A → ℕ) → Tells numbers (length s) P r
    → Asks numbers s (and_then r (λ (a : A). shown (f a)))
told s f (value p) = value tt
told s f (refusal o h) = refusal o h

asked : {P : ℕ → Type 0} {numbers : List ℕ} (s : List ℕ) {r : Answer ℕ} → Tells numbers (length s) P r → Asks numbers s r
asked s (value p) = value tt
asked s (refusal o h) = refusal o h

-- an entry that writes the text of what was read
fills : {A : Type 0} {P : A → Type 0} {numbers : List ℕ} (s : List ℕ) (text : A → List ℕ) (r : Answer A) (d : List ℕ) → Tells numbers (length s) P r
    → Fills numbers s d (writes text r d)
unfolding written
fills {numbers = numbers} s text (shown a) d (value p) = go (leb (length (text a)) (length d)) refl
  where
    go : (t : Bool) → leb (length (text a)) (length d) ≡ t → Fills numbers s d (pick t (shown (length (text a))) (refused 11 (length (text a))))
    go true e = Fills.written
    go false e = too_short (leb-false (length (text a)) (length d) e)
fills s text (refused n q) d (refusal o h) = Fills.refusal o h

-- the event of an input of either form
unpacks : (b : Bool) (s : List ℕ) → Tells (given_numbers b) (length s) (λ (e : Event). Unit {0}) (given b unpack s)
unpacks b s = given_tells b unpack s unpack_tells

given_among : (b : Bool) → all_among (given_numbers b) (writer_numbers b) ≡ true
given_among true = refl
given_among false = refl

-- what NSON can't carry is 17 at 0
carried_tells : (b : Bool) (s : List ℕ) → Tells (writer_numbers b) (length s) (λ (e : Event). Unit {0}) (carried (given b unpack s))
carried_tells b s =
    then_tells _ (wider {a = given_numbers b} (given_among b) (omega arith) (unpacks b s)) (λ e p. pick_tells (carries e) (λ t. value tt) (λ f. refusal refl (omega arith)))

form_among : (b : Bool) → all_among (given_numbers b) (form_numbers b) ≡ true
form_among true = refl
form_among false = refl

-- a form that would be too long is 29 at 0
form_tells_given : (b : Bool) (s : List ℕ) → Tells (form_numbers b) (length s) (λ (e : Event). Unit {0}) (within65536 pointer_form (given b unpack s))
form_tells_given b s =
    then_tells _ (wider {a = given_numbers b} (form_among b) (omega arith) (unpacks b s))
    (λ e p. pick_tells (leb (length (pointer_form e)) 65_536) (λ t. value tt) (λ f. refusal refl (omega arith)))

-- both readers: the plain JSON reader's refusals, or 11
both_fills : (s d₁ d₂ : List ℕ) → FillsBoth json_numbers s d₁ d₂ (and_then (both s d₁ d₂) (λ (c : Compared). shown c.which))
both_fills s d₁ d₂ = by (read_nson s) (read_json s) (json_tells s)
  where
    one : (n : ℕ) (t : Bool) → leb n (length d₂) ≡ t → (c : Compared)
        → FillsBoth json_numbers s d₁ d₂ (and_then (pick t (shown c) (refused 11 n)) (λ (x : Compared). shown x.which))
    one n true e c = FillsBoth.written
    one n false e c = second_short (leb-false n (length d₂) e)

    two : (n m : ℕ) (t u : Bool) → leb n (length d₂) ≡ t → leb m (length d₁) ≡ u → (c : Compared)
        → FillsBoth json_numbers s d₁ d₂ (and_then (pick t (pick u (shown c) (refused 11 m)) (refused 11 n)) (λ (x : Compared). shown x.which))
    two n m true true e f c = FillsBoth.written
    two n m true false e f c = first_short (leb-false m (length d₁) f)
    two n m false u e f c = second_short (leb-false n (length d₂) e)

    by : (a b : Answer Event) → Tells json_numbers (length s) (λ (e : Event). Unit {0}) b
        → FillsBoth json_numbers s d₁ d₂ (and_then (both_of a b d₁ d₂) (λ (c : Compared). shown c.which))
    by (shown a) (shown e) h =
        two (length (pack e)) (length (pack a)) (leb (length (pack e)) (length d₂)) (leb (length (pack a)) (length d₁)) refl refl (compared a e)
    by (refused m q) (shown e) h = one (length (pack e)) (leb (length (pack e)) (length d₂)) refl (record { which = 1; len = length (pack e) })
    by (shown a) (refused n p) (refusal o h) = FillsBoth.refusal o h
    by (refused m q) (refused n p) (refusal o h) = FillsBoth.refusal o h

-- ---- what is lent keeps its bytes

no_value : {A R : Type 0} {a : A} {n p : ℕ} → shown a ≡ refused n p → R
no_value e = let z : ◌≡◌ {A = ℕ} 0 1 = cc in absurd (omega arith)

-- a text that does not fit leaves the buffer
kept : (text d : List ℕ) → leb (length text) (length d) ≡ false → filled text d ≡ d
unfolding filled
kept text d h = rw h refl

write_keeps : {A : Type 0} (text : A → List ℕ) (a : Answer A) (d : List ℕ) (n p : ℕ) → writes text a d ≡ refused n p → leaves text a d ≡ d
unfolding written
write_keeps text (shown x) d n p = go (leb (length (text x)) (length d)) refl
  where
    go : (t : Bool) → leb (length (text x)) (length d) ≡ t → pick t (shown (length (text x))) (refused 11 (length (text x))) ≡ refused n p → filled (text x) d ≡ d
    go true e h = no_value h
    go false e h = kept (text x) d e
write_keeps text (refused k q) d n p = λ h. refl

either_way : (t : Bool) {x d : List ℕ} → x ≡ d → pick t x d ≡ d
either_way true e = e
either_way false e = refl

both_keeps : (s d₁ d₂ : List ℕ) (n p : ℕ) → both s d₁ d₂ ≡ refused n p → (both_first s d₁ d₂ ≡ d₁) × (both_second s d₁ d₂ ≡ d₂)
both_keeps s d₁ d₂ n p = by (read_nson s) (read_json s)
  where
    two : (a e : Event) (t u : Bool) → leb (length (pack e)) (length d₂) ≡ t → leb (length (pack a)) (length d₁) ≡ u
        → pick t (pick u (shown (compared a e)) (refused 11 (length (pack a)))) (refused 11 (length (pack e))) ≡ refused n p
        → (pick t (filled (pack a) d₁) d₁ ≡ d₁) × (pick u (filled (pack e) d₂) d₂ ≡ d₂)
    two a e true true f g h = no_value h
    two a e true false f g h = (kept (pack a) d₁ g, refl)
    two a e false u f g h = (refl, either_way u (kept (pack e) d₂ f))

    one : (e : Event) (t : Bool) → leb (length (pack e)) (length d₂) ≡ t
        → pick {A = Answer Compared} t (shown (record { which = 1; len = length (pack e) })) (refused 11 (length (pack e))) ≡ refused n p
        → filled (pack e) d₂ ≡ d₂
    one e true f h = no_value h
    one e false f h = kept (pack e) d₂ f

    by : (a b : Answer Event) → both_of a b d₁ d₂ ≡ refused n p → (first_of a b d₁ d₂ ≡ d₁) × (second_of a b d₁ d₂ ≡ d₂)
    by (shown a) (shown e) h = two a e (leb (length (pack e)) (length d₂)) (leb (length (pack a)) (length d₁)) refl refl h
    by (refused m q) (shown e) h = (refl, one e (leb (length (pack e)) (length d₂)) refl h)
    by (shown a) (refused k q) h = (refl, refl)
    by (refused m q) (refused k r) h = (refl, refl)

elements_keep : (b : Bool) (i : ℕ) (s d : List ℕ) (n p : ℕ) → elements_told b i s d ≡ refused n p → elements_left b i s d ≡ d
elements_keep b i s d n p = go (packed_given b s)
  where
    go : (a : Answer Packed) → and_then a (λ (p : Packed). shown (length (listed i d p))) ≡ refused n p → leaves (λ (p : Packed). rows (listed i d p)) a d ≡ d
    go (shown x) h = no_value h
    go (refused k q) h = refl

-- ---- a table

offer_told : {A B : Type 0} {l s : List ℕ} {a : Answer A} (f : A → B) → OfferTells l s a → OfferTells l s (and_then a (λ (x : A). shown (f x)))
offer_told f outcome = outcome
offer_told f (telling.OfferTells.bad_table h) = telling.OfferTells.bad_table h
offer_told f (of_event h k) = of_event h k
offer_told f over_a_cell = over_a_cell
offer_told f full = full

slot_told : {A B : Type 0} {a : Answer A} (f : A → B) → SlotTells a → SlotTells (and_then a (λ (x : A). shown (f x)))
slot_told f found = found
slot_told f (telling.SlotTells.bad_table h) = telling.SlotTells.bad_table h
slot_told f no_event = no_event

sized_tells : (slots cells : List ℕ) → Tells (34 ∷ []) 0 (λ (v : ℕ). Unit {0}) (sized slots cells)
sized_tells slots cells = go (eqb (length slots) 1_024) (eqb (length cells) 65_536)
  where
    go : (t u : Bool) → Tells (34 ∷ []) 0 (λ (v : ℕ). Unit {0}) (pick t (pick u (shown 0) (refused 34 0)) (refused 34 0))
    go true true = value tt
    go true false = refusal {p = 0} refl (omega arith)
    go false u = refusal {p = 0} refl (omega arith)

offer_keeps : (slots cells : List ℕ) (a : Answer Event) (n p : ℕ) → table_offer_of slots cells a ≡ refused n p
    → (bytes_after (table_offer_of slots cells a) slots ≡ slots) × (cells_after (table_offer_of slots cells a) cells ≡ cells)
offer_keeps slots cells a n p e = rw e (refl, refl)

empty_keeps : (slots cells : List ℕ) (n p : ℕ) → sized slots cells ≡ refused n p
    → (zeroed (sized slots cells) slots ≡ slots) × (zeroed (sized slots cells) cells ≡ cells)
empty_keeps slots cells n p e = rw e (refl, refl)

-- ---- the hash

-- a state tells nothing
some : {numbers : List ℕ} (s : Hash) → Tells numbers 0 (λ (x : Hash). Unit {0}) (shown s)
some s = value tt

add_fills : (b p : List ℕ) → Fills hash_numbers [] b (writes bytes_of_state (add_in b p) b)
add_fills b p = go (add_in b p) (add_tells b p)
  where
    go : (a : Answer Hash) → HashTells b a → Fills hash_numbers [] b (writes bytes_of_state a b)
    go (shown s) h = fills [] bytes_of_state (shown s) b (some s)
    go (refused n q) (short h) = too_short h
    go (refused n q) too_long = Fills.refusal {p = 0} refl (omega arith)

finish_fills : (b d : List ℕ) → FillsBoth hash_numbers [] b d (writes itself (finish_in b) d)
unfolding written
finish_fills b d = go (finish_in b) (finish_tells b)
  where
    room : (text : List ℕ) (t : Bool) → leb (length text) (length d) ≡ t → FillsBoth hash_numbers [] b d (pick t (shown (length text)) (refused 11 (length text)))
    room text true e = FillsBoth.written
    room text false e = second_short (leb-false (length text) (length d) e)

    go : (a : Answer (List ℕ)) → HashTells b a → FillsBoth hash_numbers [] b d (writes itself a d)
    go (shown text) h = room text (leb (length text) (length d)) refl
    go (refused n q) (short h) = first_short h
    go (refused n q) too_long = FillsBoth.refusal {p = 0} refl (omega arith)

-- of either form no number is 0
either_form : (f : Bool → List ℕ) → among (f true) 0 ≡ false → among (f false) 0 ≡ false → (b : Bool) → among (f b) 0 ≡ false
either_form f e h true = e
either_form f e h false = h

-- THE refusals of the C entries
pub entries_refuse : Refusals
entries_refuse =
    record {
      notepack_read = λ b s. told s (λ h. 0) (numbers_given_tells b s);
      notepack_is_strict = λ b s. told s (λ x. pick x 1 0) (given_tells b strict s strict_tells);
      notepack_write = λ b s d. fills s pack (given b unpack s) d (unpacks b s);
      notepack_tag_len = λ b i s. asked s (texts_given_tells b i s);
      notepack_element = λ b i j s. told s (λ p. 0) (element_given_tells b i j s);
      notepack_elements = λ b i s d. told s (λ p. length (listed i d p)) (packed_given_tells b s);
      string_write = λ b s d. fills s (event_string b) (given b unpack s) d (unpacks b s);
      string_read_lem = λ b t d. fills t itself (read_string b t) d (string_tells b t);
      canonical_write = λ b s d. fills s canonical (given b unpack s) d (unpacks b s);
      nson_write = λ b s d. fills s nson (carried (given b unpack s)) d (carried_tells b s);
      versioned_from_bare = λ s d. fills s with_version (movable s) d (movable_tells s);
      bare_from_versioned = λ s d. fills s without_version (accepted false s) d (accepted_tells false s);
      pointer_read = λ s. told s (λ f. 0) (form_tells s);
      pointer_tag_len = λ i s. asked s (texts_tell s i);
      pointer_element_lem = λ i j s. told s (λ p. 0) (element_tells s i j);
      pointer_convert = λ s d. fills s pack (convertible s) d (convertible_tells s);
      pointer_write = λ b s d. fills s pointer_form (within65536 pointer_form (given b unpack s)) d (form_tells_given b s);
      nson_read = λ s d. fills s pack (read_nson s) d (nson_tells s);
      json_read = λ s d. fills s pack (read_json s) d (json_tells s);
      read_both = both_fills;
      which_is_kept = rivals_given_tell;
      table_offer_lem = λ slots cells b s.
          offer_told outcome_number (offer_told (λ (o : Offer). o.outcome) (table_offer_tells (given_numbers b) s (given b unpack s) (unpacks b s) slots cells));
      table_slot_lem = λ slots cells n. slot_told (λ (p : Stand). 0) (table_slot_tells slots cells n);
      table_empty = sized_tells;
      sha256_start = λ b. fills [] bytes_of_state (shown started) b (some started);
      sha256_add = add_fills;
      sha256_finish = finish_fills;
      id_belongs = λ b s. told s (λ x. pick x 1 0) (given_tells b belongs s belongs_tells);
      write_keeps = write_keeps;
      string_keeps = λ b t d. write_keeps itself (read_string b t) d;
      version_keeps = λ s d. write_keeps with_version (movable s) d;
      bare_keeps = λ s d. write_keeps without_version (accepted false s) d;
      elements_keep = elements_keep;
      both_keeps = both_keeps;
      offer_keeps = offer_keeps;
      empty_keeps = empty_keeps;
      start_keeps = λ b. write_keeps bytes_of_state (shown started) b;
      add_keeps = λ b p. write_keeps bytes_of_state (add_in b p) b;
      finish_keeps = λ b d. write_keeps itself (finish_in b) d;
      hash_not_0 = refl;
      packed_not_0 = either_form writer_numbers refl refl;
      string_not_0 = either_form string_numbers refl refl;
      view_not_0 = either_form given_view_numbers refl refl;
      nson_not_0 = refl;
      json_not_0 = refl;
      pointer_not_0 = (refl, refl);
      form_not_0 = either_form form_numbers refl refl;
    }
