-- Every refusal of the NSON reader has one of its own numbers, and a place that does not pass the input's end.
-- Along the definitions: each piece ends in the input or is refused where it starts, and a fault in a string is 5, 13
-- or 14.
use Prim.{Unit, tt}
use Prim.Native.Nat.{ℕ, zero, suc, ◌+◌, ◌-◌, ◌≤◌}
use mathlib.Core.Path.{◌≡◌, refl}
use mathlib.Core.Bool.{Bool, true, false}
use mathlib.Core.List.{List, [], ◌∷◌}
use native.Mathlib.Omega.{arith}
use lib.ListN.{length, length-take, length-drop, drop}
use lib.Dec.{ltb, leb, eqb}
use borrow.Author.Tests.{eqb-true}
use Rattle.scan.specs.Choice.{pick, Answer, Read}
use Rattle.scan.specs.Place.{byte_at, stands_at, within}
use Rattle.scan.proofs.Step.{pick_true, pick_by}
use Rattle.scan.proofs.SpanLaws.{span_fits}
use Rattle.scan.proofs.PlaceLaws.{stands_span}
use Rattle.utf8.specs.inner.Width.{width_of}
use Rattle.hexdigits.specs.Hex.{all_digits}
use Rattle.decimal.specs.Decimal.{decimal, number_of}
use Rattle.scan.specs.Compare.{same_bytes}
use Rattle.event.specs.Event.{Event}
use Rattle.event.specs.inner.Tells.{among, Tells, value, refusal}
use Rattle.event.proofs.TellsLaws.{Inside, then_tells, pick_tells, less_tells, many_tells}
use Rattle.nsonstring.specs.Counted.{is_letter, fault_from, fault_in}
use Rattle.nson.specs.Nson.{Counts}
use Rattle.nson.specs.Read as reading
use Rattle.nson.specs.Read.{part_at, read_nson}
use Rattle.nson.specs.inner.Numbers.{nson_numbers}

-- ---- faults in a string

-- no fault, or one of the reader's numbers
abbrev Fault : ℕ → Type 0
Fault n = pick (eqb n 0) true (among nson_numbers n) ≡ true

fault_number : (k : ℕ) (l : List ℕ) → Fault (fault_from k l)
unfolding fault_from
fault_number zero [] = refl
fault_number (suc k) [] = refl
fault_number (suc k) (b ∷ l) = fault_number k l
fault_number zero (b ∷ l) =
    let w = width_of b (byte_at l 0) (byte_at l 1) (byte_at l 2) in
    pick_by Fault (eqb b 0x22) (λ t. refl)
    (λ f.
    pick_by Fault (ltb b 0x20) (λ t. refl)
    (λ f.
    pick_by Fault (eqb b 0x5C) (λ t. pick_by Fault (is_letter (byte_at l 0)) (λ t. fault_number 1 l) (λ f. refl))
    (λ f. pick_by Fault (eqb w 0) (λ t. refl) (λ f. fault_number (w - 1) l))))

fault_among : (l : List ℕ) → eqb (fault_in l) 0 ≡ false → among nson_numbers (fault_in l) ≡ true
unfolding fault_in
fault_among l f = rw f at (fault_number 0 l)

module _ (s : List ℕ) where
  -- behind n bytes that are there
  abbrev Behind : ℕ → ℕ → Answer ℕ → Type 0
  Behind at n = Tells nson_numbers (length s) (λ (p : ℕ). (p ≡ at + n) × (p ≤ length s))

  abbrev ReadBehind : {A : Type 0} → ℕ → ℕ → Answer (Read A) → Type 0
  ReadBehind {A} at n = Tells nson_numbers (length s) (λ (r : Read A). (r.next ≡ at + n) × (r.next ≤ length s))

  part_inside : (n at : ℕ) → at ≤ length s → length (part_at n s at) ≡ n → at + n ≤ length s
  part_inside n at h e = omega (arith, length-take n (drop at s), length-drop at s, h, e)

  -- ---- pieces

  piece : (k : ℕ) → among nson_numbers k ≡ true → (w : List ℕ) (at : ℕ) → at ≤ length s → Behind at (length w) (reading.piece_at k w s at)
  unfolding reading.piece_at
  piece k o w at h =
      pick_tells (stands_at w s at) (λ t. value (refl, omega (arith, span_fits (stands_span w s at t), h))) (λ f. refusal o h)

  hex : (n at : ℕ) → at ≤ length s → Behind at n (reading.hex_at n s at)
  unfolding reading.hex_at
  hex n at h =
      let l = part_at n s at in
      pick_tells (eqb (length l) n)
      (λ t. pick_tells (all_digits l) (λ u. value (refl, part_inside n at h (eqb-true (length l) n t))) (λ u. refusal refl h))
      (λ f. refusal refl h)

  decimal_at_lem : (k : ℕ) → among nson_numbers k ≡ true → (n at : ℕ) → at ≤ length s → ReadBehind at n (reading.decimal_at k n s at)
  unfolding reading.decimal_at reading.is_decimal
  decimal_at_lem k o n at h =
      let l = part_at n s at in
      pick_tells (reading.is_decimal n l)
      (λ t. value (refl, part_inside n at h (eqb-true (length l) n (pick_true (eqb (length l) n) (same_bytes l (decimal (number_of l))) t).0)))
      (λ f. refusal o h)

  text : (n at : ℕ) → at ≤ length s → Behind at n (reading.text_at n s at)
  unfolding reading.text_at
  text n at h =
      let l = part_at n s at in
      pick_tells (eqb (fault_in l) 0)
      (λ t. pick_tells (eqb (length l) n) (λ u. value (refl, part_inside n at h (eqb-true (length l) n u))) (λ u. refusal refl h))
      (λ f. refusal (fault_among l f) h)

  -- ---- up to the descriptors

  labelled : (w : List ℕ) (n at : ℕ) → at ≤ length s → Behind at (length w + n) (reading.labelled_at w n s at)
  unfolding reading.labelled_at
  labelled w n at h =
      then_tells _ (piece 12 refl w at h) (λ a p. less_tells (λ b q. (omega (arith, p.0, q.0), q.1)) (hex n a p.1))

  -- the nson field starts at 318
  head : Tells nson_numbers (length s) (λ (r : Read ℕ). (r.next ≡ 318) × (r.next ≤ length s)) (reading.head_at s)
  unfolding reading.head_at reading.keys_at reading.time_at
  head =
      then_tells {P = λ (p : ℕ). (p ≡ 284) × (p ≤ length s)} _
      (then_tells _ (labelled _ 64 0 (omega arith))
      (λ a p.
      then_tells _ (labelled _ 64 a p.1) (λ b q. less_tells (λ c r. (omega (arith, p.0, q.0, r.0), r.1)) (labelled _ 128 b q.1))))
      (λ a p.
      then_tells {P = λ (r : Read ℕ). (r.next ≡ 309) × (r.next ≤ length s)} _
      (then_tells _ (piece 12 refl _ a p.1) (λ b q. less_tells (λ r z. (omega (arith, p.0, q.0, z.0), z.1)) (decimal_at_lem 12 refl 10 b q.1)))
      (λ t q. then_tells _ (piece 12 refl _ t.next q.1) (λ b z. value (omega (arith, q.0, z.0), z.1))))

  -- ---- the descriptors, where the input has 318 bytes

  module _ (long : 318 ≤ length s) where
    descriptor : (n end at : ℕ) → at ≤ length s → Tells nson_numbers (length s) (λ (p : ℕ). p ≤ length s) (reading.descriptor_at n end s at)
    unfolding reading.descriptor_at
    descriptor n end at h = pick_tells (leb (at + n) end) (λ t. less_tells (λ p q. q.1) (hex n at h)) (λ f. refusal refl long)

    byte_count : (end at : ℕ) → at ≤ length s → Inside nson_numbers (length s) (reading.byte_count_at end s at)
    unfolding reading.byte_count_at
    byte_count end at h = then_tells _ (descriptor 2 end at h) (λ p q. value q)

    word_count : (end at : ℕ) → at ≤ length s → Inside nson_numbers (length s) (reading.word_count_at end s at)
    unfolding reading.word_count_at
    word_count end at h = then_tells _ (descriptor 4 end at h) (λ p q. value q)

    tag_counts_lem : (end at : ℕ) → at ≤ length s → Inside nson_numbers (length s) (reading.tag_counts_at end s at)
    unfolding reading.tag_counts_at reading.item_count_at
    tag_counts_lem end at h =
        then_tells {P = λ (r : Read ℕ). r.next ≤ length s} _
        (then_tells _ (byte_count end at h) (λ n p. pick_tells (eqb n.value 0) (λ t. refusal refl h) (λ f. value p)))
        (λ n p. many_tells (reading.word_count_at end s) (word_count end) n.value n.next p)

    counts : Inside nson_numbers (length s) (reading.counts_at s)
    unfolding reading.counts_at reading.counts_to reading.kind_count_at
    counts =
        then_tells _ (hex 2 318 long)
        (λ p q.
        let end = p + reading.byte_here s 318 in
        then_tells {P = λ (r : Read ℕ). r.next ≤ length s} _
        (then_tells _ (byte_count end p q.1) (λ n i. pick_tells (within 1 5 n.value) (λ t. value i) (λ f. refusal refl q.1)))
        (λ k i.
        then_tells _ (word_count end k.next i)
        (λ c j.
        then_tells _ (byte_count end c.next j)
        (λ n x.
        then_tells _ (many_tells (reading.tag_counts_at end s) (tag_counts_lem end) n.value n.next x)
        (λ t y. pick_tells (eqb t.next end) (λ u. value y) (λ f. refusal refl long))))))

  -- ---- the text that is counted

  comma : (later : Bool) (at : ℕ) → at ≤ length s → Tells nson_numbers (length s) (λ (p : ℕ). p ≤ length s) (reading.comma_at later s at)
  comma false at h = value h
  comma true at h = less_tells (λ p q. q.1) (piece 13 refl _ at h)

  module _ {N A : Type 0} (item : N → ℕ → Answer (Read A)) (g : (n : N) (at : ℕ) → at ≤ length s → Inside nson_numbers (length s) (item n at)) where
    items : (later : Bool) (l : List N) (at : ℕ) → at ≤ length s → Inside nson_numbers (length s) (reading.items_at item later l s at)
    unfolding reading.items_at
    items later [] at h = value h
    items later (n ∷ l) at h =
        then_tells _ (comma later at h)
        (λ c p. then_tells _ (g n c p) (λ x q. then_tells _ (items true l x.next q) (λ xs r. value r)))

    array : (l : List N) (at : ℕ) → at ≤ length s → Inside nson_numbers (length s) (reading.array_at item l s at)
    unfolding reading.array_at
    array l at h =
        then_tells _ (piece 13 refl _ at h)
        (λ a p. then_tells _ (items false l a p.1) (λ xs q. then_tells _ (piece 13 refl _ xs.next q) (λ b r. value r.1)))

  item : (n at : ℕ) → at ≤ length s → Inside nson_numbers (length s) (reading.item_at s n at)
  unfolding reading.item_at
  item n at h =
      then_tells _ (piece 13 refl _ at h)
      (λ a p. then_tells _ (text n a p.1) (λ b q. then_tells _ (piece 13 refl _ b q.1) (λ c r. value r.1)))

  tag : (l : List ℕ) (at : ℕ) → at ≤ length s → Inside nson_numbers (length s) (reading.tag_at s l at)
  unfolding reading.tag_at
  tag l at h = array (reading.item_at s) item l at h

  kind_part : (n at : ℕ) → at ≤ length s → Inside nson_numbers (length s) (reading.kind_part_at n s at)
  unfolding reading.kind_part_at reading.kind_at
  kind_part n at h =
      then_tells _ (piece 13 refl _ at h)
      (λ a p. then_tells _ (decimal_at_lem 13 refl n a p.1) (λ k q. pick_tells (leb k.value 65_535) (λ t. value q.1) (λ f. refusal refl p.1)))

  content_part : (n at : ℕ) → at ≤ length s → Inside nson_numbers (length s) (reading.content_part_at n s at)
  unfolding reading.content_part_at
  content_part n at h = then_tells _ (piece 13 refl _ at h) (λ a p. then_tells _ (text n a p.1) (λ b q. value q.1))

  tags_part : (l : List (List ℕ)) (at : ℕ) → at ≤ length s → Inside nson_numbers (length s) (reading.tags_part_at l s at)
  unfolding reading.tags_part_at reading.tags_standing
  tags_part l at h =
      then_tells _ (piece 13 refl _ at h)
      (λ a p. then_tells _ (array (reading.tag_at s) tag l a p.1) (λ t q. then_tells _ (piece 13 refl _ t.next q) (λ b r. value r.1)))

  body : (c : Counts) (at : ℕ) → at ≤ length s → Inside nson_numbers (length s) (reading.body_read_at c s at)
  unfolding reading.body_read_at
  body c at h =
      then_tells _ (kind_part c.kind at h)
      (λ k p. then_tells _ (content_part c.content k.next p) (λ x q. then_tells _ (tags_part c.tags x.next q) (λ t r. value r)))

-- ---- the whole

-- THE refusals of the NSON reader
pub nson_tells : (s : List ℕ) → Tells nson_numbers (length s) (λ (e : Event). Unit) (read_nson s)
unfolding read_nson reading.event_at
nson_tells s =
    pick_tells (leb (length s) 65_536)
    (λ t.
    then_tells {P = λ (r : Read Event). r.next ≤ length s} _
    (then_tells _ (head s)
    (λ h p. then_tells _ (counts s (omega (arith, p.0, p.1))) (λ n q. then_tells _ (body s n.value n.next q) (λ b r. value r))))
    (λ e p. pick_tells (eqb e.next (length s)) (λ u. value tt) (λ f. refusal refl p)))
    (λ f. refusal refl (omega arith))
