-- A refusal of the notepack reader has one of its numbers, and its place is in the input or at its end; so is every
-- part that is found.
-- Along the definitions of the reading: each read ends in the input, and refuses at a place that was reached.
use Prim.{Unit, tt}
use Prim.Native.Nat.{ℕ, zero, suc, ◌+◌, ◌-◌, ◌/◌, ◌%◌, ◌≤◌}
use mathlib.Core.Path.{◌≡◌, refl}
use mathlib.Core.Bool.{Bool, true, false}
use mathlib.Core.List.{List, [], ◌∷◌}
use native.Mathlib.Omega.{arith}
use lib.ListN.{length}
use lib.Dec.{leb, eqb}
use borrow.Author.Tests.{leb-true}
use Rattle.scan.specs.Choice.{Answer, shown, refused, Read}
use Rattle.scan.specs.Bytes.{All, also}
use Rattle.utf8.specs.inner.Width.{is_utf8}
use Rattle.varint.specs.Varint.{varint_at}
use Rattle.varint.proofs.VarintLaws.{Refuses, truncated, overflow, unterminated, longer, refusal as refuses, consumes_some}
use Rattle.event.specs.Event.{Event}
use Rattle.event.specs.inner.Tells.{among, Tells, value, refusal}
use Rattle.event.proofs.TellsLaws.{Inside, then_tells, pick_tells, many_all_tells, wider}
use Rattle.notepack.specs.declared.Part.{Part}
use Rattle.notepack.specs.declared.Head.{Head}
use Rattle.notepack.specs.Unpack.{bytes_of, payload_at, text_at, number_at, content_at, element_at, tag_count_at, tag_at, numbers_at, head_at, Packed, packed_at, unpack}
use Rattle.notepack.specs.inner.Numbers.{packed_numbers, view_numbers}
use Rattle.notepack.specs.Views.{numbers_of, nth, tag_of, texts_in, element_of}

module _ (s : List ℕ) where
  -- a read that ends in the input
  abbrev In : {A : Type 0} → Answer (Read A) → Type 0
  In {A} = Inside packed_numbers (length s)

  -- a part that starts in the input, or at its end
  abbrev pub PartIn : Part → Type 0
  PartIn p = p.at ≤ length s

  -- a read of one, which ends in the input too
  abbrev ReadIn : Answer (Read Part) → Type 0
  ReadIn = Tells packed_numbers (length s) (λ (r : Read Part). (r.next ≤ length s) × PartIn r.value)

  varint_tells : (at : ℕ) → at ≤ length s → In (varint_at s at)
  varint_tells at h = go (varint_at s at) refl
    where
      number : {k : ℕ} → Refuses k → among packed_numbers k ≡ true
      number truncated = refl
      number overflow = refl
      number unterminated = refl
      number longer = refl

      go : (x : Answer (Read ℕ)) → varint_at s at ≡ x → In x
      go (shown r) e = value (consumes_some s at e).2
      go (refused n p) e = let q = refuses s at e in refusal {p = p} (number q.0) (omega (arith, q.1))

  payload_tells : (place : ℕ) (raw : Bool) (n at : ℕ) → place ≤ length s → at ≤ length s → ReadIn (payload_at place raw n s at)
  unfolding payload_at
  payload_tells place raw n at h k =
      pick_tells (leb n (length s - at)) (λ t. value (omega (arith, leb-true n (length s - at) t), k)) (λ f. refusal refl h)

  text_tells : (place n at : ℕ) → place ≤ length s → at ≤ length s → ReadIn (text_at place n s at)
  unfolding text_at
  text_tells place n at h k =
      then_tells _ (payload_tells place false n at h k)
      (λ p e. pick_tells (is_utf8 (bytes_of s p.value)) (λ t. value e) (λ f. refusal refl k))

  number_tells : (max number at : ℕ) → among packed_numbers number ≡ true → at ≤ length s → In (number_at max number s at)
  unfolding number_at
  number_tells max number at o h =
      then_tells _ (varint_tells at h) (λ n e. pick_tells (leb n.value max) (λ t. value e) (λ f. refusal o h))

  content_tells : (at : ℕ) → at ≤ length s → ReadIn (content_at s at)
  unfolding content_at
  content_tells at h = then_tells _ (varint_tells at h) (λ n e. text_tells at n.value n.next h e)

  element_tells : (at : ℕ) → at ≤ length s → ReadIn (element_at s at)
  unfolding element_at
  element_tells at h =
      then_tells _ (varint_tells at h)
      (λ w e.
      pick_tells (eqb (w.value % 2) 1)
      (λ t. payload_tells at true (w.value / 2) w.next h e)
      (λ f. text_tells at (w.value / 2) w.next h e))

  count_tells : (at : ℕ) → at ≤ length s → In (tag_count_at s at)
  unfolding tag_count_at
  count_tells at h =
      then_tells _ (number_tells 255 8 at refl h) (λ n e. pick_tells (eqb n.value 0) (λ t. refusal refl h) (λ f. value e))

  tag_tells : (at : ℕ) → at ≤ length s → Tells packed_numbers (length s) (λ (r : Read (List Part)). (r.next ≤ length s) × All PartIn r.value) (tag_at s at)
  unfolding tag_at
  tag_tells at h = then_tells _ (count_tells at h) (λ n e. many_all_tells _ element_tells n.value n.next e)

  -- a field of fixed width, and the place behind it
  fixed_tells : (at n : ℕ) → at ≤ length s → Tells packed_numbers (length s) (λ (r : Read Part). at + n ≤ length s) (payload_at at true n s at)
  unfolding payload_at
  fixed_tells at n h =
      pick_tells (leb n (length s - at)) (λ t. value (omega (arith, leb-true n (length s - at) t))) (λ f. refusal refl h)

  -- where the content stands, and the tags
  abbrev pub HeadIn : Head → Type 0
  HeadIn h = PartIn h.content × (h.tags_at ≤ length s)

  head_tells : Tells packed_numbers (length s) HeadIn (head_at s)
  unfolding head_at numbers_at
  head_tells =
      then_tells _ (fixed_tells 0 32 (omega arith))
      (λ _ i.
      then_tells _ (fixed_tells 32 32 i)
      (λ _ p.
      then_tells _ (fixed_tells 64 64 p)
      (λ _ g.
      then_tells _ (number_tells 9_223_372_036_854_775 7 128 refl g)
      (λ t e.
      then_tells _ (number_tells 65_535 6 t.next refl e)
      (λ k f.
      then_tells _ (content_tells k.next f)
      (λ c h.
      then_tells _ (number_tells 1_000 8 c.next refl h.0)
      (λ n j. value (h.1, j))))))))

  -- the reader of places
  pub packed_tells : Tells packed_numbers (length s) (λ (p : Packed). HeadIn p.head × All (All PartIn) p.tags) (packed_at s)
  unfolding packed_at
  packed_tells =
      pick_tells (leb (length s) 65_536)
      (λ _.
      then_tells _ head_tells
      (λ h e.
      then_tells _ (many_all_tells _ tag_tells h.tag_count h.tags_at e.1)
      (λ t f. pick_tells (eqb t.next (length s)) (λ _. value (e, f.1)) (λ _. refusal refl f.0))))
      (λ _. refusal refl (omega arith))

  -- the reader of the event
  pub unpack_tells : Tells packed_numbers (length s) (λ (e : Event). Unit {0}) (unpack s)
  unfolding unpack
  unpack_tells = then_tells _ packed_tells (λ p _. value tt)

  -- the numbers
  pub numbers_tells : Tells packed_numbers (length s) HeadIn (numbers_of s)
  unfolding numbers_of
  numbers_tells = then_tells _ packed_tells (λ p h. value h.0)

  -- number i of a list is 19 at 0 where there is none
  nth_tells : {A : Type 0} {Q : A → Type 0} (i : ℕ) (l : List A) → All Q l → Tells view_numbers (length s) Q (nth i l)
  nth_tells i [] h = refusal {p = 0} refl (omega arith)
  nth_tells zero (x ∷ l) (also h a) = value h
  nth_tells (suc i) (x ∷ l) (also h a) = nth_tells i l a

  tag_of_tells : (i : ℕ) → Tells view_numbers (length s) (All PartIn) (tag_of i s)
  unfolding tag_of
  tag_of_tells i = then_tells _ (wider refl (omega arith) packed_tells) (λ p h. nth_tells i p.tags h.1)

  -- the number of texts in tag i: the reader's numbers, and 19
  pub texts_tells : (i : ℕ) → Tells view_numbers (length s) (λ (n : ℕ). Unit {0}) (texts_in i s)
  unfolding texts_in
  texts_tells i = then_tells _ (tag_of_tells i) (λ t _. value tt)

  -- element j of tag i: the reader's numbers, and 19
  pub element_of_tells : (i j : ℕ) → Tells view_numbers (length s) PartIn (element_of i j s)
  unfolding element_of
  element_of_tells i j = then_tells _ (tag_of_tells i) (λ t h. nth_tells j t h)
