-- What the plain JSON reader may refuse with: its own numbers, at a place that does not pass the input's end.
-- One line for each form of the definitions; the tokens are those of crate jsontext.
use Prim.{Unit, tt}
use Prim.Native.Nat.{ℕ, zero, suc, ◌+◌, ◌-◌, ◌<◌, ◌≤◌}
use mathlib.Core.Path.{◌≡◌, refl}
use mathlib.Core.Bool.{true}
use mathlib.Core.List.{List}
use native.Mathlib.Omega.{arith}
use lib.ListN.{length, get_or, take, drop}
use lib.Dec.{leb, eqb}
use Rattle.scan.specs.Choice.{Answer, refused, Read}
use Rattle.decimal.specs.Decimal.{number_of}
use Rattle.event.specs.Event.{Event}
use Rattle.event.specs.inner.Tells.{among, Tells, value, refusal}
use Rattle.event.proofs.TellsLaws.{Inside, then_tells, pick_tells, wider}
use Rattle.jsontext.specs.Token.{space_at}
use Rattle.jsontext.specs.inner.Numbers.{value_numbers}
use Rattle.jsontext.proofs.TokenLaws.{space_inside}
use Rattle.jsontext.proofs.Telling.{byte_inside, space_behind, number_tells, string_tells, value_tells}
use Rattle.jsonevent.specs.Field.{text_at, is_hex_of, hex_at, digits_only, whole_of, whole_at, after_item, items_at, inside_at, array_at, one_or_more, tag_at, tags_standing, under, field_of, field_at, Fields, field}
use Rattle.jsonevent.specs.Object.{no_fields, colon_at, member_at, after_member, members_at, object_at, read_json}
use Rattle.jsonevent.specs.inner.Closing.{is_missing}
use Rattle.jsonevent.specs.inner.Numbers.{json_numbers}
use Rattle.jsonevent.specs.Object as object
use Rattle.jsonevent.proofs.Closing.{Closes, closes, lacks, close_told}

module _ (s : List ℕ) where
  abbrev In : {A : Type 0} → Answer (Read A) → Type 0
  In r = Inside json_numbers (length s) r

  own : {A : Type 0} {r : Answer (Read A)} → Inside value_numbers (length s) r → In r
  own t = wider refl (omega arith) t

  -- ---- the fields

  text_tells : (a : ℕ) → a ≤ length s → In (text_at s a)
  unfolding text_at
  text_tells a h = then_tells _ (own (string_tells s a h)) (λ r e. value e)

  hex_tells : (n a : ℕ) → a ≤ length s → In (hex_at n s a)
  unfolding hex_at
  hex_tells n a h = then_tells _ (text_tells a h) (λ t e. pick_tells (is_hex_of n t.value) (λ y. value e) (λ f. refusal refl h))

  whole_tells : (max number a : ℕ) → among json_numbers number ≡ true → a ≤ length s → In (whole_at max number s a)
  unfolding whole_at whole_of
  whole_tells max number a o h =
      then_tells _ (own (number_tells s a h))
      (λ r e.
      let l = take (r.next - a) (drop a s) in
      pick_tells (digits_only l) (λ t. pick_tells (leb (number_of l) max) (λ u. value e) (λ u. refusal o h)) (λ f. refusal refl h))

  module _ {A : Type 0} (item : ℕ → Answer (Read A)) (g : (a : ℕ) → a ≤ length s → In (item a)) where
    after_tells : (more : ℕ → Answer (Read (List A))) → ((p : ℕ) → p < length s → In (more p)) → (x : A) (p : ℕ) → p ≤ length s → In (after_item more x s p)
    unfolding after_item
    after_tells more m x p h =
        pick_tells (eqb (get_or s p 0) 0x5D) (λ t. let n = byte_inside s p 0x5D refl t in value (omega arith))
        (λ f.
        pick_tells (eqb (get_or s p 0) 0x2C) (λ t. then_tells _ (m p (byte_inside s p 0x2C refl t)) (λ xs e. value e)) (λ n. refusal refl h))

    items_tell : (left a : ℕ) → a ≤ length s → In (items_at item left s a)
    unfolding items_at
    items_tell zero a h =
        then_tells _ (g a h)
        (λ x e. after_tells (λ p. refused 8 p) (λ p k. refusal {p = p} refl (omega arith)) x.value (space_at s x.next) (space_inside s x.next e))
    items_tell (suc left) a h =
        then_tells _ (g a h)
        (λ x e.
        after_tells (λ p. items_at item left s (space_at s (p + 1))) (λ p k. items_tell left (space_at s (p + 1)) (space_inside s (p + 1) (omega arith))) x.value
        (space_at s x.next) (space_inside s x.next e))

    array_tells : (left a : ℕ) → a ≤ length s → In (array_at item left s a)
    unfolding array_at inside_at
    array_tells left a h =
        pick_tells (eqb (get_or s a 0) 0x5B)
        (λ t.
        let p = space_at s (a + 1) in
        pick_tells (eqb (get_or s p 0) 0x5D) (λ u. let n = byte_inside s p 0x5D refl u in value (omega arith))
        (λ f. items_tell left p (space_behind s a 0x5B refl t)))
        (λ f. refusal refl h)

  tag_tells : (a : ℕ) → a ≤ length s → In (tag_at s a)
  unfolding tag_at one_or_more
  tag_tells a h =
      then_tells _ (array_tells (text_at s) text_tells 254 a h) (λ t e. pick_tells (eqb (length t.value) 0) (λ z. refusal refl h) (λ f. value e))

  tags_tell : (a : ℕ) → a ≤ length s → In (tags_standing s a)
  unfolding tags_standing
  tags_tell a h = array_tells (tag_at s) tag_tells 999 a h

  under_tells : {A B : Type 0} (f : A → B) {r : Answer (Read A)} → In r → In (under f r)
  under_tells f t = then_tells _ t (λ x e. value e)

  field_tells : (k a : ℕ) → a ≤ length s → In (field_at k s a)
  unfolding field_at
  field_tells k a h =
      pick_tells (eqb k 0) (λ t. under_tells _ (hex_tells 32 a h))
      (λ f.
      pick_tells (eqb k 1) (λ t. under_tells _ (hex_tells 32 a h))
      (λ f.
      pick_tells (eqb k 2) (λ t. under_tells _ (hex_tells 64 a h))
      (λ f.
      pick_tells (eqb k 3) (λ t. under_tells _ (whole_tells 9_223_372_036_854_775 7 a refl h))
      (λ f.
      pick_tells (eqb k 4) (λ t. under_tells _ (whole_tells 65_535 6 a refl h))
      (λ f.
      pick_tells (eqb k 5) (λ t. under_tells _ (tags_tell a h))
      (λ f.
      pick_tells (eqb k 6) (λ t. under_tells _ (text_tells a h)) (λ f. under_tells _ (own (value_tells s 16 a h)))))))))

  -- ---- the object

  colon_tells : (k : ℕ) (f : Fields) (p : ℕ) → p ≤ length s → In (colon_at k f s p)
  unfolding colon_at
  colon_tells k f p h =
      pick_tells (eqb (get_or s p 0) 0x3A)
      (λ t. then_tells _ (field_tells k (space_at s (p + 1)) (space_behind s p 0x3A refl t)) (λ v e. value e)) (λ n. refusal refl h)

  member_tells : (f : Fields) (a : ℕ) → a ≤ length s → In (member_at f s a)
  unfolding member_at
  member_tells f a h =
      then_tells _ (text_tells a h)
      (λ n e.
      pick_tells (is_missing (field f (field_of n.value))) (λ t. colon_tells (field_of n.value) f (space_at s n.next) (space_inside s n.next e))
      (λ t. refusal refl h))

  closes_tell : {f : Fields} {a : ℕ} {r : Answer (Read Event)} → a < length s → Closes f a r → In r
  closes_tell {a = a} h (closes y) = let q : a + 1 ≤ length s = omega arith in value q
  closes_tell {a = a} h lacks = refusal {p = a} refl (omega arith)

  members_tell : (fuel : ℕ) (f : Fields) (a : ℕ) → a ≤ length s → In (members_at fuel f s a)
  unfolding members_at after_member
  members_tell zero f a h = refusal refl h
  members_tell (suc fuel) f a h =
      then_tells _ (member_tells f a h)
      (λ m e.
      let p = space_at s m.next in
      pick_tells (eqb (get_or s p 0) 0x7D) (λ t. closes_tell (byte_inside s p 0x7D refl t) (close_told m.value p))
      (λ n.
      pick_tells (eqb (get_or s p 0) 0x2C) (λ t. members_tell fuel m.value (space_at s (p + 1)) (space_behind s p 0x2C refl t))
      (λ u. refusal refl (space_inside s m.next e))))

  object_tells : (a : ℕ) → a ≤ length s → In (object_at s a)
  unfolding object_at object.inside_at
  object_tells a h =
      pick_tells (eqb (get_or s a 0) 0x7B)
      (λ t.
      let p = space_at s (a + 1) in
      let k = space_behind s a 0x7B refl t in
      pick_tells (eqb (get_or s p 0) 0x7D) (λ u. refusal refl k) (λ u. members_tell (length s) no_fields p k))
      (λ f. refusal refl h)

-- THE law of the reader's refusals: one of its own numbers, at a place from 0 to the input's end
pub json_tells : (s : List ℕ) → Tells json_numbers (length s) (λ (e : Event). Unit {0}) (read_json s)
unfolding read_json object.whole_at
json_tells s =
    pick_tells (leb (length s) 65_536)
    (λ t.
    then_tells _ (object_tells s (space_at s 0) (space_inside s 0 (omega arith)))
    (λ e h. pick_tells (eqb (space_at s e.next) (length s)) (λ u. value tt) (λ f. refusal refl (space_inside s e.next h))))
    (λ f. refusal {p = 0} refl (omega arith))
