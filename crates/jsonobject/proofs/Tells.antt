-- An object by its spots is the object as jsonevent/specs/Object reads it: `object_said`. And what holds of every spot
-- that is read for a field holds of the object's seven: `object_each`. Read by read, and by induction on the members.
use Prim.Native.Nat.{ℕ, zero, suc, ◌+◌, ◌≤◌, ◌<◌, ◌^◌}
use mathlib.Core.Path.{◌≡◌, refl, sym, ap, ◌∙◌, subst}
use mathlib.Core.Bool.{Bool, true, false, not}
use mathlib.Core.List.{List}
use native.Mathlib.Omega.{arith}
use lib.ListN.{length, get_or, set}
use lib.Dec.{eqb}
use Rattle.std.specs.Prelude.{Option, Some, None}
use Rattle.std.specs.Option.{is_some}
use Rattle.scan.specs.Choice.{pick, Answer, shown, refused, Read, read, and_then}
use Rattle.scan.proofs.Many.{then_shown}
use Rattle.scan.proofs.Reading.{read_same}
use Rattle.event.specs.Event.{Text, Event}
use Rattle.notepack.specs.Strict.{pack}
use Rattle.jsontext.specs.Token.{space_at}
use Rattle.jsonevent.specs.Field.{under, text_at, field_of, field_at, field}
use Rattle.jsonevent.specs.Object.{no_fields, colon_at, member_at, after_member, members_at, inside_at, object_at}
use Rattle.jsonevent.specs.inner.Closing.{is_missing, close_at}
use Rattle.jsonfields.specs.declared.Spot.{Spot}
use Rattle.jsonfields.specs.inner.Spots.{spot_at}
use Rattle.jsonfields.proofs.Items.{never_shown, under_read}
use Rattle.jsonfields.proofs.Names.{number_most}
use Rattle.jsonfields.proofs.Says.{says_as, pack_value, field_said, takes}
use Rattle.jsonobject.specs.declared.Fields.{Fields}
use Rattle.jsonobject.specs.declared.Found.{Found}
use Rattle.jsonobject.specs.declared.Object.{Object}
use Rattle.jsonobject.specs.inner.Spotted.{known_of, none_found, spot_of, with_spot, all_found, measured, colon_spots_at, member_spots_at, closed_at, close_spots_at, after_spots, members_spots_at, inside_spots_at, object_spots_at}
use Rattle.jsonobject.proofs.Known.{fields_of, event_by, none_said, field_missing, fields_with_lem, close_found, spots_of, Each, Once, none_once, once_with, all_found_lem, measured_pack}

-- ---- the same is read

-- the event of an object
abbrev pub event_in : List ℕ → Object → Event
event_in s o = event_by s o.fields

module _ (s : List ℕ) where
  colon_said : (k : ℕ) → k ≤ 7 → (f : Found) (p : ℕ) → colon_at k (fields_of s f) s p ≡ under (fields_of s) (under (with_spot f k) (colon_spots_at k s p))
  unfolding colon_at colon_spots_at
  colon_said k h f p = by (eqb (get_or s p 0) 0x3A)
    where
      a : ℕ
      a = space_at s (p + 1)

      go : (r : Answer (Read Spot))
          → and_then (under (says_as k s) r) (λ v. read (set (fields_of s f) k v.value) v.next) ≡ under (fields_of s) (under (with_spot f k) r)
      go (shown v) = ap (λ l. read l v.next) (sym (fields_with_lem s f v.value k h))
      go (refused n q) = refl

      by : (b : Bool) → pick b (and_then (field_at k s a) (λ v. read (set (fields_of s f) k v.value) v.next)) (refused 14 p)
          ≡ under (fields_of s) (under (with_spot f k) (pick b (spot_at k s a) (refused 14 p)))
      by true = rw (field_said s a k h) (go (spot_at k s a))
      by false = refl

  member_said : (f : Found) (at : ℕ) → member_at (fields_of s f) s at ≡ under (fields_of s) (member_spots_at f s at)
  unfolding member_at member_spots_at
  member_said f at = go (text_at s at)
    where
      by : (k : ℕ) → k ≤ 7 → (i : ℕ) (b : Bool) → pick (not b) (colon_at k (fields_of s f) s i) (refused 16 at)
          ≡ under (fields_of s) (pick b (refused 16 at) (under (with_spot f k) (colon_spots_at k s i)))
      by k h i true = refl
      by k h i false = colon_said k h f i

      go : (r : Answer (Read Text))
          → and_then r (λ n. pick (is_missing (field (fields_of s f) (field_of n.value))) (colon_at (field_of n.value) (fields_of s f) s (space_at s n.next)) (refused 16 at))
          ≡ under (fields_of s)
          (and_then (under field_of r) (λ k. pick (is_some (spot_of f k.value)) (refused 16 at) (under (with_spot f k.value) (colon_spots_at k.value s (space_at s k.next)))))
      go (shown n) = let k = field_of n.value in let h = number_most n.value in rw (field_missing s f k h) (by k h (space_at s n.next) (is_some (spot_of f k)))
      go (refused n q) = refl

  close_said : (f : Found) (p : ℕ) → close_at (fields_of s f) p ≡ under (event_in s) (close_spots_at f p)
  unfolding close_spots_at
  close_said f p = close_found s f p

  members_said : (fuel : ℕ) (f : Found) (at : ℕ) → members_at fuel (fields_of s f) s at ≡ under (event_in s) (members_spots_at fuel f s at)
  unfolding members_at members_spots_at after_member after_spots
  members_said zero f at = refl
  members_said (suc fuel) f at = rw (member_said f at) (go (λ g i. members_said fuel g i) (member_spots_at f s at))
    where
      Same : Type 0
      Same = (g : Found) (i : ℕ) → members_at fuel (fields_of s g) s i ≡ under (event_in s) (members_spots_at fuel g s i)

      by : Same → (g : Found) (p : ℕ) (b c : Bool)
          → pick b (close_at (fields_of s g) p) (pick c (members_at fuel (fields_of s g) s (space_at s (p + 1))) (refused 14 p))
          ≡ under (event_in s) (pick b (close_spots_at g p) (pick c (members_spots_at fuel g s (space_at s (p + 1))) (refused 14 p)))
      by rest g p true c = close_said g p
      by rest g p false true = rest g (space_at s (p + 1))
      by rest g p false false = refl

      go : Same → (r : Answer (Read Found))
          → and_then (under (fields_of s) r) (λ m. after_member (members_at fuel m.value s) m.value s (space_at s m.next))
          ≡ under (event_in s) (and_then r (λ m. after_spots (members_spots_at fuel m.value s) m.value s (space_at s m.next)))
      go rest (shown m) = let p = space_at s m.next in by rest m.value p (eqb (get_or s p 0) 0x7D) (eqb (get_or s p 0) 0x2C)
      go rest (refused n q) = refl

  -- the object shows the event that its spots say, or both refuse alike
  pub object_said : (at : ℕ) → object_at s at ≡ under (event_in s) (object_spots_at s at)
  unfolding object_at object_spots_at inside_at inside_spots_at
  object_said at = by (eqb (get_or s at 0) 0x7B) (eqb (get_or s p 0) 0x7D)
    where
      p : ℕ
      p = space_at s (at + 1)

      by : (b c : Bool) → pick b (pick c (refused 15 p) (members_at (length s) no_fields s p)) (refused 14 at)
          ≡ under (event_in s) (pick b (pick c (refused 15 p) (members_spots_at (length s) none_found s p)) (refused 14 at))
      by false c = refl
      by true true = refl
      by true false = ap (λ l. members_at (length s) l s p) (sym (none_said s)) ∙ members_said (length s) none_found p

-- ---- what holds of every spot that is read

module _ (P : ℕ → Spot → Type 0) (s : List ℕ) (each : (at k : ℕ) → k ≤ 7 → (p : Spot) (q : ℕ) → spot_at k s at ≡ read p q → P k p) where
  colon_each : (k : ℕ) → k ≤ 7 → (p : ℕ) {x : Spot} {q : ℕ} → colon_spots_at k s p ≡ read x q → P k x
  unfolding colon_spots_at
  colon_each k h p {x} {q} e = by (eqb (get_or s p 0) 0x3A) e
    where
      by : (b : Bool) → pick b (spot_at k s (space_at s (p + 1))) (refused 14 p) ≡ read x q → P k x
      by false i = never_shown i
      by true i = each (space_at s (p + 1)) k h x q i

  pub member_each : (f : Found) (at : ℕ) {g : Found} {q : ℕ} → member_spots_at f s at ≡ read g q → Each (Once P) 0 (known_of f) → Each (Once P) 0 (known_of g)
  unfolding member_spots_at
  member_each f at {g} {q} e o =
      let u = then_shown (under field_of (text_at s at)) _ _ e in
      let n = under_read field_of (text_at s at) (sym u.1) in
      let h : u.0.value ≤ 7 = omega (arith, n.2, number_most n.0) in
      by u.0.value h (space_at s u.0.next) (is_some (spot_of f u.0.value)) u.2
    where
      by : (k : ℕ) → k ≤ 7 → (i : ℕ) (b : Bool) → pick b (refused 16 at) (under (with_spot f k) (colon_spots_at k s i)) ≡ read g q → Each (Once P) 0 (known_of g)
      by k h i true j = never_shown j
      by k h i false j =
          let y = under_read (with_spot f k) (colon_spots_at k s i) (sym j) in
          subst (λ (g : Found). Each (Once P) 0 (known_of g)) y.2 (once_with f k h y.0 (colon_each k h i y.1) o)

  members_each : (fuel : ℕ) (f : Found) (at : ℕ) {o : Object} {q : ℕ} → members_spots_at fuel f s at ≡ read o q → Each (Once P) 0 (known_of f)
      → Each P 0 (spots_of o.fields) × (o.len ≡ measured o.fields)
  unfolding members_spots_at after_spots close_spots_at
  members_each zero f at e n = never_shown e
  members_each (suc fuel) f at {o} {q} e n =
      let u = then_shown (member_spots_at f s at) _ _ e in
      by (λ g i j m. members_each fuel g i j m) u.0.value (space_at s u.0.next) (member_each f at u.1 n) (eqb (get_or s (space_at s u.0.next) 0) 0x7D) (eqb (get_or s (space_at s u.0.next) 0) 0x2C) u.2
    where
      close : (g : Found) (p : ℕ) → Each (Once P) 0 (known_of g) → (x : Option Fields) → all_found g ≡ x → closed_at p x ≡ read o q
          → Each P 0 (spots_of o.fields) × (o.len ≡ measured o.fields)
      close g p m None f i = never_shown i
      close g p m (Some x) f i = subst (λ (x : Object). Each P 0 (spots_of x.fields) × (x.len ≡ measured x.fields)) (read_same i).0 (all_found_lem g m f, refl)

      by : ((g : Found) (i : ℕ) → members_spots_at fuel g s i ≡ read o q → Each (Once P) 0 (known_of g) → Each P 0 (spots_of o.fields) × (o.len ≡ measured o.fields))
          → (g : Found) (p : ℕ) → Each (Once P) 0 (known_of g) → (b c : Bool)
          → pick b (close_spots_at g p) (pick c (members_spots_at fuel g s (space_at s (p + 1))) (refused 14 p)) ≡ read o q
          → Each P 0 (spots_of o.fields) × (o.len ≡ measured o.fields)
      by rest g p m true c i = close g p m (all_found g) refl i
      by rest g p m false true i = rest g (space_at s (p + 1)) i m
      by rest g p m false false i = never_shown i

  pub object_each : (at : ℕ) {o : Object} {q : ℕ} → object_spots_at s at ≡ read o q → Each P 0 (spots_of o.fields) × (o.len ≡ measured o.fields)
  unfolding object_spots_at inside_spots_at
  object_each at {o} {q} e = by (eqb (get_or s at 0) 0x7B) (eqb (get_or s (space_at s (at + 1)) 0) 0x7D) e
    where
      by : (b c : Bool) → pick b (pick c (refused 15 (space_at s (at + 1))) (members_spots_at (length s) none_found s (space_at s (at + 1)))) (refused 14 at) ≡ read o q
          → Each P 0 (spots_of o.fields) × (o.len ≡ measured o.fields)
      by false c i = never_shown i
      by true true i = never_shown i
      by true false i = members_each (length s) none_found (space_at s (at + 1)) i none_once

-- the length that is told is that of the event's strict form
pub object_len : (s : List ℕ) (at : ℕ) → length s < 2 ^ 63 → {o : Object} {q : ℕ} → object_spots_at s at ≡ read o q → o.len ≡ length (pack (event_in s o))
object_len s at small {o} e =
    let u = object_each (λ k p. p.len ≡ length (pack_value (says_as k s p))) s (λ i k h p q f. (takes s i small k h f).len) at e in
    u.1 ∙ measured_pack s o.fields u.0
