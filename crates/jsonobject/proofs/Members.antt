-- The turns of the loop over the members: those from the first on are those from here on, with what is found so far.
-- A member takes a byte or more, so that the fuel is enough; and little more in the strict form than here, so that the
-- lengths can be summed.
use Prim.Native.Nat.{ℕ, zero, suc, ◌+◌, ◌*◌, ◌-◌, ◌≤◌, ◌<◌, ◌^◌}
use mathlib.Core.Path.{◌≡◌, refl, sym, ap, ◌∙◌}
use mathlib.Core.Bool.{Bool, true, false}
use mathlib.Core.List.{List}
use native.Mathlib.Omega.{arith}
use lib.ListN.{length, get_or}
use lib.Dec.{eqb}
use borrow.Author.Tests.{eq-eqb, ne_eqb}
use Rattle.std.specs.Prelude.{Option, Some, None}
use Rattle.std.specs.Option.{is_some}
use Rattle.scan.specs.Choice.{pick, Answer, refused, Read, read, and_then}
use Rattle.scan.proofs.SpanLaws.{span_length}
use Rattle.scan.proofs.Reading.{Reads, reads}
use Rattle.scan.proofs.Many.{then_shown}
use Rattle.scan.proofs.Fits.{byte_positive}
use Rattle.jsontext.specs.Token.{space_at}
use Rattle.jsontext.proofs.TokenLaws.{space_onward, space_inside}
use Rattle.jsonevent.specs.Field.{under, text_at, field_of}
use Rattle.jsonevent.proofs.FieldSound.{field_says}
use Rattle.jsonfields.specs.declared.Spot.{Spot}
use Rattle.jsonfields.specs.inner.Spots.{spot_at}
use Rattle.jsonfields.proofs.Strings.{string_ends, text_string}
use Rattle.jsonfields.proofs.Items.{never_shown, under_read}
use Rattle.jsonfields.proofs.Names.{number_most}
use Rattle.jsonfields.proofs.Says.{says_as, field_said, takes}
use Rattle.jsonobject.specs.declared.Fields.{Fields}
use Rattle.jsonobject.specs.declared.Found.{Found}
use Rattle.jsonobject.specs.declared.Object.{Object}
use Rattle.jsonobject.specs.inner.Spotted.{known_of, none_found, spot_of, with_spot, all_found, measured, colon_spots_at, member_spots_at, close_spots_at, after_spots, members_spots_at}
use Rattle.jsonobject.proofs.Known.{weight, none_weight, weight_with, measured_most}

-- ---- a member goes on, and takes little more than it does here

read_onward : {A : Type 0} {G : A → List ℕ → Type 0} (s : List ℕ) (a : ℕ) {v : A} {e : ℕ} → Reads G s a (read v e) → a ≤ e
read_onward s a (reads g r) = omega (arith, span_length r)

spot_onward : (k : ℕ) → k ≤ 7 → (s : List ℕ) (a : ℕ) {p : Spot} {e : ℕ} → spot_at k s a ≡ read p e → a ≤ e
spot_onward k m s a h = let f = field_said s a k m ∙ ap (under (says_as k s)) h in read_onward s a (rw f at (field_says k s a))

colon_grown : (k : ℕ) → k ≤ 7 → (s : List ℕ) → length s < 2 ^ 63 → (p : ℕ) {x : Spot} {e : ℕ} → colon_spots_at k s p ≡ read x e
    → (p ≤ e) × (x.len ≤ e - p + 2_560_010)
unfolding colon_spots_at
colon_grown k m s small p {x} {e} h = go (eqb (get_or s p 0) 0x3A) h
  where
    go : (b : Bool) → pick b (spot_at k s (space_at s (p + 1))) (refused 14 p) ≡ read x e → (p ≤ e) × (x.len ≤ e - p + 2_560_010)
    go true i =
        let a = space_at s (p + 1) in
        let t = takes s a small k m i in
        let o = spot_onward k m s a i in
        let w = space_onward s (p + 1) in
        (omega (arith, o, w), omega (arith, t.most, o, w))
    go false i = never_shown i

none_by : {A : Type 0} (o : Option A) → is_some o ≡ false → o ≡ None
none_by None e = refl
none_by (Some x) e = cc

abbrev Grown : Found → Found → ℕ → ℕ → Type 0
Grown f g a e = (a ≤ e) × (weight (known_of g) ≤ weight (known_of f) + (e - a))

member_grown : (f : Found) (s : List ℕ) → length s < 2 ^ 63 → (a : ℕ) {g : Found} {e : ℕ} → member_spots_at f s a ≡ read g e → Grown f g a e
unfolding member_spots_at
member_grown f s small a {g} {e} h =
    let u = then_shown (under field_of (text_at s a)) _ _ h in
    let n = under_read field_of (text_at s a) (sym u.1) in
    let t = text_string s a n.1 in
    let w : u.0.value ≤ 7 = omega (arith, n.2, number_most n.0) in
    go u.0.value w u.0.next (omega (arith, string_ends s a t.1)) (is_some (spot_of f u.0.value)) refl u.2
  where
    go : (k : ℕ) → k ≤ 7 → (i : ℕ) → a ≤ i → (b : Bool) → is_some (spot_of f k) ≡ b
        → pick b (refused 16 a) (under (with_spot f k) (colon_spots_at k s (space_at s i))) ≡ read g e → Grown f g a e
    go k w i m true z j = never_shown j
    go k w i m false z j =
        let p = space_at s i in
        let y = under_read (with_spot f k) (colon_spots_at k s p) (sym j) in
        let c = colon_grown k w s small p y.1 in
        let n = weight_with f k w y.0 (e - p) (none_by (spot_of f k) z) c.1 in
        let o = space_onward s i in
        (omega (arith, m, c, o), rw (← y.2) (omega (arith, n, m, c, o)))

-- ---- the loop over the members

pub record InMembers (s : List ℕ) (at : ℕ) (f : Found) (i : ℕ) : Type 0 where
  pub fuel : ℕ
  pub enough : length s < fuel + i
  pub inside : i ≤ length s
  pub same : members_spots_at (length s) none_found s at ≡ members_spots_at fuel f s i
  pub small : weight (known_of f) ≤ i + 7 * 2_560_010

pub members_start : (s : List ℕ) (at : ℕ) → 0 < at → at ≤ length s → InMembers s at none_found at
members_start s at h l = record {
  fuel = length s;
  enough = omega arith;
  inside = l;
  same = refl;
  small = rw none_weight (omega arith);
}

module _ (s : List ℕ) (at : ℕ) {f : Found} {i : ℕ} (v : InMembers s at f i) where
  abbrev whole : Answer (Read Object)
  whole = members_spots_at (length s) none_found s at

  turn : {r : Answer (Read Found)} → r ≡ member_spots_at f s i → whole ≡ and_then r (λ m. after_spots (members_spots_at (v.fuel - 1) m.value s) m.value s (space_at s m.next))
  unfolding members_spots_at
  turn {r} e = v.same ∙ go v.fuel v.enough v.inside
    where
      go : (k : ℕ) → length s < k + i → i ≤ length s
          → members_spots_at k f s i ≡ and_then r (λ m. after_spots (members_spots_at (k - 1) m.value s) m.value s (space_at s m.next))
      go zero h n = absurd (omega arith)
      go (suc k) h n = let one : suc k - 1 ≡ k = omega arith in rw (e, one)

  -- a member is refused
  pub members_refused : {n q : ℕ} → refused n q ≡ member_spots_at f s i → refused n q ≡ whole
  members_refused e = sym (turn e)

  module _ {g : Found} {next : ℕ} (e : read g next ≡ member_spots_at f s i) {p b : ℕ} (q : p ≡ space_at s next) (h : b ≡ get_or s p 0) where
    passed : whole ≡ after_spots (members_spots_at (v.fuel - 1) g s) g s p
    passed = turn e ∙ ap (after_spots (members_spots_at (v.fuel - 1) g s) g s) (sym q)

    grown : length s < 2 ^ 63 → Grown f g i next
    grown m = member_grown f s m i (sym e)

    -- the closing brace
    pub members_closed : b ≡ 0x7D → {x : Fields} → all_found g ≡ Some x → {n : ℕ} → n ≡ measured x → read (record { fields = x; len = n }) (p + 1) ≡ whole
    unfolding after_spots close_spots_at
    members_closed y t u = sym (passed ∙ rw (eq-eqb (get_or s p 0) 0x7D (sym h ∙ y), t, u))

    pub members_sum : length s < 2 ^ 63 → b ≡ 0x7D → {x : Fields} → all_found g ≡ Some x → measured x ≤ length s + 7 * 2_560_010
    members_sum m y t =
        let c = byte_positive s p b 0x7D h y (omega arith) in
        omega (arith, measured_most g t, grown m, v.small, space_onward s next, q, c)

    pub members_missing : b ≡ 0x7D → all_found g ≡ None → refused 15 p ≡ whole
    unfolding after_spots close_spots_at
    members_missing y t = sym (passed ∙ rw (eq-eqb (get_or s p 0) 0x7D (sym h ∙ y), t))

    -- neither a brace nor a comma
    pub members_other : (b ≡ 0x7D → ⊥) → (b ≡ 0x2C → ⊥) → refused 14 p ≡ whole
    unfolding after_spots
    members_other y t = sym (passed ∙ rw (ne_eqb (get_or s p 0) 0x7D (λ u. y (h ∙ u)), ne_eqb (get_or s p 0) 0x2C (λ u. t (h ∙ u))))

    -- a comma: the next member stands further on
    further : length s < 2 ^ 63 → {j : ℕ} → b ≡ 0x2C → j ≡ space_at s (p + 1) → (i < j) × (next ≤ j) × (j ≤ length s)
    further m {j} y t =
        let c = byte_positive s p b 0x2C h y (omega arith) in
        let o = space_onward s next in
        let w = space_onward s (p + 1) in
        (omega (arith, t, grown m, q, o, w), omega (arith, t, q, o, w), omega (arith, t, space_inside s (p + 1) (omega arith)))

    pub members_again : length s < 2 ^ 63 → {j : ℕ} → (b ≡ 0x7D → ⊥) → b ≡ 0x2C → j ≡ space_at s (p + 1) → InMembers s at g j
    unfolding after_spots
    members_again m {j} y t u =
        let d = further m t u in
        record {
          fuel = v.fuel - 1;
          enough = omega (arith, v.enough, v.inside, d);
          inside = d.2;
          same = passed ∙ rw (ne_eqb (get_or s p 0) 0x7D (λ a. y (h ∙ a)), eq-eqb (get_or s p 0) 0x2C (sym h ∙ t)) (ap (members_spots_at (v.fuel - 1) g s) (sym u));
          small = omega (arith, grown m, v.small, d);
        }

    pub members_less : length s < 2 ^ 63 → {j : ℕ} → b ≡ 0x2C → j ≡ space_at s (p + 1) → length s - j < length s - i
    members_less m t u = omega (arith, v.inside, further m t u)

-- what the loop needs
pub ruleset member_steps = (members_start, members_refused, members_closed, members_sum, members_missing, members_other, members_again, members_less)

-- ---- the object

-- behind its brace stands a place of the input
pub object_first : (s : List ℕ) (at : ℕ) {b first : ℕ} → b ≡ get_or s at 0 → b ≡ 0x7B → first ≡ space_at s (at + 1) → (0 < first) × (first ≤ length s)
object_first s at {b} e f g =
    let n = byte_positive s at b 0x7B e f (omega arith) in
    (omega (arith, g, space_onward s (at + 1)), omega (arith, g, space_inside s (at + 1) (omega arith)))
