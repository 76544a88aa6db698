-- What a spot says is the field's value as jsonevent/specs/Field reads it, and its length is that of the value's strict
-- form.
-- One equation and one record of what a field takes, kind by kind: hex, a number, tags, a text, a value that is
-- ignored.
use Prim.Native.Nat.{ℕ, ◌+◌, ◌*◌, ◌-◌, ◌≤◌, ◌<◌, ◌^◌}
use mathlib.Core.Path.{◌≡◌, refl, sym, ap, ◌∙◌, subst}
use mathlib.Core.Bool.{Bool, true, false}
use mathlib.Core.List.{List, [], ◌++◌}
use native.Mathlib.Omega.{arith}
use lib.ListN.{length, get_or, length-append}
use lib.Dec.{eqb}
use borrow.Author.Tests.{eqb-true}
use Rattle.scan.specs.Choice.{pick, Answer, shown, refused, Read, read, and_then}
use Rattle.scan.specs.inner.Otherwise.{or_else}
use Rattle.scan.proofs.Step.{pick_true}
use Rattle.scan.proofs.Many.{then_shown}
use Rattle.scan.proofs.Reading.{read_same}
use Rattle.varint.specs.Uleb.{uleb}
use Rattle.varint.proofs.UlebLaws.{length_ten}
use Rattle.hexdigits.specs.Hex.{unhex, all_digits}
use Rattle.hexdigits.proofs.Texts.{length_unhex}
use Rattle.event.specs.Event.{Tag}
use Rattle.notepack.specs.Strict.{pack_tags}
use Rattle.jsontext.specs.declared.Spelled.{Spelled}
use Rattle.jsontext.specs.Token.{space_at, Done}
use Rattle.jsontext.specs.Text.{string_at}
use Rattle.jsontext.specs.Value.{value_at}
use Rattle.jsontext.proofs.TokenLaws.{space_onward}
use Rattle.jsonevent.specs.Field.{Value, missing, bytes, number, tags, text, under, text_of, text_at, is_hex_of, hex_at, whole_at, inside_at, array_at, tag_at, tags_standing, field_at}
use Rattle.jsonfields.specs.declared.Spot.{Spot}
use Rattle.jsonfields.specs.inner.Size.{tag_size, sized}
use Rattle.jsonfields.specs.inner.Spots.{hex_spot, text_spot, number_spot, tags_spot, ignored_spot, spelled_of, hex_spot_at, tags_spot_at, spot_at}
use Rattle.jsonfields.proofs.Names.{by_eight}
use Rattle.jsonfields.proofs.Strings.{string_ends, part_most, spelled_most}
use Rattle.jsonfields.proofs.Items.{under_read, never_shown}
use Rattle.jsonfields.proofs.Values.{whole_most, tags_total, tags_room}

-- ---- what a spot says

-- the tags from the first one on; none where they are refused
unfoldable pub tags_read_at : List ℕ → ℕ → List Tag
tags_read_at s at = or_else [] (inside_at (tag_at s) 999 s at) λ r. r.value

pub tags_read : (s : List ℕ) (at : ℕ) {l : List Tag} {e : ℕ} → inside_at (tag_at s) 999 s at ≡ read l e → tags_read_at s at ≡ l
unfolding tags_read_at
tags_read s at e = rw e

-- what the spot of field number k says; a value that is ignored says nothing
unfoldable pub says_as : ℕ → List ℕ → Spot → Value
says_as k s p =
    pick (eqb k 0) (bytes (unhex (text_of s (spelled_of p))))
    (pick (eqb k 1) (bytes (unhex (text_of s (spelled_of p))))
    (pick (eqb k 2) (bytes (unhex (text_of s (spelled_of p))))
    (pick (eqb k 3) (number p.number)
    (pick (eqb k 4) (number p.number) (pick (eqb k 5) (tags (tags_read_at s p.from)) (pick (eqb k 6) (text (text_of s (spelled_of p))) missing))))))

-- what a value is in the strict form
abbrev pub pack_value : Value → List ℕ
pack_value missing = []
pack_value (bytes l) = l
pack_value (number n) = uleb n
pack_value (tags l) = uleb (length l) ++ pack_tags l
pack_value (text t) = uleb (length t) ++ t

-- ---- the same is read

under_under : {A B C : Type 0} (f : B → C) (g : A → B) (r : Answer (Read A)) → under (λ x. f (g x)) r ≡ under f (under g r)
under_under f g (shown x) = refl
under_under f g (refused n p) = refl

module _ (s : List ℕ) (at : ℕ) where
  hex_said : (n : ℕ) → under bytes (hex_at n s at) ≡ under (λ p. bytes (unhex (text_of s (spelled_of p)))) (hex_spot_at n s at)
  unfolding hex_at text_at hex_spot_at
  hex_said n = go (string_at s at)
    where
      by : (b : Bool) (x : Read Spelled)
          → under bytes (pick b (read (unhex (text_of s x.value)) x.next) (refused 12 at))
          ≡ under (λ p. bytes (unhex (text_of s (spelled_of p)))) (pick b (read (hex_spot n x.value) x.next) (refused 12 at))
      by true x = refl
      by false x = refl

      go : (r : Answer (Read Spelled))
          → under bytes (and_then (under (text_of s) r) (λ t. pick (is_hex_of n t.value) (read (unhex t.value) t.next) (refused 12 at)))
          ≡ under (λ p. bytes (unhex (text_of s (spelled_of p)))) (and_then r (λ x. pick (is_hex_of n (text_of s x.value)) (read (hex_spot n x.value) x.next) (refused 12 at)))
      go (shown x) = by (is_hex_of n (text_of s x.value)) x
      go (refused m p) = refl

  text_said : under text (text_at s at) ≡ under (λ p. text (text_of s (spelled_of p))) (under (text_spot s) (string_at s at))
  unfolding text_at
  text_said = sym (under_under text (text_of s) (string_at s at)) ∙ under_under (λ p. text (text_of s (spelled_of p))) (text_spot s) (string_at s at)

  tags_said : under tags (tags_standing s at) ≡ under (λ p. tags (tags_read_at s p.from)) (tags_spot_at s at)
  unfolding tags_standing array_at tags_spot_at tags_read_at
  tags_said = by (eqb (get_or s at 0) 0x5B)
    where
      first : ℕ
      first = space_at s (at + 1)

      inside : (r : Answer (Read (List Tag))) → inside_at (tag_at s) 999 s first ≡ r
          → under tags r ≡ under (λ (p : Spot). tags (tags_read_at s p.from)) (under (tags_spot first) (under (sized tag_size) r))
      inside (shown x) e = let t = tags_read s first e in ap (λ (l : List Tag). read (tags l) x.next) (sym t)
      inside (refused n p) e = refl

      by : (b : Bool) → under tags (pick b (inside_at (tag_at s) 999 s first) (refused 14 at))
          ≡ under (λ (p : Spot). tags (tags_read_at s p.from)) (pick b (under (tags_spot first) (under (sized tag_size) (inside_at (tag_at s) 999 s first))) (refused 14 at))
      by true = inside (inside_at (tag_at s) 999 s first) refl
      by false = refl

pub field_said : (s : List ℕ) (at : ℕ) (k : ℕ) → k ≤ 7 → field_at k s at ≡ under (says_as k s) (spot_at k s at)
unfolding field_at spot_at says_as
field_said s at =
    by_eight (λ (k : ℕ). field_at k s at ≡ under (says_as k s) (spot_at k s at))
    (hex_said s at 32)
    (hex_said s at 32)
    (hex_said s at 64)
    (under_under (λ p. number p.number) number_spot (whole_at 9_223_372_036_854_775 7 s at))
    (under_under (λ p. number p.number) number_spot (whole_at 65_535 6 s at))
    (tags_said s at)
    (text_said s at)
    (under_under (λ p. missing) (λ x. ignored_spot) (value_at 16 s at))

-- the tags that a spot was made of
pub tags_kept : (s : List ℕ) (at : ℕ) {p : Spot} {q : ℕ} → tags_spot_at s at ≡ read p q
    → (l : List Tag) × (inside_at (tag_at s) 999 s (space_at s (at + 1)) ≡ read l q) × (tags_spot (space_at s (at + 1)) (sized tag_size l) ≡ p)
unfolding tags_spot_at
tags_kept s at {p} {q} e = by (eqb (get_or s at 0) 0x5B) e
  where
    first : ℕ
    first = space_at s (at + 1)

    by : (b : Bool) → pick b (under (tags_spot first) (under (sized tag_size) (inside_at (tag_at s) 999 s first))) (refused 14 at) ≡ read p q
        → (l : List Tag) × (inside_at (tag_at s) 999 s first ≡ read l q) × (tags_spot first (sized tag_size l) ≡ p)
    by false i = never_shown i
    by true i =
        let u = under_read (tags_spot first) (under (sized tag_size) (inside_at (tag_at s) 999 s first)) (sym i) in
        let w = under_read (sized tag_size) (inside_at (tag_at s) 999 s first) (sym u.1) in
        (w.0, w.1, ap (tags_spot first) w.2 ∙ u.2)

-- ---- what a field takes

-- its spot is there, and its length is that of what it says: little more than it takes here, up to its end
pub record Takes (at end : ℕ) (v : Value) (p : Spot) : Type 0 where
  pub there : 0 < p.from
  pub len : p.len ≡ length (pack_value v)
  pub most : p.len ≤ end - at + 2_560_010

module _ (s : List ℕ) (at : ℕ) (small : length s < 2 ^ 63) {p : Spot} {q : ℕ} where
  hex_takes : (n : ℕ) → n ≤ 64 → hex_spot_at n s at ≡ read p q → Takes at q (bytes (unhex (text_of s (spelled_of p)))) p
  unfolding hex_spot_at is_hex_of
  hex_takes n h e = let u = then_shown (string_at s at) _ _ e in go u.0 u.1 (is_hex_of n (text_of s u.0.value)) refl u.2
    where
      go : (x : Read Spelled) → string_at s at ≡ shown x → (b : Bool) → is_hex_of n (text_of s x.value) ≡ b
          → pick b (read (hex_spot n x.value) x.next) (refused 12 at) ≡ read p q → Takes at q (bytes (unhex (text_of s (spelled_of p)))) p
      go x f false g i = never_shown i
      go x f true g i =
          let t = text_of s x.value in
          let u = pick_true (eqb (length t) (2 * n)) (all_digits t) g in
          let k = eqb-true (length t) (2 * n) u.0 in
          subst (λ (p : Spot). Takes at q (bytes (unhex (text_of s (spelled_of p)))) p) (read_same i).0
          (record { there = omega (arith, string_ends s at f); len = omega (arith, length_unhex t, k); most = omega arith })

  number_takes : (max over : ℕ) → max < 2 ^ 64 → under number_spot (whole_at max over s at) ≡ read p q → Takes at q (number p.number) p
  number_takes max over m e =
      let u = under_read number_spot (whole_at max over s at) (sym e) in
      let n = u.0 in
      subst (λ (p : Spot). Takes at q (number p.number) p) u.2
      (record { there = omega arith; len = refl; most = omega (arith, length_ten n (omega (arith, m, whole_most max over s at u.1))) })

  tags_takes : tags_spot_at s at ≡ read p q → Takes at q (tags (tags_read_at s p.from)) p
  tags_takes e = let u = tags_kept s at e in go u.0 u.1 u.2
    where
      first : ℕ
      first = space_at s (at + 1)

      go : (l : List Tag) → inside_at (tag_at s) 999 s first ≡ read l q → tags_spot first (sized tag_size l) ≡ p → Takes at q (tags (tags_read_at s p.from)) p
      go l f g =
          let room = tags_room s first small (ap (under (sized tag_size)) f) in
          subst (λ (p : Spot). Takes at q (tags (tags_read_at s p.from)) p) g
          (subst (λ (m : List Tag). Takes at q (tags m) (tags_spot first (sized tag_size l))) (sym (tags_read s first f))
          (record {
            there = omega (arith, space_onward s (at + 1));
            len = sym (length-append (uleb (length l)) (pack_tags l) ∙ ap (λ (i : ℕ). length (uleb (length l)) + i) (tags_total l));
            most = omega (arith, room, space_onward s (at + 1), length_ten (length l) (omega (arith, room)));
          }))

  text_takes : under (text_spot s) (string_at s at) ≡ read p q → Takes at q (text (text_of s (spelled_of p))) p
  text_takes e =
      let u = under_read (text_spot s) (string_at s at) (sym e) in
      let t = text_of s u.0 in
      let m = part_most s u.0.from u.0.count {n = length t} refl in
      let c = spelled_most s u.0 in
      let z = string_ends s at u.1 in
      subst (λ (p : Spot). Takes at q (text (text_of s (spelled_of p))) p) u.2
      (record {
        there = omega (arith, z);
        len = sym (length-append (uleb (length t)) t);
        most = omega (arith, c, z, length_ten (length t) (omega (arith, m, small)));
      })

  ignored_takes : under (λ (x : Done). ignored_spot) (value_at 16 s at) ≡ read p q → Takes at q missing p
  ignored_takes e =
      let u = under_read (λ (x : Done). ignored_spot) (value_at 16 s at) (sym e) in
      subst (λ (p : Spot). Takes at q missing p) u.2 (record { there = omega arith; len = refl; most = omega arith })

pub takes : (s : List ℕ) (at : ℕ) → length s < 2 ^ 63 → (k : ℕ) → k ≤ 7 → {p : Spot} {q : ℕ} → spot_at k s at ≡ read p q → Takes at q (says_as k s p) p
unfolding spot_at says_as
takes s at m k h {p} {q} =
    by_eight (λ (k : ℕ). spot_at k s at ≡ read p q → Takes at q (says_as k s p) p)
    (hex_takes s at m 32 (omega arith))
    (hex_takes s at m 32 (omega arith))
    (hex_takes s at m 64 (omega arith))
    (number_takes s at m 9_223_372_036_854_775 7 (omega arith))
    (number_takes s at m 65_535 6 (omega arith))
    (tags_takes s at m)
    (text_takes s at m)
    (ignored_takes s at m)
    k
    h
