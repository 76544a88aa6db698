-- The whole text and the entry: what is answered and what is left in the lent buffer, for each outcome of the first
-- pass.
-- The spots say the event that the reading shows; the room was measured, so that what is written is the strict form and
-- the rest is unchanged.
use Prim.Native.Nat.{ℕ, ◌≤◌, ◌<◌}
use mathlib.Core.Path.{◌≡◌, refl, sym, ap, ◌∙◌, subst}
use mathlib.Core.Bool.{Bool, true, false}
use mathlib.Core.List.{List}
use native.Mathlib.Omega.{arith}
use lib.ListN.{length}
use lib.Dec.{eqb, leb}
use borrow.Author.Tests.{le-leb, leb-true}
use Rattle.scan.specs.Choice.{pick, Answer, shown, refused, Read, and_then}
use Rattle.scan.proofs.Many.{then_shown}
use Rattle.buffer.specs.inner.Store.{Wrote}
use Rattle.buffer.specs.Entry.{writes, leaves}
use Rattle.buffer.proofs.EntryLaws.{short, fitted}
use Rattle.notepack.specs.Strict.{pack}
use Rattle.jsontext.specs.Token.{space_at}
use Rattle.jsonevent.specs.Field.{under}
use Rattle.jsonevent.specs.Object.{whole_at, read_json}
use Rattle.jsonfields.proofs.Items.{never_shown}
use Rattle.jsonobject.specs.declared.Object.{Object}
use Rattle.jsonobject.specs.inner.Spotted.{object_spots_at}
use Rattle.jsonobject.proofs.Tells.{event_in, object_said, object_len}
use Rattle.jsonread.specs.inner.Copy.{fields_text}
use Rattle.jsonread.specs.inner.Whole.{whole_spots_at, limited_at}
use Rattle.jsonread.proofs.Writing.{object_written}

-- what is shown, its length, and what is written of it
record Shows (s : List ℕ) (o : Object) : Type 0 where
  is : read_json s ≡ shown (event_in s o)
  len : o.len ≡ length (pack (event_in s o))
  text : fields_text s o.fields ≡ pack (event_in s o)

module _ (s : List ℕ) (l : length s ≤ 65_536) where
  -- the reading shows the event that the spots say, or both refuse alike
  whole_said : read_json s ≡ and_then (whole_spots_at s) (λ o. shown (event_in s o))
  unfolding read_json whole_at whole_spots_at
  whole_said = rw (le-leb (length s) 65_536 l, object_said s (space_at s 0)) (go (object_spots_at s (space_at s 0)))
    where
      by : (o : Read Object) (b : Bool) → pick b (shown (event_in s o.value)) (refused 10 (space_at s o.next))
          ≡ and_then (pick b (shown o.value) (refused 10 (space_at s o.next))) (λ o. shown (event_in s o))
      by o true = refl
      by o false = refl

      go : (r : Answer (Read Object))
          → and_then (under (event_in s) r) (λ e. pick (eqb (space_at s e.next) (length s)) (shown e.value) (refused 10 (space_at s e.next)))
          ≡ and_then (and_then r (λ o. pick (eqb (space_at s o.next) (length s)) (shown o.value) (refused 10 (space_at s o.next)))) (λ o. shown (event_in s o))
      go (shown o) = by o (eqb (space_at s o.next) (length s))
      go (refused n p) = refl

  within : whole_at s ≡ and_then (whole_spots_at s) (λ o. shown (event_in s o))
  unfolding read_json
  within = sym (rw (le-leb (length s) 65_536 l)) ∙ whole_said

  whole_shows : {o : Object} → whole_spots_at s ≡ shown o → Shows s o
  unfolding whole_spots_at
  whole_shows {o} z =
      let at = space_at s 0 in
      let u = then_shown (object_spots_at s at) _ _ z in
      go u.0 u.1 (eqb (space_at s u.0.next) (length s)) u.2
    where
      is : read_json s ≡ shown (event_in s o)
      is = whole_said ∙ rw z

      go : (x : Read Object) → object_spots_at s (space_at s 0) ≡ shown x → (b : Bool) → pick b (shown x.value) (refused 10 (space_at s x.next)) ≡ shown o → Shows s o
      go x f false i = never_shown i
      go x f true i =
          let same : x.value ≡ o = shown_is i in
          let at = space_at s 0 in
          record {
            is = is;
            len = subst (λ (o : Object). o.len ≡ length (pack (event_in s o))) same (object_len s at (omega arith) f);
            text = subst (λ (o : Object). fields_text s o.fields ≡ pack (event_in s o)) same (object_written s at f);
          }
        where
          shown_is : {a b : Object} → shown a ≡ shown b → a ≡ b
          shown_is e = cc

-- ---- the limit too

module _ (s : List ℕ) where
  limited_said : read_json s ≡ and_then (limited_at s) (λ o. shown (event_in s o))
  unfolding limited_at read_json
  limited_said = go (leb (length s) 65_536) refl
    where
      go : (b : Bool) → leb (length s) 65_536 ≡ b → pick b (whole_at s) (refused 1 0) ≡ and_then (pick b (whole_spots_at s) (refused 1 0)) (λ o. shown (event_in s o))
      go true e = let l : length s ≤ 65_536 = leb-true (length s) 65_536 e in within s l
      go false e = refl

  limited_shows : {o : Object} → shown o ≡ limited_at s → Shows s o
  unfolding limited_at
  limited_shows {o} e = go (leb (length s) 65_536) refl e
    where
      go : (b : Bool) → leb (length s) 65_536 ≡ b → shown o ≡ pick b (whole_spots_at s) (refused 1 0) → Shows s o
      go true f z = let l : length s ≤ 65_536 = leb-true (length s) 65_536 f in whole_shows s l (sym z)
      go false f z = never_shown (sym z)

  limited_refuses : {n q : ℕ} → refused n q ≡ limited_at s → read_json s ≡ refused n q
  limited_refuses e = limited_said ∙ rw (← e)

  -- ---- the entry

  module _ (d : List ℕ) where
    pub json_refused : {n q : ℕ} → refused n q ≡ limited_at s → (refused n q ≡ writes pack (read_json s) d) × (d ≡ leaves pack (read_json s) d)
    json_refused e = let u = limited_refuses e in (rw u, rw u)

    pub json_short : {o : Object} → shown o ≡ limited_at s → length d < o.len → (refused 11 o.len ≡ writes pack (read_json s) d) × (d ≡ leaves pack (read_json s) d)
    json_short {o} e i =
        let w = limited_shows e in
        let u = short (pack (event_in s o)) d w.len i in
        (rw w.is u.0, rw w.is u.1)

    pub json_fitted : {o : Object} {k : ℕ} {d' : List ℕ} → shown o ≡ limited_at s → o.len ≤ length d → Wrote d 0 (fields_text s o.fields) d' k
        → (shown k ≡ writes pack (read_json s) d) × (d' ≡ leaves pack (read_json s) d)
    json_fitted {o} {k} {d'} e i y =
        let w = limited_shows e in
        let u = fitted w.len i (subst (λ (t : List ℕ). Wrote d 0 t d' k) w.text y) in
        (rw w.is u.0, rw w.is u.1)

  -- ---- the length alone

  pub len_refused : {n q : ℕ} → refused n q ≡ limited_at s → refused n q ≡ and_then (read_json s) (λ x. shown (length (pack x)))
  len_refused e = let u = limited_refuses e in rw u

  pub len_shown : {o : Object} → shown o ≡ limited_at s → shown o.len ≡ and_then (read_json s) (λ x. shown (length (pack x)))
  len_shown e = let w = limited_shows e in rw w.is (ap (λ (i : ℕ). shown i) w.len)
