-- How the two readers compare, and what is left in each buffer, for each outcome of the two measurings: by the cases of
-- the two readings.
-- Demand 3 is not used there. It then says which outcomes there are: 2 exactly where the NSON reader accepts, 1 exactly
-- where JSON alone does.
use Prim.Native.Nat.{ℕ, ◌≤◌, ◌<◌}
use mathlib.Core.Path.{◌≡◌, refl, sym, ap, ◌∙◌}
use mathlib.Core.Bool.{Bool, true, false}
use mathlib.Core.List.{List}
use native.Mathlib.Omega.{arith}
use lib.ListN.{length, take, drop}
use lib.Dec.{leb}
use lib.Seq.{take_at}
use borrow.Author.Tests.{le-leb, lt-leb}
use Rattle.scan.specs.Choice.{pick, Answer, shown, refused, and_then}
use Rattle.buffer.specs.Entry.{leaves, filled}
use Rattle.buffer.proofs.EntryLaws.{short}
use Rattle.scan.specs.Compare.{same_bytes}
use Rattle.event.specs.Event.{Event}
use Rattle.scan.proofs.CompareLaws.{same_same}
use Rattle.scan.proofs.Many.{shown_same}
use Rattle.notepack.specs.Strict.{pack}
use Rattle.jsonevent.specs.Object.{read_json}
use Rattle.jsonevent.specs.Entries.{json_leaves}
use Rattle.jsonevent.specs.inner.Needs.{json_needs}
use Rattle.nson.specs.Read.{read_nson}
use Rattle.nson.specs.Entries.{nson_leaves}
use Rattle.nson.specs.inner.Needs.{nson_needs}
use Rattle.agreement.proofs.Agree.{both_accept}
use Rattle.agreement.proofs.Entries.{fits}
use Rattle.bothreaders.specs.Both.{Compared, both_of, first_of, second_of, both, both_first, both_second}

-- ---- what a measuring says of the reading

pub record Needs (a : Answer Event) (n : ℕ) : Type 0 where
  pub event : Event
  pub shows : a ≡ shown event
  pub len : n ≡ length (pack event)

abbrev need_of : Answer Event → Answer ℕ
need_of a = and_then a (λ e. shown (length (pack e)))

clash : {A R : Type 0} {a : A} {n p : ℕ} → refused n p ≡ shown a → R
clash h = let z : ◌≡◌ {A = ℕ} 0 1 = cc in absurd (omega arith)

needs_shown : (a : Answer Event) (r : Answer ℕ) {n : ℕ} → r ≡ need_of a → r ≡ shown n → Needs a n
needs_shown (shown e) r h k = record { event = e; shows = refl; len = shown_same (sym k ∙ h) }
needs_shown (refused m q) r h k = clash (sym h ∙ k)

needs_refused : (a : Answer Event) (r : Answer ℕ) {n p : ℕ} → r ≡ need_of a → r ≡ refused n p → a ≡ refused n p
needs_refused (shown e) r h k = clash (sym k ∙ h)
needs_refused (refused m q) r {n} {p} h k = let z : ◌≡◌ {A = Answer ℕ} (refused m q) (refused n p) = sym h ∙ k in cc

-- ---- by the two readings

pick_same : (t : Bool) {x d : List ℕ} → d ≡ x → d ≡ pick t x d
pick_same true e = e
pick_same false e = refl

-- the answer, and what is left in the two buffers
abbrev Outcome : Answer Event → Answer Event → (d₁ d₂ : List ℕ) → Answer Compared → (e₁ e₂ : List ℕ) → Type 0
Outcome a b d₁ d₂ r e₁ e₂ = (r ≡ both_of a b d₁ d₂) × ((e₁ ≡ first_of a b d₁ d₂) × (e₂ ≡ second_of a b d₁ d₂))

module _ (d₁ d₂ : List ℕ) where
  -- JSON refuses
  unaccepted : (a b : Answer Event) {n p : ℕ} → b ≡ refused n p → Outcome a b d₁ d₂ (refused n p) d₁ d₂
  unaccepted (shown x) b e = rw e (refl, (refl, refl))
  unaccepted (refused m q) b e = rw e (refl, (refl, refl))

  -- JSON has too little room
  second_short : (a : Answer Event) (e : Event) → length d₂ < length (pack e) → Outcome a (shown e) d₁ d₂ (refused 11 (length (pack e))) d₁ d₂
  second_short (shown a) e h =
      let u = lt-leb (length (pack e)) (length d₂) h in
      (rw u refl, (rw u refl, pick_same (leb (length (pack a)) (length d₁)) (short (pack e) d₂ refl h).1))
  second_short (refused m q) e h = let u = lt-leb (length (pack e)) (length d₂) h in (rw u refl, (refl, (short (pack e) d₂ refl h).1))

  -- NSON has too little room
  first_short : (a e : Event) → length (pack e) ≤ length d₂ → length d₁ < length (pack a)
      → Outcome (shown a) (shown e) d₁ d₂ (refused 11 (length (pack a))) d₁ d₂
  first_short a e l h =
      let u = lt-leb (length (pack a)) (length d₁) h in
      let v = le-leb (length (pack e)) (length d₂) l in
      (rw (v, u) refl, (rw v (short (pack a) d₁ refl h).1, rw u refl))

  -- JSON alone
  alone : (m q : ℕ) (e : Event) → length (pack e) ≤ length d₂
      → Outcome (refused m q) (shown e) d₁ d₂ (shown (record { which = 1; len = length (pack e) })) d₁ (filled (pack e) d₂)
  alone m q e l = rw (le-leb (length (pack e)) (length d₂) l) (refl, (refl, refl))

  -- both write: what they wrote decides
  fitting : (a e : Event) (t : Bool) → length (pack a) ≤ length d₁ → length (pack e) ≤ length d₂
      → t ≡ same_bytes (take (length (pack a)) (leaves pack (shown a) d₁)) (take (length (pack e)) (leaves pack (shown e) d₂))
      → Outcome (shown a) (shown e) d₁ d₂ (shown (record { which = pick t 2 1; len = length (pack e) })) (filled (pack a) d₁) (filled (pack e) d₂)
  fitting a e t h l same =
      let f = fits pack {a = shown a} d₁ refl h in
      let g = fits pack {a = shown e} d₂ refl l in
      let p : take (length (pack a)) (leaves pack (shown a) d₁) ≡ pack a = ap (take (length (pack a))) f.1 ∙ take_at (pack a) (drop (length (pack a)) d₁) (length (pack a)) refl in
      let q : take (length (pack e)) (leaves pack (shown e) d₂) ≡ pack e = ap (take (length (pack e))) g.1 ∙ take_at (pack e) (drop (length (pack e)) d₂) (length (pack e)) refl in
      let is : t ≡ same_bytes (pack a) (pack e) = rw (p, q) at same in
      let u = le-leb (length (pack a)) (length d₁) h in
      let v = le-leb (length (pack e)) (length d₂) l in
      (rw (u, v, is) refl, (rw v refl, rw u refl))

-- ---- the entry, for each way out of it

module _ (s d₁ d₂ : List ℕ) {j : Answer ℕ} (e : j ≡ json_needs s) where
  pub both_refused : {n p : ℕ} → j ≡ refused n p → (refused n p ≡ both s d₁ d₂) × ((d₁ ≡ both_first s d₁ d₂) × (d₂ ≡ both_second s d₁ d₂))
  both_refused k = unaccepted d₁ d₂ (read_nson s) (read_json s) (needs_refused (read_json s) _ e k)

  pub both_short : {n : ℕ} {r : Answer Compared} → j ≡ shown n → length d₂ < n → r ≡ refused 11 n
      → (r ≡ both s d₁ d₂) × ((d₁ ≡ both_first s d₁ d₂) × (d₂ ≡ both_second s d₁ d₂))
  both_short {n} k h c = let g = needs_shown (read_json s) _ e k in go g.event g.shows g.len c
    where
      go : (x : Event) → read_json s ≡ shown x → n ≡ length (pack x) → {r : Answer Compared} → r ≡ refused 11 n
          → (r ≡ both s d₁ d₂) × ((d₁ ≡ both_first s d₁ d₂) × (d₂ ≡ both_second s d₁ d₂))
      go x shows len c =
          let v = second_short d₁ d₂ (read_nson s) x (omega arith) in
          (c ∙ (ap (λ (i : ℕ). refused 11 i) len ∙ rw shows v.0), (rw shows v.1.0, rw shows v.1.1))

  module _ {n : ℕ} (k : j ≡ shown n) (r : n ≤ length d₂) {x : Answer ℕ} (f : x ≡ nson_needs s) where
    pub json_alone : {m p : ℕ} {y : List ℕ} → x ≡ refused m p → y ≡ json_leaves s d₂
        → (shown (record { which = 1; len = n }) ≡ both s d₁ d₂) × ((d₁ ≡ both_first s d₁ d₂) × (y ≡ both_second s d₁ d₂))
    json_alone {m} {p} {y} h w = let g = needs_shown (read_json s) _ e k in go g.event g.shows g.len (needs_refused (read_nson s) _ f h) w
      where
        go : (z : Event) → read_json s ≡ shown z → n ≡ length (pack z) → read_nson s ≡ refused m p → y ≡ json_leaves s d₂
            → (shown (record { which = 1; len = n }) ≡ both s d₁ d₂) × ((d₁ ≡ both_first s d₁ d₂) × (y ≡ both_second s d₁ d₂))
        go z shows len u w =
            let v = alone d₁ d₂ m p z (omega arith) in
            (rw (u, shows, len) v.0, (rw (u, shows) v.1.0, w ∙ rw (u, shows) v.1.1))

    module _ {m : ℕ} (h : x ≡ shown m) where
      pub both_short_first : {t : Answer Compared} → length d₁ < m → t ≡ refused 11 m
          → (t ≡ both s d₁ d₂) × ((d₁ ≡ both_first s d₁ d₂) × (d₂ ≡ both_second s d₁ d₂))
      both_short_first {t} i c =
          let g = needs_shown (read_json s) _ e k in
          let o = needs_shown (read_nson s) _ f h in
          go g.event o.event g.shows o.shows g.len o.len
        where
          go : (y z : Event) → read_json s ≡ shown y → read_nson s ≡ shown z → n ≡ length (pack y) → m ≡ length (pack z)
              → (t ≡ both s d₁ d₂) × ((d₁ ≡ both_first s d₁ d₂) × (d₂ ≡ both_second s d₁ d₂))
          go y z by-json by-nson len size =
              let v = first_short d₁ d₂ z y (omega arith) (omega arith) in
              (c ∙ (ap (λ (i : ℕ). refused 11 i) size ∙ rw (by-nson, by-json) v.0), (rw (by-nson, by-json) v.1.0, rw (by-nson, by-json) v.1.1))

      pub both_written : {t : Bool} {y z : List ℕ} → m ≤ length d₁ → t ≡ same_bytes (take m (nson_leaves s d₁)) (take n (json_leaves s d₂))
          → y ≡ nson_leaves s d₁ → z ≡ json_leaves s d₂
          → (shown (record { which = pick t 2 1; len = n }) ≡ both s d₁ d₂) × ((y ≡ both_first s d₁ d₂) × (z ≡ both_second s d₁ d₂))
      both_written {t} {y} {z} i c w q =
          let g = needs_shown (read_json s) _ e k in
          let o = needs_shown (read_nson s) _ f h in
          go g.event o.event g.shows o.shows g.len o.len
        where
          go : (b a : Event) → read_json s ≡ shown b → read_nson s ≡ shown a → n ≡ length (pack b) → m ≡ length (pack a)
              → (shown (record { which = pick t 2 1; len = n }) ≡ both s d₁ d₂) × ((y ≡ both_first s d₁ d₂) × (z ≡ both_second s d₁ d₂))
          go b a by-json by-nson len size =
              let v = fitting d₁ d₂ a b t (omega arith) (omega arith) (rw (size, len, by-nson, by-json) at c) in
              (rw (by-nson, by-json, len) v.0, (w ∙ rw (by-nson, by-json) v.1.0, q ∙ rw (by-nson, by-json) v.1.1))

-- ---- which answers there are, by demand 3

-- where the NSON reader accepts, both show the event: they never differ, and it never accepts alone
pub both_or_refused : (s d₁ d₂ : List ℕ) {a : Event} {c : Compared} → read_nson s ≡ shown a → both s d₁ d₂ ≡ shown c → c.which ≡ 2
both_or_refused s d₁ d₂ {a} {c} h k =
    let j = both_accept s a h in
    let same = same_same (pack a) in
    go (leb (length (pack a)) (length d₂)) (leb (length (pack a)) (length d₁)) (rw (h, j, same) at k)
  where
    go : (t u : Bool)
        → pick t (pick u (shown (record { which = 2; len = length (pack a) })) (refused 11 (length (pack a)))) (refused 11 (length (pack a))) ≡ shown c → c.which ≡ 2
    go true true e = sym (ap (λ (x : Compared). x.which) (shown_same e))
    go true false e = clash e
    go false u e = clash e

-- where it refuses, the answer is 1 or a refusal
pub alone_or_refused : (s d₁ d₂ : List ℕ) {n p : ℕ} {c : Compared} → read_nson s ≡ refused n p → both s d₁ d₂ ≡ shown c → c.which ≡ 1
alone_or_refused s d₁ d₂ {n} {p} {c} h k = by n p (read_json s) (rw h at k)
  where
    go : (x : ℕ) (t : Bool) → pick t (shown (record { which = 1; len = x })) (refused 11 x) ≡ shown c → c.which ≡ 1
    go x true e = sym (ap (λ (x : Compared). x.which) (shown_same e))
    go x false e = clash e

    by : (m q : ℕ) (r : Answer Event) → both_of (refused m q) r d₁ d₂ ≡ shown c → c.which ≡ 1
    by m q (shown z) e = go (length (pack z)) (leb (length (pack z)) (length d₂)) e
    by m q (refused k x) e = clash e
