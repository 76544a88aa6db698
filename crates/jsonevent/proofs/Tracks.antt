-- `Tracks f m g`: behind the members m the fields f have become g. So it is exactly if each of the seven stands once in
-- m, having been missing, or not at all (`Found`).
-- Both directions by induction over the members, for every field number at once.
use Prim.Native.Nat.{ℕ, ◌<◌, ◌≤◌}
use mathlib.Core.Path.{◌≡◌, refl, sym, ap, ◌∙◌}
use mathlib.Core.Bool.{true, false}
use mathlib.Core.List.{List, [], ◌∷◌}
use mathlib.Core.Logic.{dite}
use native.Mathlib.Omega.{arith}
use native.Mathlib.Decide.{dec_lt, ℕ_discrete}
use lib.ListN.{length, set, length-set, get_or-eq_default}
use lib.Seq.{ext_get_or, get_or-set_same, get_or-set_other}
use Rattle.scan.proofs.Step.{false_true}
use Rattle.event.specs.Event.{Text, Event}
use Rattle.jsontext.specs.Grammar as json
use Rattle.jsontext.proofs.OneValue.{chars_one}
use Rattle.jsonevent.specs.Meaning.{Values, no_value, named, other, Once, once, Shallow, no_member, known, ignored, IsEvent, is_event}
use Rattle.jsonevent.specs.Field.{Value, missing, field_of, Fields, field}
use Rattle.jsonevent.specs.Object.{no_fields}
use Rattle.jsonevent.specs.inner.Closing.{is_missing}
use Rattle.jsonevent.proofs.Names.{name, by_seven, name_number, number_name, known_number, number_known}
use Rattle.jsonevent.proofs.Says.{FieldSays, ignored_says, says_some, says_shallow, fields_of, Holds, holds, says_all, all_says}

-- a name that was missing before its member, and what its value says
pub data Tracks : Fields → json.Members → Fields → Type 0 where
  no_more : {f : Fields} → Tracks f json.no_member f
  then : {f g : Fields} {n t : List ℕ} {v : json.Json} {m : json.Members} {x : Value} → json.Chars n t → is_missing (field f (field_of t)) ≡ true
      → FieldSays (field_of t) v x → Tracks (set f (field_of t) x) m g → Tracks f (json.member n v m) g

-- where no member is left, the fields stay
pub tracks_none : {f g : Fields} → Tracks f json.no_member g → f ≡ g
tracks_none no_more = refl

-- field k before and behind the members
pub data Found (k : ℕ) (f : Fields) (m : json.Members) (g : Fields) : Type 0 where
  kept : Values (name k) m [] → field g k ≡ field f k → Found k f m g
  came : is_missing (field f k) ≡ true → Once m (name k) (FieldSays k) (field g k) → Found k f m g

-- ---- the values of a name in a member and in those behind it

-- where there is no member, there is no value
values_none : {t : Text} {v : json.Json} {l : List json.Json} → Values t json.no_member (v ∷ l) → ⊥
values_none = elim [ ]

-- every name among the members is made of characters
values_spelled : {t n : List ℕ} {v : json.Json} {m : json.Members} {l : List json.Json} → Values t (json.member n v m) l → (u : List ℕ) × json.Chars n u
values_spelled {t} (named c r) = (t, c)
values_spelled (other {u = u} c x r) = (u, c)

-- the member has the name: its value is the first
values_here : {t n : List ℕ} {v w : json.Json} {m : json.Members} → json.Chars n t → Values t (json.member n v m) (w ∷ []) → (v ≡ w) × Values t m []
values_here c (named d r) = (refl, r)
values_here c (other d x r) = absurd (x (chars_one d c))

-- so no value at all is no answer
values_some : {t n : List ℕ} {v : json.Json} {m : json.Members} → json.Chars n t → Values t (json.member n v m) [] → ⊥
values_some c (other d x r) = x (chars_one d c)

-- the member has another name: the values stand behind it
values_behind : {t u n : List ℕ} {v : json.Json} {m : json.Members} {l : List json.Json} → json.Chars n u → (u ≡ t → ⊥) → Values t (json.member n v m) l
    → Values t m l
values_behind c x (named d r) = absurd (x (chars_one c d))
values_behind c x (other d y r) = r

-- ---- what is found along the members

module _ {k : ℕ} (h : k < 7) (f g : Fields) (n t : List ℕ) (v : json.Json) (m : json.Members) (c : json.Chars n t) where
  -- a text with the number k is the name of field k
  number_is : field_of t ≡ k → t ≡ name k
  number_is j = let e : name k ≡ t = rw j at (number_name t (omega arith)) in sym e

  number_other : (field_of t ≡ k → ⊥) → t ≡ name k → ⊥
  number_other u e = u (ap field_of e ∙ name_number k h)

  found_here : (x : Value) → length f ≡ 7 → field_of t ≡ k → is_missing (field f k) ≡ true → FieldSays k v x → Found k (set f k x) m g
      → Found k f (json.member n v m) g
  found_here x l j i y (kept e q) =
      came i (once (named (rw (number_is j) at c) e) (rw (q ∙ get_or-set_same f k x missing (omega arith)) y))
  found_here x l j i y (came z o) =
      let e = get_or-set_same f k x missing (omega arith) in
      absurd (false_true (sym (says_some h y) ∙ ap is_missing (sym e) ∙ z))

  module _ (j : ℕ) (x : Value) (e : field_of t ≡ j) (u : j ≡ k → ⊥) where
    is_other_lem : t ≡ name k → ⊥
    is_other_lem = number_other (λ z. u (sym e ∙ z))

    field_behind : field (set f j x) k ≡ field f k
    field_behind = get_or-set_other f j k x missing (λ z. u (sym z))

    found_behind : Found k (set f j x) m g → Found k f (json.member n v m) g
    found_behind (kept r q) = kept (other c is_other_lem r) (q ∙ field_behind)
    found_behind (came z (once r y)) = came (ap is_missing (sym field_behind) ∙ z) (once (other c is_other_lem r) y)

    -- and back
    behind_found : Found k f (json.member n v m) g → Found k (set f j x) m g
    behind_found (kept r q) = kept (values_behind c is_other_lem r) (q ∙ sym field_behind)
    behind_found (came z (once r y)) = came (ap is_missing field_behind ∙ z) (once (values_behind c is_other_lem r) y)

-- each field is found along the way
pub tracks_found : {k : ℕ} {f g : Fields} {m : json.Members} → k < 7 → length f ≡ 7 → Tracks f m g → Found k f m g
tracks_found h l no_more = kept no_value refl
tracks_found {k} {f} {g} h l (then {n = n} {t = t} {v = v} {m = m} {x = x} c i y r) =
    let j = field_of t in
    let p = tracks_found h (length-set f j x ∙ l) r in
    dite (ℕ_discrete j k) (λ e. found_here h f g n t v m c x l e (rw e at i) (rw e at y) (rw e at p))
    (λ u. found_behind h f g n t v m c j x refl u p)

pub tracks_length : {f g : Fields} {m : json.Members} → Tracks f m g → length g ≡ length f
tracks_length no_more = refl
tracks_length {f} (then {t = t} {x = x} c i y r) = tracks_length r ∙ length-set f (field_of t) x

-- a value of an ignored name is shallow
pub tracks_shallow : {f g : Fields} {m : json.Members} → Tracks f m g → Shallow m
tracks_shallow no_more = no_member
tracks_shallow (then {t = t} c i y r) =
    dite (dec_lt (field_of t) 7) (λ h. known c (number_known t h) (tracks_shallow r))
    (λ u. ignored (says_shallow (omega (arith, u)) y) (tracks_shallow r))

-- ---- and back: where each field is found, the members are tracked

shallow_behind : {n : List ℕ} {v : json.Json} {m : json.Members} → Shallow (json.member n v m) → Shallow m
shallow_behind (known c o w) = w
shallow_behind (ignored d w) = w

shallow_value : {n t : List ℕ} {v : json.Json} {m : json.Members} → json.Chars n t → Shallow (json.member n v m) → 7 ≤ field_of t → json.nesting v ≤ 16
shallow_value c (known d o w) h = absurd (omega (arith, known_number (rw (chars_one d c) at o)))
shallow_value c (ignored d w) h = d

found_spelled : {k : ℕ} {f g : Fields} {n : List ℕ} {v : json.Json} {m : json.Members} → Found k f (json.member n v m) g → (u : List ℕ) × json.Chars n u
found_spelled (kept e q) = values_spelled e
found_spelled (came z (once e y)) = values_spelled e

-- the member of a field of the seven
here_found : {k : ℕ} {f g : Fields} {n : List ℕ} {v : json.Json} {m : json.Members} → json.Chars n (name k) → Found k f (json.member n v m) g
    → (is_missing (field f k) ≡ true) × FieldSays k v (field g k) × Values (name k) m []
here_found c (kept e q) = absurd (values_some c e)
here_found c (came z (once e y)) = let u = values_here c e in (z, rw u.0 y, u.1)

pub found_tracks : (m : json.Members) (f g : Fields) → length f ≡ 7 → length g ≡ 7 → Shallow m → ((k : ℕ) → k < 7 → Found k f m g) → Tracks f m g
found_tracks json.no_member f g l l₂ w a =
    let e : f ≡ g = ext_get_or missing f g (l ∙ sym l₂) (λ k h. unchanged (a k (omega arith))) in
    rw e no_more
  where
    unchanged : {k : ℕ} → Found k f json.no_member g → field f k ≡ field g k
    unchanged (kept e q) = sym q
    unchanged (came z (once e y)) = absurd (values_none e)
found_tracks (json.member n v m) f g l l₂ w a =
    let q = found_spelled (a 0 (omega arith)) in
    let t = q.0 in
    let c = q.1 in
    let j = field_of t in
    dite (dec_lt j 7)
    (λ h.
    let r = here_found (rw (number_is h f g n t v m c refl) at c) (a j h) in
    let x = field g j in
    then c r.0 r.1
    (found_tracks m (set f j x) g (length-set f j x ∙ l) l₂ (shallow_behind w)
    (λ k i.
    dite (ℕ_discrete j k) (λ e. rw (← e) (kept r.2 (sym (get_or-set_same f j x missing (omega arith)))))
    (λ u. behind_found i f g n t v m c j x refl u (a k i)))))
    (λ o.
    let p : 7 ≤ j = omega (arith, o) in
    then c (ap is_missing (get_or-eq_default f missing (omega arith))) (ignored_says p (shallow_value c w p))
    (found_tracks m (set f j missing) g (length-set f j missing ∙ l) l₂ (shallow_behind w)
    (λ k i. behind_found i f g n t v m c j missing refl (λ e. omega arith) (a k i))))

-- ---- from no field on to an event

no_field : (k : ℕ) → k < 7 → field no_fields k ≡ missing
no_field = by_seven (λ (k : ℕ). field no_fields k ≡ missing) refl refl refl refl refl refl refl

-- the fields of an event are not missing
pub some_field : (e : Event) (k : ℕ) → k < 7 → is_missing (field (fields_of e) k) ≡ false
some_field e = by_seven (λ (k : ℕ). is_missing (field (fields_of e) k) ≡ false) refl refl refl refl refl refl refl

-- members that leave an event's fields are that event
pub tracks_event : {m : json.Members} {g : Fields} {e : Event} → Tracks no_fields m g → Holds g e → IsEvent (json.Json.object m) e
tracks_event {m} {g} {e} t (holds q) =
    let y = all_says e (λ k h. rw (q k h) at (said h (tracks_found h refl t))) in
    is_event y.0 y.1 (tracks_shallow t)
  where
    said : {k : ℕ} → k < 7 → Found k no_fields m g → Once m (name k) (FieldSays k) (field g k)
    said {k} h (kept v z) = absurd (false_true (sym (some_field e k h) ∙ ap is_missing (sym (q k h) ∙ z ∙ no_field k h)))
    said h (came z o) = o

-- and the members of an event leave its fields
pub event_tracks : {m : json.Members} {e : Event} → IsEvent (json.Json.object m) e → Tracks no_fields m (fields_of e)
event_tracks {m} {e} (is_event y v w) =
    found_tracks m no_fields (fields_of e) refl refl w (λ k h. came (ap is_missing (no_field k h)) (says_all y v k h))

-- an object with no member is no event
pub no_event : {e : Event} → IsEvent (json.Json.object json.no_member) e → ⊥
no_event (is_event y v w) = go y.id
  where
    go : {A : Type 0} {Is : json.Json → A → Type 0} {t : Text} {x : A} → Once json.no_member t Is x → ⊥
    go (once e g) = values_none e
