-- The seven fields of an object, by number: what they say, with one more found, and at the closing brace.
-- Number by number; each step computes.
use Prim.Native.Nat.{ℕ, zero, suc, ◌+◌, ◌*◌, ◌≤◌}
use mathlib.Core.Path.{◌≡◌, refl, sym, ap, subst}
use mathlib.Core.Bool.{false, not}
use mathlib.Core.List.{List, [], ◌∷◌, ◌++◌, map}
use native.Mathlib.Omega.{arith}
use lib.ListN.{length, get_or, set, length-append}
use Rattle.std.specs.Prelude.{Option, Some, None}
use Rattle.std.specs.Option.{is_some, IfSome}
use Rattle.std.proofs.lemmas.Option.{none-some, same_Some}
use Rattle.varint.specs.Uleb.{uleb}
use Rattle.hexdigits.specs.Hex.{unhex}
use Rattle.event.specs.Event.{Event}
use Rattle.notepack.specs.Strict.{pack, pack_tags}
use Rattle.jsonevent.specs.Field.{Value, missing, under, text_of, field}
use Rattle.jsonevent.specs.Object.{no_fields}
use Rattle.jsonevent.specs.inner.Closing.{is_missing, close_at}
use Rattle.jsonfields.specs.declared.Spot.{Spot}
use Rattle.jsonfields.specs.inner.Spots.{spelled_of}
use Rattle.jsonfields.proofs.Names.{by_eight}
use Rattle.jsonfields.proofs.Says.{tags_read_at, says_as, pack_value}
use Rattle.jsonobject.specs.declared.Fields.{Fields}
use Rattle.jsonobject.specs.declared.Found.{Found}
use Rattle.jsonobject.specs.declared.Object.{Object}
use Rattle.jsonobject.specs.inner.Spotted.{known_of, none_found, spot_of, with_spot, all_found, measured, closed_at}

-- ---- what they say

-- what is known of field number k
abbrev pub says : ℕ → List ℕ → Option Spot → Value
says k s None = missing
says k s (Some p) = says_as k s p

abbrev pub fields_of : List ℕ → Found → List Value
fields_of s f =
    says 0 s f.id
    ∷ says 1 s f.pubkey
    ∷ says 2 s f.sig
    ∷ says 3 s f.created_at
    ∷ says 4 s f.kind
    ∷ says 5 s f.tags
    ∷ says 6 s f.content
    ∷ []

-- the event that seven found fields say
unfoldable pub event_by : List ℕ → Fields → Event
event_by s f =
    record {
      id = unhex (text_of s (spelled_of f.id));
      pubkey = unhex (text_of s (spelled_of f.pubkey));
      sig = unhex (text_of s (spelled_of f.sig));
      created_at = f.created_at.number;
      kind = f.kind.number;
      tags = tags_read_at s f.tags.from;
      content = text_of s (spelled_of f.content);
    }

pub none_said : (s : List ℕ) → fields_of s none_found ≡ no_fields
none_said s = refl

-- ---- one field

missing_by : (s : List ℕ) (o : Option Spot) (k : ℕ) → ((p : Spot) → is_missing (says_as k s p) ≡ false) → is_missing (says k s o) ≡ not (is_some o)
missing_by s None k h = refl
missing_by s (Some p) k h = h p

-- whether field number k is missing
pub field_missing : (s : List ℕ) (f : Found) (k : ℕ) → k ≤ 7 → is_missing (field (fields_of s f) k) ≡ not (is_some (spot_of f k))
unfolding says_as
field_missing s f =
    by_eight (λ (k : ℕ). is_missing (field (fields_of s f) k) ≡ not (is_some (spot_of f k)))
    (missing_by s f.id 0 (λ p. refl))
    (missing_by s f.pubkey 1 (λ p. refl))
    (missing_by s f.sig 2 (λ p. refl))
    (missing_by s f.created_at 3 (λ p. refl))
    (missing_by s f.kind 4 (λ p. refl))
    (missing_by s f.tags 5 (λ p. refl))
    (missing_by s f.content 6 (λ p. refl))
    refl

-- the fields with one more found
pub fields_with_lem : (s : List ℕ) (f : Found) (p : Spot) (k : ℕ) → k ≤ 7 → fields_of s (with_spot f k p) ≡ set (fields_of s f) k (says_as k s p)
fields_with_lem s f p = by_eight (λ (k : ℕ). fields_of s (with_spot f k p) ≡ set (fields_of s f) k (says_as k s p)) refl refl refl refl refl refl refl refl

known_with : (f : Found) (p : Spot) (k : ℕ) → k ≤ 7 → known_of (with_spot f k p) ≡ set (known_of f) k (Some p)
known_with f p = by_eight (λ (k : ℕ). known_of (with_spot f k p) ≡ set (known_of f) k (Some p)) refl refl refl refl refl refl refl refl

-- ---- at the closing brace

-- the event, where all seven are found, and else 15
pub close_found : (s : List ℕ) (f : Found) (at : ℕ) → close_at (fields_of s f) at ≡ under (λ (o : Object). event_by s o.fields) (closed_at at (all_found f))
unfolding close_at all_found says_as event_by
close_found s f at = go f.id f.pubkey f.sig f.created_at f.kind f.tags f.content
  where
    go : (a b c d e g h : Option Spot)
        → close_at (says 0 s a ∷ says 1 s b ∷ says 2 s c ∷ says 3 s d ∷ says 4 s e ∷ says 5 s g ∷ says 6 s h ∷ []) at
        ≡ under (λ (o : Object). event_by s o.fields) (closed_at at (all_found (record { id = a; pubkey = b; sig = c; created_at = d; kind = e; tags = g; content = h })))
    go None b c d e g h = refl
    go (Some a) None c d e g h = refl
    go (Some a) (Some b) None d e g h = refl
    go (Some a) (Some b) (Some c) None e g h = refl
    go (Some a) (Some b) (Some c) (Some d) None g h = refl
    go (Some a) (Some b) (Some c) (Some d) (Some e) None h = refl
    go (Some a) (Some b) (Some c) (Some d) (Some e) (Some g) None = refl
    go (Some a) (Some b) (Some c) (Some d) (Some e) (Some g) (Some h) = refl

abbrev pub spots_of : Fields → List Spot
spots_of f = f.id ∷ f.pubkey ∷ f.sig ∷ f.created_at ∷ f.kind ∷ f.tags ∷ f.content ∷ []

-- all seven are what was found
pub all_known : (f : Found) {x : Fields} → all_found f ≡ Some x → known_of f ≡ map Some (spots_of x)
unfolding all_found
all_known f {x} i = go f.id f.pubkey f.sig f.created_at f.kind f.tags f.content i
  where
    go : (a b c d e g h : Option Spot) → all_found (record { id = a; pubkey = b; sig = c; created_at = d; kind = e; tags = g; content = h }) ≡ Some x
        → a ∷ b ∷ c ∷ d ∷ e ∷ g ∷ h ∷ [] ≡ map Some (spots_of x)
    go None b c d e g h i = cc
    go (Some a) None c d e g h i = cc
    go (Some a) (Some b) None d e g h i = cc
    go (Some a) (Some b) (Some c) None e g h i = cc
    go (Some a) (Some b) (Some c) (Some d) None g h i = cc
    go (Some a) (Some b) (Some c) (Some d) (Some e) None h i = cc
    go (Some a) (Some b) (Some c) (Some d) (Some e) (Some g) None i = cc
    go (Some a) (Some b) (Some c) (Some d) (Some e) (Some g) (Some h) i = ap (λ (x : Fields). map Some (spots_of x)) (same_Some _ x i)

-- ---- what holds of every spot that was found

-- of each item of a list, by its number
pub data Each {A : Type 0} (P : ℕ → A → Type 0) : ℕ → List A → Type 0 where
  none : {k : ℕ} → Each P k []
  also : {k : ℕ} {p : A} {l : List A} → P k p → Each P (suc k) l → Each P k (p ∷ l)

-- not found yet, or so
abbrev pub Once : (ℕ → Spot → Type 0) → ℕ → Option Spot → Type 0
Once P k o = IfSome o (P k)

each_set : {A : Type 0} {P : ℕ → A → Type 0} {k : ℕ} {l : List A} (j : ℕ) (p : A) → P (k + j) p → Each P k l → Each P k (set l j p)
each_set j p h none = none
each_set {A} {P} {k} zero p h (also a r) = let z : k + 0 ≡ k = omega arith in also (subst (λ (i : ℕ). P i p) z h) r
each_set {A} {P} {k} (suc j) p h (also a r) = let z : k + suc j ≡ suc k + j = omega arith in also a (each_set j p (subst (λ (i : ℕ). P i p) z h) r)

module _ {P : ℕ → Spot → Type 0} where
  pub none_once : Each (Once P) 0 (known_of none_found)
  none_once = also tt (also tt (also tt (also tt (also tt (also tt (also tt none))))))

  pub once_with : (f : Found) (k : ℕ) → k ≤ 7 → (p : Spot) → P k p → Each (Once P) 0 (known_of f) → Each (Once P) 0 (known_of (with_spot f k p))
  once_with f k m p h e =
      let z : k ≡ 0 + k = omega arith in
      rw (known_with f p k m) (each_set {P = Once P} k (Some p) (subst (λ (i : ℕ). P i p) z h) e)

  once_found : {k : ℕ} (l : List Spot) → Each (Once P) k (map Some l) → Each P k l
  once_found [] none = none
  once_found (p ∷ l) (also a r) = also a (once_found l r)

  pub all_found_lem : (f : Found) {x : Fields} → Each (Once P) 0 (known_of f) → all_found f ≡ Some x → Each P 0 (spots_of x)
  all_found_lem f {x} o e = once_found (spots_of x) (subst (Each (Once P) 0) (all_known f e) o)

-- ---- the length

-- what spots take, and the most that those take that are not found yet
unfoldable pub weight : List (Option Spot) → ℕ
weight [] = 0
weight (None ∷ l) = 2_560_010 + weight l
weight (Some p ∷ l) = p.len + weight l

pub none_weight : weight (known_of none_found) ≡ 7 * 2_560_010
unfolding weight
none_weight = refl

-- a spot that is found takes no more than what was kept for it, and what it takes here
weight_set : (l : List (Option Spot)) (j : ℕ) (p : Spot) (d : ℕ) → get_or l j None ≡ None → p.len ≤ d + 2_560_010 → weight (set l j (Some p)) ≤ weight l + d
unfolding weight
weight_set [] j p d e m = omega arith
weight_set (None ∷ l) zero p d e m = omega (arith, m)
weight_set (Some x ∷ l) zero p d e m = absurd (none-some x (sym e))
weight_set (None ∷ l) (suc j) p d e m = omega (arith, weight_set l j p d e m)
weight_set (Some x ∷ l) (suc j) p d e m = omega (arith, weight_set l j p d e m)

pub weight_with : (f : Found) (k : ℕ) → k ≤ 7 → (p : Spot) (d : ℕ) → spot_of f k ≡ None → p.len ≤ d + 2_560_010
    → weight (known_of (with_spot f k p)) ≤ weight (known_of f) + d
weight_with f k m p d e n = rw (known_with f p k m) (weight_set (known_of f) k p d e n)

pub measured_most : (f : Found) {x : Fields} → all_found f ≡ Some x → measured x ≤ weight (known_of f)
unfolding measured weight
measured_most f {x} e = subst (λ (l : List (Option Spot)). measured x ≤ weight l) (sym (all_known f e)) (omega arith)

seven_long : (a b c d e n t m l : List ℕ) → length (a ++ (b ++ (c ++ (d ++ (e ++ (n ++ (t ++ (m ++ l))))))))
    ≡ length a + length b + length c + length d + length e + length (n ++ t) + length (m ++ l)
seven_long a b c d e n t m l = simp length-append (omega arith)

-- what was measured is the length of the event's strict form
pub measured_pack : (s : List ℕ) (f : Fields) → Each (λ k p. p.len ≡ length (pack_value (says_as k s p))) 0 (spots_of f) → measured f ≡ length (pack (event_by s f))
unfolding measured pack event_by says_as
measured_pack s f (also a (also b (also c (also d (also e (also g (also h none))))))) =
    let v = event_by s f in
    let n = seven_long v.id v.pubkey v.sig (uleb v.created_at) (uleb v.kind) (uleb (length v.content)) v.content (uleb (length v.tags)) (pack_tags v.tags) in
    omega (arith, a, b, c, d, e, g, h, n)
