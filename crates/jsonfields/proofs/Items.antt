-- Arrays of items, for texts in a tag and for tags alike: what was read taken apart, how much it takes in the strict
-- form, and the turns of the loop that measures, which knows each item by its length.
-- The invariant puts what is counted so far in front of the items that are still to be read.
use Prim.Native.Nat.{ℕ, zero, suc, ◌+◌, ◌*◌, ◌-◌, ◌≤◌, ◌<◌}
use mathlib.Core.Path.{◌≡◌, refl, sym, ap, ◌∙◌, subst}
use mathlib.Core.Bool.{Bool, true, false}
use mathlib.Core.List.{List, [], ◌∷◌, map}
use native.Mathlib.Omega.{arith}
use native.Mathlib.Nat.{zero-add, add-zero}
use lib.ListN.{length, get_or}
use lib.Dec.{eqb}
use borrow.Author.Tests.{eq-eqb, ne_eqb, eqb-true}
use Rattle.std.specs.Prelude.{Result, Ok, Err}
use Rattle.scan.specs.Choice.{pick, Answer, shown, refused, Read, read, and_then}
use Rattle.scan.proofs.Many.{then_shown}
use Rattle.scan.proofs.Reading.{read_same}
use Rattle.event.specs.declared.Refusal.{Refusal}
use Rattle.event.specs.inner.Told.{read_answer}
use Rattle.jsontext.specs.Token.{space_at}
use Rattle.scan.proofs.Fits.{byte_positive}
use Rattle.jsontext.proofs.TokenLaws.{space_onward}
use Rattle.jsonevent.specs.Field.{under, after_item, items_at, inside_at}
use Rattle.jsonfields.specs.declared.Sized.{Sized}
use Rattle.jsonfields.specs.inner.Size.{total, sized, lengths, IsSmall}

-- ---- a value under a measure

pub never_shown : {A R : Type 0} {n p : ℕ} {v : A} → refused n p ≡ shown v → R
never_shown e = let z : ◌≡◌ {A = ℕ} 0 1 = cc in absurd (omega arith)

pub under_read : {A B : Type 0} (f : A → B) (r : Answer (Read A)) {b : B} {e : ℕ} → read b e ≡ under f r → (x : A) × (r ≡ read x e) × (f x ≡ b)
under_read f (shown v) h = let g = read_same h in (v.value, ap (λ (n : ℕ). read v.value n) (sym g.1), sym g.0)
under_read f (refused n p) h = never_shown (sym h)

pub under_refused : {A B : Type 0} (f : A → B) (r : Answer (Read A)) {n p : ℕ} → refused n p ≡ under f r → r ≡ refused n p
under_refused f (shown v) h = never_shown h
under_refused f (refused m q) {n} {p} h = let i : m ≡ n = cc in let j : q ≡ p = cc in rw (i, j)

pub under_same : {A B : Type 0} {f g : A → B} (r : Answer (Read A)) → ((x : A) → f x ≡ g x) → under f r ≡ under g r
under_same (shown v) h = rw (h v.value)
under_same (refused n p) h = refl

-- ---- items taken apart

-- behind an item and its comma
abbrev pub more_at : {A : Type 0} → (ℕ → Answer (Read A)) → ℕ → List ℕ → ℕ → Answer (Read (List A))
more_at item zero s = λ p. refused 8 p
more_at item (suc left) s = λ p. items_at item left s (space_at s (p + 1))

pub items_open : {A : Type 0} (item : ℕ → Answer (Read A)) (left : ℕ) (s : List ℕ) (i : ℕ)
    → items_at item left s i ≡ and_then (item i) (λ x. after_item (more_at item left s) x.value s (space_at s x.next))
unfolding items_at
items_open item zero s i = refl
items_open item (suc left) s i = refl

-- items that were read: an item and its bracket, or an item, its comma and the others
pub data Took {A : Type 0} (item : ℕ → Answer (Read A)) (s : List ℕ) : ℕ → ℕ → List A → ℕ → Type 0 where
  last : {left i e : ℕ} {x : A} → item i ≡ read x e → get_or s (space_at s e) 0 ≡ 0x5D → Took item s left i (x ∷ []) (space_at s e + 1)
  more : {left i e c : ℕ} {x : A} {l : List A} → item i ≡ read x e → get_or s (space_at s e) 0 ≡ 0x2C → Took item s left (space_at s (space_at s e + 1)) l c
      → Took item s (suc left) i (x ∷ l) c

module _ {A : Type 0} (item : ℕ → Answer (Read A)) (s : List ℕ) where
  -- the items behind a comma
  abbrev Others : ℕ → Type 0
  Others left = (p : ℕ) (w : Read (List A)) → more_at item left s p ≡ shown w → (k : ℕ) × (left ≡ suc k) × Took item s k (space_at s (p + 1)) w.value w.next

  took_by : (left : ℕ) → Others left → (i : ℕ) (v : Read (List A)) → items_at item left s i ≡ shown v → Took item s left i v.value v.next
  unfolding after_item
  took_by left others i v h = let g = then_shown (item i) _ v (sym (items_open item left s i) ∙ h) in go g.0 g.1 g.2
    where
      comma : (x : Read A) (p : ℕ) → space_at s x.next ≡ p → item i ≡ shown x → get_or s p 0 ≡ 0x2C → (w : Read (List A)) → more_at item left s p ≡ shown w
          → read (x.value ∷ w.value) w.next ≡ shown v → Took item s left i v.value v.next
      comma x p q f b w m e =
          let y = read_same e in
          let o = others p w m in
          rw (← y.0, ← y.1, o.1) (more {left = o.0} {c = w.next} {l = w.value} f (rw q b) (rw q o.2))

      at_byte : (x : Read A) (p : ℕ) → space_at s x.next ≡ p → item i ≡ shown x → (t u : Bool) → eqb (get_or s p 0) 0x5D ≡ t → eqb (get_or s p 0) 0x2C ≡ u
          → pick t (read (x.value ∷ []) (p + 1)) (pick u (and_then (more_at item left s p) (λ xs. read (x.value ∷ xs.value) xs.next)) (refused 14 p)) ≡ shown v
          → Took item s left i v.value v.next
      at_byte x p q f true u b c e = let y = read_same e in rw (← y.0, ← y.1, ← q) (last f (rw q (eqb-true (get_or s p 0) 0x5D b)))
      at_byte x p q f false true b c e =
          let g = then_shown (more_at item left s p) _ v e in
          comma x p q f (eqb-true (get_or s p 0) 0x2C c) g.0 g.1 g.2
      at_byte x p q f false false b c e = never_shown e

      go : (x : Read A) → item i ≡ shown x → after_item (more_at item left s) x.value s (space_at s x.next) ≡ shown v → Took item s left i v.value v.next
      go x f e = at_byte x (space_at s x.next) refl f (eqb (get_or s (space_at s x.next) 0) 0x5D) (eqb (get_or s (space_at s x.next) 0) 0x2C) refl refl e

  pub items_took : (left i : ℕ) (v : Read (List A)) → items_at item left s i ≡ shown v → Took item s left i v.value v.next
  items_took zero i v h = took_by zero (λ p w e. never_shown e) i v h
  items_took (suc left) i v h = took_by (suc left) (λ p w e. (left, refl, items_took left (space_at s (p + 1)) w e)) i v h

-- items behind their opening bracket: none, or some that were taken apart
pub inside_by : {A : Type 0} (item : ℕ → Answer (Read A)) (s : List ℕ) (left first : ℕ) (P : List A → Type 0) → P []
    → ((l : List A) (c : ℕ) → Took item s left first l c → P l) → {l : List A} {e : ℕ} → inside_at item left s first ≡ read l e → P l
unfolding inside_at
inside_by {A} item s left first P p q {l} {e} f = go (eqb (get_or s first 0) 0x5D) f
  where
    go : (b : Bool) → pick b (read [] (first + 1)) (items_at item left s first) ≡ read l e → P l
    go true g = subst P (read_same g).0 p
    go false g = q l e (items_took item s left first (record { value = l; next = e }) g)

-- ---- how much they take

-- an item takes at most m bytes more in the strict form than it does here
abbrev pub Bound : {A : Type 0} → (ℕ → Answer (Read A)) → (A → ℕ) → List ℕ → ℕ → Type 0
Bound {A} item size s m = (a : ℕ) (x : A) (e : ℕ) → item a ≡ read x e → (a ≤ e) × (e ≤ length s) × (size x + a ≤ e + m)

module _ {A : Type 0} (item : ℕ → Answer (Read A)) (size : A → ℕ) (s : List ℕ) (m : ℕ) (bound : Bound item size s m) where
  -- the place of a bracket or comma behind an item
  behind_item : (e b : ℕ) → e ≤ length s → get_or s (space_at s e) 0 ≡ b → 0 < b → (e ≤ space_at s e) × (space_at s e < length s)
  behind_item e b h f g = (space_onward s e, byte_positive s (space_at s e) b b (sym f) refl g)

  pub took_bound : {left i : ℕ} {l : List A} {c : ℕ} → Took item s left i l c
      → (i ≤ c) × (c ≤ length s) × (total size l + i ≤ c + m * length l) × (length l ≤ suc left)
  unfolding total
  took_bound (last {i = i} {e = e} {x = x} f b) =
      let g = bound i x e f in
      let p = behind_item e 0x5D g.1 b (omega arith) in
      let z : m * 1 ≡ m = omega arith in
      (omega (arith, g, p), omega (arith, p), omega (arith, g, p, z), omega arith)
  took_bound (more {i = i} {e = e} {c = c} {x = x} {l = l} f b r) =
      let g = bound i x e f in
      let p = behind_item e 0x2C g.1 b (omega arith) in
      let u = took_bound r in
      let q = space_onward s (space_at s e + 1) in
      let z : m * suc (length l) ≡ m + m * length l = omega arith in
      (omega (arith, g, p, q, u), u.1, omega (arith, g, p, q, u, z), omega (arith, u))

-- where no item takes more than that, each that is told by its length is small
pub is_small : {A : Type 0} (item : ℕ → Answer (Read A)) (size : A → ℕ) (s : List ℕ) (m : ℕ) → m ≤ 2_560 → Bound item size s m
    → (i : ℕ) (r : Result (ℕ × ℕ) Refusal) → read_answer r ≡ under size (item i) → IsSmall (length s) i r
is_small item size s m few bound i (Ok x) e =
    let u = under_read size (item i) e in
    let b = bound i u.0 x.1 u.1 in
    (b.0, b.1, omega (arith, b, u.2))
is_small item size s m few bound i (Err r) e = tt

-- ---- items told by their lengths

-- a list of lengths is as many items as it was made of, and as long
lengths_map : {A : Type 0} (size : A → ℕ) (l : List A) → lengths (map size l) ≡ sized size l
unfolding total
lengths_map size [] = refl
lengths_map size (x ∷ l) =
    let n : length (map size l) ≡ length l = ap (λ (t : Sized). t.count) (lengths_map size l) in
    let m : total (λ (k : ℕ). k) (map size l) ≡ total size l = ap (λ (t : Sized). t.len) (lengths_map size l) in
    rw (n, m)

module _ {A : Type 0} (item : ℕ → Answer (Read A)) (size : A → ℕ) (s : List ℕ) where
  -- an item's length
  abbrev told : ℕ → Answer (Read ℕ)
  told i = under size (item i)

  after_told : (f : ℕ → Answer (Read (List ℕ))) (g : ℕ → Answer (Read (List A))) → ((p : ℕ) → f p ≡ under (map size) (g p)) → (x : A) (p : ℕ)
      → after_item f (size x) s p ≡ under (map size) (after_item g x s p)
  unfolding after_item
  after_told f g h x p = go (eqb (get_or s p 0) 0x5D) (eqb (get_or s p 0) 0x2C) (g p) (h p)
    where
      go : (b c : Bool) (r : Answer (Read (List A))) → f p ≡ under (map size) r
          → pick b (read (size x ∷ []) (p + 1)) (pick c (and_then (f p) (λ xs. read (size x ∷ xs.value) xs.next)) (refused 14 p))
          ≡ under (map size) (pick b (read (x ∷ []) (p + 1)) (pick c (and_then r (λ xs. read (x ∷ xs.value) xs.next)) (refused 14 p)))
      go true c r e = refl
      go false true (shown w) e = rw e
      go false true (refused n q) e = rw e
      go false false r e = refl

  -- the items behind a comma, alike
  abbrev Alike : ℕ → Type 0
  Alike left = (p : ℕ) → more_at told left s p ≡ under (map size) (more_at item left s p)

  told_by : (left : ℕ) → Alike left → (i : ℕ) → items_at told left s i ≡ under (map size) (items_at item left s i)
  told_by left others i = rw (items_open told left s i, items_open item left s i) (go (item i))
    where
      go : (r : Answer (Read A)) → and_then (under size r) (λ x. after_item (more_at told left s) x.value s (space_at s x.next))
          ≡ under (map size) (and_then r (λ x. after_item (more_at item left s) x.value s (space_at s x.next)))
      go (shown x) = after_told (more_at told left s) (more_at item left s) others x.value (space_at s x.next)
      go (refused n p) = refl

  items_told : (left i : ℕ) → items_at told left s i ≡ under (map size) (items_at item left s i)
  items_told zero i = told_by zero (λ p. refl) i
  items_told (suc left) i = told_by (suc left) (λ p. items_told left (space_at s (p + 1))) i

  -- items behind their opening bracket, told by their lengths
  pub inside_told : (left at : ℕ) → under lengths (inside_at told left s at) ≡ under (sized size) (inside_at item left s at)
  unfolding inside_at total
  inside_told left at = by (eqb (get_or s at 0) 0x5D)
    where
      go : (r : Answer (Read (List A))) → under lengths (under (map size) r) ≡ under (sized size) r
      go (shown v) = ap (λ (t : Sized). read t v.next) (lengths_map size v.value)
      go (refused n p) = refl

      by : (b : Bool) → under lengths (pick b (read [] (at + 1)) (items_at told left s at)) ≡ under (sized size) (pick b (read [] (at + 1)) (items_at item left s at))
      by true = refl
      by false = rw (items_told left at) (go (items_at item left s at))

-- ---- the loop that measures

-- n items that take len bytes, and those that are still to be read
abbrev pub gathered : (n len : ℕ) → List ℕ → Sized
gathered n len l = record { count = n + length l; len = len + total (λ (k : ℕ). k) l }

-- the whole is what was counted and the items from here on
pub record Going (tell : ℕ → Answer (Read ℕ)) (s : List ℕ) (limit at i n len : ℕ) : Type 0 where
  pub same : under lengths (inside_at tell limit s at) ≡ under (gathered n len) (items_at tell (limit - n) s i)

module _ (tell : ℕ → Answer (Read ℕ)) (s : List ℕ) (limit at : ℕ) where
  -- nothing between the brackets
  pub items_none : (b : ℕ) → b ≡ get_or s at 0 → b ≡ 0x5D → read (record { count = 0; len = 0 }) (at + 1) ≡ under lengths (inside_at tell limit s at)
  unfolding inside_at total
  items_none b f q = rw (eq-eqb (get_or s at 0) 0x5D (sym f ∙ q))

  pub items_start : (b : ℕ) → b ≡ get_or s at 0 → (b ≡ 0x5D → ⊥) → Going tell s limit at at 0 0
  unfolding inside_at
  items_start b f q = record {
    same =
        let z : limit - 0 ≡ limit = omega arith in
        rw (ne_eqb (get_or s at 0) 0x5D (λ z. q (f ∙ z)), z) (under_same {f = lengths} {g = gathered 0 0} (items_at tell limit s at) (λ l. rw (zero-add (length l), zero-add (total (λ (k : ℕ). k) l))));
  }

  module _ {i n len : ℕ} (v : Going tell s limit at i n len) where
    abbrev whole : Answer (Read Sized)
    whole = under lengths (inside_at tell limit s at)

    open_turn : whole ≡ under (gathered n len) (and_then (tell i) (λ x. after_item (more_at tell (limit - n) s) x.value s (space_at s x.next)))
    open_turn = v.same ∙ ap (under (gathered n len)) (items_open tell (limit - n) s i)

    -- an item is refused
    pub items_refused : {m q : ℕ} → refused m q ≡ tell i → refused m q ≡ whole
    items_refused e = sym (open_turn ∙ rw (← e))

    module _ {k next : ℕ} (e : read k next ≡ tell i) {p b : ℕ} (g : p ≡ space_at s next) (h : b ≡ get_or s p 0) where
      behind : whole ≡ under (gathered n len) (after_item (more_at tell (limit - n) s) k s p)
      behind = open_turn ∙ rw (← e, ← g)

      -- its closing bracket
      pub items_closed : b ≡ 0x5D → read (record { count = n + 1; len = len + k }) (p + 1) ≡ whole
      unfolding after_item total
      items_closed q = sym (behind ∙ rw (eq-eqb (get_or s p 0) 0x5D (sym h ∙ q)) (ap (λ (j : ℕ). read (record { count = n + 1; len = len + j }) (p + 1)) (add-zero k)))

      -- neither a bracket nor a comma
      pub items_other : (b ≡ 0x5D → ⊥) → (b ≡ 0x2C → ⊥) → refused 14 p ≡ whole
      unfolding after_item
      items_other q r = sym (behind ∙ rw (ne_eqb (get_or s p 0) 0x5D (λ z. q (h ∙ z)), ne_eqb (get_or s p 0) 0x2C (λ z. r (h ∙ z))))

      comma : (b ≡ 0x5D → ⊥) → b ≡ 0x2C → whole ≡ under (gathered n len) (and_then (more_at tell (limit - n) s p) (λ xs. read (k ∷ xs.value) xs.next))
      unfolding after_item
      comma q r = behind ∙ rw (ne_eqb (get_or s p 0) 0x5D (λ z. q (h ∙ z)), eq-eqb (get_or s p 0) 0x2C (sym h ∙ r))

      -- a comma behind the last one allowed
      pub items_full : (b ≡ 0x5D → ⊥) → b ≡ 0x2C → n ≡ limit → refused 8 p ≡ whole
      items_full q r z = let y : limit - n ≡ 0 = omega arith in sym (comma q r ∙ rw y)

      -- what an item adds to what was counted
      gathered_more : (l : Answer (Read (List ℕ)))
          → under (gathered n len) (and_then l (λ xs. read (k ∷ xs.value) xs.next)) ≡ under (gathered (n + 1) (len + k)) l
      unfolding total
      gathered_more (shown w) =
          let a : n + suc (length w.value) ≡ n + 1 + length w.value = omega arith in
          let c : len + (k + total (λ (j : ℕ). j) w.value) ≡ len + k + total (λ (j : ℕ). j) w.value = omega arith in
          rw (a, c)
      gathered_more (refused j q) = refl

      -- a comma: the next item stands behind it
      pub items_again : {j : ℕ} → (b ≡ 0x5D → ⊥) → b ≡ 0x2C → n < limit → j ≡ space_at s (p + 1) → Going tell s limit at j (n + 1) (len + k)
      items_again {j} q r z y =
          let d : limit - n ≡ suc (limit - (n + 1)) = omega arith in
          record { same = comma q r ∙ rw (d, ← y) (gathered_more (items_at tell (limit - (n + 1)) s j)) }
