-- What is found under a name after a table changed: the event that was stored under its own name, and what was there
-- before under every other. Slot by slot, by whether two names are the same.
use Prim.Native.Nat.{ℕ}
use mathlib.Core.Path.{◌≡◌, refl, sym, ap, ◌∙◌}
use mathlib.Core.Bool.{Bool, true, false}
use mathlib.Core.List.{List, [], ◌∷◌}
use native.Mathlib.Omega.{arith}
use lib.Dec.{eqb}
use borrow.Author.Tests.{eq-eqb, eqb-true}
use Rattle.scan.specs.Choice.{pick}
use Rattle.scan.specs.Compare.{same_bytes}
use Rattle.scan.proofs.Step.{pick_true, false_true}
use Rattle.scan.proofs.CompareLaws.{same_same, bytes_same}
use Rattle.event.specs.Event.{Event}
use Rattle.keys.specs.Key.{Key, keyed, same_key}
use Rattle.archive.specs.Archive.{Name, under, alone, name_of, same_name, Entry, free, held, Found, none, one, lookup, has_free, fill, swap}

-- ---- whether two names are the same

key_self : (k : Key) → same_key (keyed k) (keyed k) ≡ true
key_self k = rw (eq-eqb k.kind k.kind refl, same_same k.pubkey, same_same k.text)

key_is : (a b : Key) → same_key (keyed a) (keyed b) ≡ true → a ≡ b
key_is a b h =
    let t = pick_true (eqb a.kind b.kind) (pick (same_bytes a.pubkey b.pubkey) (same_bytes a.text b.text) false) h in
    let u = pick_true (same_bytes a.pubkey b.pubkey) (same_bytes a.text b.text) t.1 in
    let p = bytes_same a.pubkey b.pubkey u.0 in
    let q = eqb-true a.kind b.kind t.0 in
    let r = bytes_same a.text b.text u.1 in
    λ i. record { pubkey = p i; kind = q i; text = r i }

pub name_self : (n : Name) → same_name n n ≡ true
name_self (under k) = key_self k
name_self (alone i) = same_same i

pub name_is : (m n : Name) → same_name m n ≡ true → m ≡ n
name_is (under a) (under b) h = ap under (key_is a b h)
name_is (under a) (alone j) h = absurd (false_true h)
name_is (alone i) (under b) h = absurd (false_true h)
name_is (alone i) (alone j) h = ap alone (bytes_same i j h)

-- two names are the same, or the test says no
pub data Same (m n : Name) : Type 0 where
  same : m ≡ n → Same m n
  other : same_name m n ≡ false → Same m n

pub decide : (m n : Name) → Same m n
decide m n = by_test (same_name m n) refl
  where
    by_test : (t : Bool) → same_name m n ≡ t → Same m n
    by_test true e = same (name_is m n e)
    by_test false e = other e

-- names that the test tells apart are not equal, and it tells them apart either way round
pub apart : (m n : Name) → same_name m n ≡ false → m ≡ n → ⊥
apart m n h e = false_true (sym h ∙ ap (same_name m) (sym e) ∙ name_self m)

pub turned : (m n : Name) → same_name m n ≡ false → same_name n m ≡ false
turned m n h = go (decide n m)
  where
    go : Same n m → same_name n m ≡ false
    go (same e) = absurd (apart m n h (sym e))
    go (other e) = e

-- ---- what is found in a slot

pub one_none : {d : Event} → one d ≡ none → ⊥
one_none e = let z : ◌≡◌ {A = ℕ} 0 1 = cc in omega arith

-- the slot's event, where it has the name, and else what is found in the rest
pub found_here : (n : Name) (d : Event) (s : List Entry) → n ≡ name_of d → lookup n (held d ∷ s) ≡ one d
found_here n d s e = rw (e, name_self (name_of d))

pub found_past : (n : Name) (d : Event) (s : List Entry) → same_name n (name_of d) ≡ false → lookup n (held d ∷ s) ≡ lookup n s
found_past n d s h = rw h

-- what is found has the name
pub found_name : (n : Name) (s : List Entry) {d : Event} → lookup n s ≡ one d → name_of d ≡ n
found_name n [] q = absurd (one_none (sym q))
found_name n (free ∷ s) q = found_name n s q
found_name n (held c ∷ s) {d} q = go (λ r. found_name n s r) (decide n (name_of c))
  where
    go : (lookup n s ≡ one d → name_of d ≡ n) → Same n (name_of c) → name_of d ≡ n
    go ih (same p) = let h = found_here n c s p in let e : c ≡ d = cc in sym (p ∙ ap name_of e)
    go ih (other p) = ih (sym (found_past n c s p) ∙ q)

-- ---- what is found after a change

-- the event under its name, and all else as it was
abbrev pub put : Name → Event → Found → Found
put n e f = pick (same_name n (name_of e)) (one e) f

-- past a slot whose event has another name
past : (e d : Event) (n : Name) (f g : Found) → same_name (name_of e) (name_of d) ≡ false → f ≡ put n e g
    → pick (same_name n (name_of d)) (one d) f ≡ put n e (pick (same_name n (name_of d)) (one d) g)
past e d n f g p ih = go (decide n (name_of d))
  where
    go : Same n (name_of d) → pick (same_name n (name_of d)) (one d) f ≡ put n e (pick (same_name n (name_of d)) (one d) g)
    go (same q) = rw (q, name_self (name_of d), turned (name_of e) (name_of d) p)
    go (other q) = rw q ih

pub fill_found : (e : Event) (s : List Entry) (n : Name) → has_free s ≡ true → lookup (name_of e) s ≡ none → lookup n (fill e s) ≡ put n e (lookup n s)
fill_found e [] n h q = absurd (false_true h)
fill_found e (free ∷ s) n h q = refl
fill_found e (held d ∷ s) n h q = go (λ r. fill_found e s n h r) (decide (name_of e) (name_of d))
  where
    go : (lookup (name_of e) s ≡ none → lookup n (fill e s) ≡ put n e (lookup n s)) → Same (name_of e) (name_of d)
        → lookup n (held d ∷ fill e s) ≡ put n e (lookup n (held d ∷ s))
    go ih (same p) = absurd (one_none (sym (found_here (name_of e) d s p) ∙ q))
    go ih (other p) = past e d n (lookup n (fill e s)) (lookup n s) p (ih (sym (found_past (name_of e) d s p) ∙ q))

pub swap_found : (e : Event) (s : List Entry) (n : Name) {d₀ : Event} → lookup (name_of e) s ≡ one d₀ → lookup n (swap e s) ≡ put n e (lookup n s)
swap_found e [] n q = absurd (one_none (sym q))
swap_found e (free ∷ s) n q = swap_found e s n q
swap_found e (held d ∷ s) n {d₀} q = go (λ r. swap_found e s n r) (decide (name_of e) (name_of d))
  where
    go : (lookup (name_of e) s ≡ one d₀ → lookup n (swap e s) ≡ put n e (lookup n s)) → Same (name_of e) (name_of d)
        → lookup n (swap e (held d ∷ s)) ≡ put n e (lookup n (held d ∷ s))
    go ih (same p) = rw (sym p, name_self (name_of e)) (twice (same_name n (name_of e)))
      where
        twice : (t : Bool) → pick t (one e) (lookup n s) ≡ pick t (one e) (pick t (one d) (lookup n s))
        twice true = refl
        twice false = refl
    go ih (other p) = rw p (past e d n (lookup n (swap e s)) (lookup n s) p (ih (sym (found_past (name_of e) d s p) ∙ q)))
