-- After any offers in any order, none refused, each key has the latest created_at, and of those the lowest id.
-- One offer keeps that, whatever was offered before; and of the same events only one can be the current one.
use Prim.Native.Nat.{ℕ}
use native.Mathlib.Omega.{arith}
use mathlib.Core.Path.{◌≡◌, refl, sym, ap, ◌∙◌}
use mathlib.Core.Bool.{true}
use mathlib.Core.List.{List}
use mathlib.Core.Logic.{inl, inr}
use Rattle.scan.specs.Compare.{lower}
use Rattle.scan.proofs.Step.{false_true, not_so}
use Rattle.event.specs.Event.{Event}
use Rattle.keys.specs.Key.{Key, keyless, key_of}
use Rattle.rivals.proofs.Order.{lower_asym, lower_total, lower_trans}
use Rattle.archive.specs.declared.Outcome.{Outcome}
use Rattle.archive.specs.declared.Outcome.TheVariants.{New, Replaced, Loses, Held, NotKept}
use Rattle.archive.specs.Archive.{Name, under, alone, name_by, name_of, same_name, Entry, Found, none, one, lookup, fits, act}
use Rattle.archive.specs.Current.{Among, Latest, Current, absent, current, Emptied, Took}
use Rattle.archive.proofs.Lookup.{name_self, Same, same, other, decide, apart, put, fill_found, swap_found}
use Rattle.archive.proofs.Laws.{Later, Says, ephemeral, fresh, repeated, equal, worse, better, ephemeral_keyless}
use Rattle.archive.proofs.Run.{also, run}

-- ---- the order of events

latest_self : (e : Event) → Latest e e
latest_self e = record { time = omega arith; id = λ f. not_so (lower e.id e.id) (λ h. false_true (sym (lower_asym e.id e.id h) ∙ h)) }

latest_later : (d e c : Event) → Latest d c → Later d e → Latest e c
latest_later d e c l m =
    record {
      time = omega (arith, l.time, m.time);
      id = λ f.
          not_so (lower c.id e.id)
          (λ h. false_true (sym (l.id (omega (arith, f, l.time, m.time))) ∙ lower_trans c.id e.id d.id h (m.id (omega (arith, f, l.time, m.time)))));
    }

-- both are as late, and neither id is the lower one
tied : (d e : Event) → Latest d e → Latest e d → d.id ≡ e.id
tied d e l m = lower_total d.id e.id (m.id (omega (arith, l.time, m.time))) (l.id (omega (arith, l.time, m.time)))

-- ---- one offer

module _ (P : Event → Type 0) (e : Event) (n : Name) where
  -- an event of another name changes nothing
  unrelated : {f : Found} → (name_of e ≡ n → ⊥) → Current P n f → Current (also P e) n f
  unrelated a (absent g) = absent (λ d p h. elim p [ inl q ↦ g d q h | inr q ↦ a (sym (ap name_of q) ∙ h) ])
  unrelated a (current p h g) = current (inl p) h (λ d q i. elim q [ inl r ↦ g d r i | inr r ↦ absurd (a (sym (ap name_of r) ∙ i)) ])

  -- the kept one stays: the other is no better
  stays : (f : Found) (d : Event) → (name_of e ≡ n → f ≡ one d) → Latest d e → Current P n f → Current (also P e) n f
  stays f d q l c = go (decide (name_of e) n)
    where
      both : Current P n (one d) → Current (also P e) n (one d)
      both (current p h g) = current (inl p) h (λ x r i. elim r [ inl a ↦ g x a i | inr a ↦ rw a l ])

      go : Same (name_of e) n → Current (also P e) n f
      go (same h) = rw (q h) (both (rw (q h) at c))
      go (other h) = unrelated (apart (name_of e) n h) c

  -- e is stored under its name
  stored : (f : Found) → (name_of e ≡ n → Current (also P e) n (one e)) → Current P n f → Current (also P e) n (put n e f)
  stored f a c = go (decide n (name_of e))
    where
      go : Same n (name_of e) → Current (also P e) n (put n e f)
      go (same h) = let t : same_name n (name_of e) ≡ true = ap (same_name n) (sym h) ∙ name_self n in rw t (a (sym h))
      go (other h) = rw h (unrelated (λ i. apart n (name_of e) h (sym i)) c)

  -- it is the first of its name
  alone_now : name_of e ≡ n → Current P n none → Current (also P e) n (one e)
  alone_now h (absent g) = current (inr refl) h (λ d r i. elim r [ inl a ↦ absurd (g d a i) | inr a ↦ rw a (latest_self e) ])

  -- it is better than the kept one, which was better than all before
  better_now : (d : Event) → name_of e ≡ n → Later d e → Current P n (one d) → Current (also P e) n (one e)
  better_now d h l (current p h' g) =
      current (inr refl) h (λ c r i. elim r [ inl a ↦ latest_later d e c (g c a i) l | inr a ↦ rw a (latest_self e) ])

-- an event without a key has no key's name
keyless_name : (e : Event) (k : Key) → key_of e ≡ keyless → name_of e ≡ under k → ⊥
keyless_name e k h q =
    let r : alone e.id ≡ under k = sym (ap (name_by e.id) h) ∙ q in
    let z : ◌≡◌ {A = ℕ} 0 1 = cc in
    omega arith

offer : (k : Key) (P : Event → Type 0) (s : List Entry) (e : Event) (r : Outcome) → Says s e r → fits s r ≡ true
    → Current P (under k) (lookup (under k) s) → Current (also P e) (under k) (lookup (under k) (act r e s))
offer k P s e r v f c = by r v f
  where
    there_too : {g : Found} → lookup (name_of e) s ≡ g → name_of e ≡ under k → lookup (under k) s ≡ g
    there_too q h = ap (λ (m : Name). lookup m s) (sym h) ∙ q

    by : (r : Outcome) → Says s e r → fits s r ≡ true → Current (also P e) (under k) (lookup (under k) (act r e s))
    by NotKept (ephemeral t) f = unrelated P e (under k) (keyless_name e k (ephemeral_keyless e t)) c
    by Held (repeated q t) f = unrelated P e (under k) (keyless_name e k t) c
    by Held (equal {d = d} q l) f = stays P e (under k) (lookup (under k) s) d (there_too q) l c
    by Loses (worse {d = d} q l) f = stays P e (under k) (lookup (under k) s) d (there_too q) l c
    by New (fresh t q) f =
        rw (fill_found e s (under k) f q)
        (stored P e (under k) (lookup (under k) s) (λ h. alone_now P e (under k) h (rw (there_too q h) at c)) c)
    by Replaced (better {d = d} t q l) f =
        rw (swap_found e s (under k) q)
        (stored P e (under k) (lookup (under k) s) (λ h. better_now P e (under k) d h l (rw (there_too q h) at c)) c)

-- ---- a run

-- the same events, said in another way
again : (n : Name) (P Q : Event → Type 0) (f : Found) → ((e : Event) → P e → Q e) → ((e : Event) → Q e → P e) → Current P n f → Current Q n f
again n P Q none to back (absent g) = absent (λ e q h. g e (back e q) h)
again n P Q (one d) to back (current p h g) = current (to d p) h (λ e q i. g e (back e q) i)

-- What is found under a key is the current one of the events that were offered.
pub keeps_current : (s t : List Entry) (es : List Event) → Emptied s → Took s es t → (k : Key) → Current (λ e. Among e es) (under k) (lookup (under k) t)
keeps_current s t es h w k = run (under k) (λ P f. Current P (under k) f) (again (under k)) (offer k) s t es h w (absent (λ e p q. p))

-- Of the same events there is one current one, where no two different ones share an id.
pub one-current
    : (P Q : Event → Type 0) (n : Name) (f g : Found) → ((e : Event) → P e → Q e) → ((e : Event) → Q e → P e)
    → ((d e : Event) → P d → P e → d.id ≡ e.id → d ≡ e) → Current P n f → Current Q n g → f ≡ g
one-current P Q n none none to back u (absent a) (absent b) = refl
one-current P Q n none (one e) to back u (absent a) (current q h m) = absurd (a e (back e q) h)
one-current P Q n (one d) none to back u (current p h l) (absent b) = absurd (b d (to d p) h)
one-current P Q n (one d) (one e) to back u (current p h l) (current q i m) =
    ap one (u d e p (back e q) (tied d e (l e (back e q) i) (m d (to d p) h)))

-- The order of the offers does not show.
pub any_order
    : (s t s' t' : List Entry) (es fs : List Event) → Emptied s → Emptied s' → Took s es t → Took s' fs t'
    → ((e : Event) → Among e es → Among e fs) → ((e : Event) → Among e fs → Among e es)
    → ((d e : Event) → Among d es → Among e es → d.id ≡ e.id → d ≡ e) → (k : Key) → lookup (under k) t ≡ lookup (under k) t'
any_order s t s' t' es fs h h' w w' to back u k =
    one-current (λ e. Among e es) (λ e. Among e fs) (under k) (lookup (under k) t) (lookup (under k) t') to back u
    (keeps_current s t es h w k) (keeps_current s' t' fs h' w' k)
