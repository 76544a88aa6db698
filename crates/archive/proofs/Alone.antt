-- An event without a key that was offered is found under its id, unless its kind is ephemeral; so there too the order
-- of the offers does not show. What is found under a name was offered with that name: one offer keeps that.
use Prim.Native.Nat.{ℕ}
use mathlib.Core.Path.{◌≡◌, refl, sym, ap, ◌∙◌}
use mathlib.Core.Bool.{true, false}
use mathlib.Core.List.{List}
use mathlib.Core.Logic.{inl, inr}
use native.Mathlib.Omega.{arith}
use Rattle.scan.proofs.Step.{false_true}
use Rattle.event.specs.Event.{Event}
use Rattle.keys.specs.Key.{Keyed, keyless, keyed, key_of}
use Rattle.archive.specs.declared.Outcome.{Outcome}
use Rattle.archive.specs.declared.Outcome.TheVariants.{New, Replaced, Loses, Held, NotKept}
use Rattle.archive.specs.Archive.{Name, alone, name_by, name_of, Entry, Found, none, one, lookup, is_ephemeral, fits, act}
use Rattle.archive.specs.Current.{Among, Emptied, Took}
use Rattle.archive.proofs.Lookup.{name_self, Same, same, other, decide, apart, one_none, put, fill_found, swap_found}
use Rattle.archive.proofs.Laws.{Says, ephemeral, fresh, repeated, equal, worse, better}
use Rattle.archive.proofs.Run.{also, run}

-- ---- under every name

-- what is found under a name is one of the events in P that have the name and a kind that is kept; nothing where there
-- are none
data Stored (P : Event → Type 0) (n : Name) : Found → Type 0 where
  nothing : ((e : Event) → P e → name_of e ≡ n → is_ephemeral e.kind ≡ false → ⊥) → Stored P n none
  something : {d : Event} → P d → name_of d ≡ n → is_ephemeral d.kind ≡ false → Stored P n (one d)

again : (n : Name) (P Q : Event → Type 0) (f : Found) → ((e : Event) → P e → Q e) → ((e : Event) → Q e → P e) → Stored P n f → Stored Q n f
again n P Q none to back (nothing g) = nothing (λ e q h k. g e (back e q) h k)
again n P Q (one d) to back (something p h k) = something (to d p) h k

module _ (P : Event → Type 0) (e : Event) (n : Name) where
  -- what is found stays
  stays : {f : Found} → (name_of e ≡ n → is_ephemeral e.kind ≡ false → f ≡ none → ⊥) → Stored P n f → Stored (also P e) n f
  stays a (nothing g) =
      nothing (λ d p h k. elim p [ inl q ↦ g d q h k | inr q ↦ a (sym (ap name_of q) ∙ h) (sym (ap (λ (x : Event). is_ephemeral x.kind) q) ∙ k) refl ])
  stays a (something p h k) = something (inl p) h k

  -- e is stored under its name
  stored : (f : Found) → is_ephemeral e.kind ≡ false → Stored P n f → Stored (also P e) n (put n e f)
  stored f k c = go (decide n (name_of e))
    where
      go : Same n (name_of e) → Stored (also P e) n (put n e f)
      go (same h) = rw (h, name_self (name_of e)) (something (inr refl) refl k)
      go (other h) = rw h (stays (λ i j q. apart n (name_of e) h (sym i)) c)

offer : (n : Name) (P : Event → Type 0) (s : List Entry) (e : Event) (r : Outcome) → Says s e r → fits s r ≡ true
    → Stored P n (lookup n s) → Stored (also P e) n (lookup n (act r e s))
offer n P s e r v f c = by r v f
  where
    there_already : {d : Event} → lookup (name_of e) s ≡ one d → name_of e ≡ n → is_ephemeral e.kind ≡ false → lookup n s ≡ none → ⊥
    there_already q h k i = one_none (sym q ∙ ap (λ (m : Name). lookup m s) h ∙ i)

    by : (r : Outcome) → Says s e r → fits s r ≡ true → Stored (also P e) n (lookup n (act r e s))
    by NotKept (ephemeral t) f = stays P e n (λ h k q. false_true (sym k ∙ t)) c
    by Held (repeated q t) f = stays P e n (there_already q) c
    by Held (equal q l) f = stays P e n (there_already q) c
    by Loses (worse q l) f = stays P e n (there_already q) c
    by New (fresh t q) f = rw (fill_found e s n f q) (stored P e n (lookup n s) t c)
    by Replaced (better t q l) f = rw (swap_found e s n q) (stored P e n (lookup n s) t c)

keeps_stored : (s t : List Entry) (es : List Event) → Emptied s → Took s es t → (n : Name) → Stored (λ e. Among e es) n (lookup n t)
keeps_stored s t es h w n = run n (λ P f. Stored P n f) (again n) (offer n) s t es h w (nothing (λ e p q k. p))

-- ---- under an id

-- the id of an event that is kept under an id
alone_id : (d : Event) (i : List ℕ) → name_of d ≡ alone i → d.id ≡ i
alone_id d i h = by (key_of d) h
  where
    by : (k : Keyed) → name_by d.id k ≡ alone i → d.id ≡ i
    by keyless q = cc
    by (keyed k) q = let z : ◌≡◌ {A = ℕ} 0 1 = cc in absurd (omega arith)

one-stored
    : (P Q : Event → Type 0) (i : List ℕ) (f g : Found) → ((e : Event) → P e → Q e) → ((e : Event) → Q e → P e)
    → ((d e : Event) → P d → P e → d.id ≡ e.id → d ≡ e) → Stored P (alone i) f → Stored Q (alone i) g → f ≡ g
one-stored P Q i none none to back u (nothing a) (nothing b) = refl
one-stored P Q i none (one e) to back u (nothing a) (something q h k) = absurd (a e (back e q) h k)
one-stored P Q i (one d) none to back u (something p h k) (nothing b) = absurd (b d (to d p) h k)
one-stored P Q i (one d) (one e) to back u (something p h k) (something q j l) = ap one (u d e p (back e q) (alone_id d i h ∙ sym (alone_id e i j)))

-- An event without a key, not ephemeral, is found under its id, where no two different ones share an id.
pub keeps-alone
    : (s t : List Entry) (es : List Event) → Emptied s → Took s es t → ((d e : Event) → Among d es → Among e es → d.id ≡ e.id → d ≡ e)
    → (e : Event) → Among e es → key_of e ≡ keyless → is_ephemeral e.kind ≡ false → lookup (alone e.id) t ≡ one e
keeps-alone s t es h w u e a k j =
    one-stored (λ d. Among d es) (λ d. Among d es) e.id (lookup (alone e.id) t) (one e) (λ d p. p) (λ d p. p) u
    (keeps_stored s t es h w (alone e.id)) (something a (ap (name_by e.id) k) j)

-- The order of the offers does not show under an id.
pub any-order-alone
    : (s t s' t' : List Entry) (es fs : List Event) → Emptied s → Emptied s' → Took s es t → Took s' fs t'
    → ((e : Event) → Among e es → Among e fs) → ((e : Event) → Among e fs → Among e es)
    → ((d e : Event) → Among d es → Among e es → d.id ≡ e.id → d ≡ e) → (i : List ℕ) → lookup (alone i) t ≡ lookup (alone i) t'
any-order-alone s t s' t' es fs h h' w w' to back u i =
    one-stored (λ e. Among e es) (λ e. Among e fs) i (lookup (alone i) t) (lookup (alone i) t') to back u
    (keeps_stored s t es h w (alone i)) (keeps_stored s' t' fs h' w' (alone i))
