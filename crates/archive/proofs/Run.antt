-- What one offer keeps, a run of offers keeps: by induction over the run, with the events offered so far as a property
-- that grows by one event with each offer.
use mathlib.Core.Path.{◌≡◌, refl, sym, subst}
use mathlib.Core.Bool.{true}
use mathlib.Core.List.{List, [], ◌∷◌}
use mathlib.Core.Logic.{◌⊎◌, inl, inr}
use Rattle.event.specs.Event.{Event}
use Rattle.archive.specs.declared.Outcome.{Outcome}
use Rattle.archive.specs.Archive.{Name, Entry, Found, none, lookup, fits, act}
use Rattle.archive.specs.Current.{Among, here, there, Emptied, end, more, Took, stop, next}
use Rattle.archive.proofs.Laws.{Says, says, taken}

-- one more event
abbrev pub also : (Event → Type 0) → Event → Event → Type 0
also P e d = P d ⊎ (d ≡ e)

emptied_none : (n : Name) {s : List Entry} → Emptied s → lookup n s ≡ none
emptied_none n end = refl
emptied_none n (more h) = emptied_none n h

nowhere : {e : Event} → Among e [] → ⊥
nowhere a = elim a [ ]

-- C says something of what is found under n, by the events that were offered; `again` says the same events in another
-- way, `offer` is one offer.
module _ (n : Name) (C : (Event → Type 0) → Found → Type 0)
    (again : (P Q : Event → Type 0) (f : Found) → ((e : Event) → P e → Q e) → ((e : Event) → Q e → P e) → C P f → C Q f)
    (offer : (P : Event → Type 0) (s : List Entry) (e : Event) (r : Outcome) → Says s e r → fits s r ≡ true → C P (lookup n s) → C (also P e) (lookup n (act r e s))) where
  on : (P : Event → Type 0) (s t : List Entry) (es : List Event) → Took s es t → C P (lookup n s) → C (λ e. P e ⊎ Among e es) (lookup n t)
  on P s t [] stop c = again P (λ e. P e ⊎ Among e []) (lookup n s) (λ e p. inl p) (λ e p. elim p [ inl q ↦ q | inr q ↦ absurd (nowhere q) ]) c
  on P s t (e ∷ es) (next r q w) c =
      let h = taken s e r q in
      again (λ d. also P e d ⊎ Among d es) (λ d. P d ⊎ Among d (e ∷ es)) (lookup n t) to back
      (on (also P e) (act r e s) t es w (offer P s e r (subst (Says s e) h.0 (says s e)) h.1 c))
    where
      to : (d : Event) → also P e d ⊎ Among d es → P d ⊎ Among d (e ∷ es)
      to d (inl (inl p)) = inl p
      to d (inl (inr q)) = inr (subst (λ (x : Event). Among x (e ∷ es)) (sym q) here)
      to d (inr a) = inr (there a)

      back : (d : Event) → P d ⊎ Among d (e ∷ es) → also P e d ⊎ Among d es
      back d (inl p) = inl (inl p)
      back d (inr here) = inl (inr refl)
      back d (inr (there a)) = inr a

  -- after a run from an emptied table, by the events of the run
  pub run : (s t : List Entry) (es : List Event) → Emptied s → Took s es t → C (λ _. ⊥) none → C (λ e. Among e es) (lookup n t)
  run s t es h w c =
      again (λ e. ⊥ ⊎ Among e es) (λ e. Among e es) (lookup n t) (λ e p. elim p [ inl q ↦ absurd q | inr q ↦ q ]) (λ e p. inr p)
      (on (λ _. ⊥) s t es w (rw (emptied_none n h) c))
