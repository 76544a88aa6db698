-- What two reads and the keys that stand in the inputs tell is the choice between their events.
-- By the event that each input shows.
use Prim.Native.Nat.{ℕ}
use mathlib.Core.Path.{◌≡◌, refl, sym, ◌∙◌}
use mathlib.Core.Bool.{Bool, true, false}
use mathlib.Core.List.{List, []}
use lib.ListN.{take, drop}
use borrow.Author.Tests.{eq-eqb}
use Rattle.scan.specs.Choice.{pick, Answer, shown, refused}
use Rattle.scan.specs.Compare.{same_bytes}
use Rattle.scan.proofs.CompareLaws.{same_same}
use Rattle.notepack.specs.declared.Head.{Head}
use Rattle.notepack.specs.Views.{numbers_of}
use Rattle.notepack.proofs.Viewing.{numbers_event, numbers_refused}
use Rattle.keys.specs.Key.{is_replaceable, same_key}
use Rattle.keys.specs.inner.Place.{key_at, key_there}
use Rattle.keys.proofs.Keys.{replaceable-key, key_shown}
use Rattle.rivals.specs.declared.Kept.{Kept}
use Rattle.rivals.specs.declared.Kept.TheVariants.{NotRivals}
use Rattle.rivals.specs.inner.Answers.{kept_there}
use Rattle.rivals.specs.Rivals.{keeps_by, kept_of, chosen, first_refused, second_refused, rivals}

-- two replaceable records of one kind: their authors decide
pub same-replaceable
    : (s t : List ℕ) (h k : Head) → h.kind ≡ k.kind → is_replaceable h.kind ≡ true
    → same_bytes (take 32 (drop 32 s)) (take 32 (drop 32 t)) ≡ same_key (key_there s (key_at s h)) (key_there t (key_at t k))
same-replaceable s t h k e r =
    rw (replaceable-key s h r, replaceable-key t k (rw (← e) r), eq-eqb _ _ e, same_same []) (picked (same_bytes (take 32 (drop 32 s)) (take 32 (drop 32 t))))
  where
    picked : (b : Bool) → b ≡ pick b true false
    picked true = refl
    picked false = refl

module _ (s t : List ℕ) where
  pub refused_first : (r : Answer Head) (n q : ℕ) → r ≡ numbers_of s → r ≡ refused n q → first_refused n q ≡ rivals s t
  unfolding rivals
  refused_first r n q e k = rw (numbers_refused s n q (sym e ∙ k))

  pub refused_second : (h : Head) (r u : Answer Head) (n q : ℕ) → r ≡ numbers_of s → r ≡ shown h → u ≡ numbers_of t → u ≡ refused n q → second_refused n q ≡ rivals s t
  unfolding rivals
  refused_second h r u n q e k f l = rw ((numbers_event s h (sym e ∙ k)).shows, numbers_refused t n q (sym f ∙ l))

  module _ (h k : Head) (r u : Answer Head) (e : r ≡ numbers_of s) (f : r ≡ shown h) (g : u ≡ numbers_of t) (l : u ≡ shown k) where
    pub told_there : chosen (kept_there s h t k) ≡ rivals s t
    unfolding rivals kept_of kept_there
    told_there =
        let a = numbers_event s h (sym e ∙ f) in
        let b = numbers_event t k (sym g ∙ l) in
        sym (rw (a.shows, b.shows, key_shown s h a, key_shown t k b, a.time, b.time, a.id, b.id))

    -- x tells whether the keys are the same
    module _ {x : Bool} (m : x ≡ same_key (key_there s (key_at s h)) (key_there t (key_at t k))) where
      pub told_rivals : (c : Kept) → x ≡ true → c ≡ keeps_by h.created_at k.created_at (take 32 s) (take 32 t) → chosen c ≡ rivals s t
      unfolding kept_there
      told_rivals c v w = sym (sym told_there ∙ rw (← m, v, ← w))

      pub told_strangers : x ≡ false → chosen NotRivals ≡ rivals s t
      unfolding kept_there
      told_strangers v = sym (sym told_there ∙ rw (← m, v))
