-- What each outcome of an offer says of the table, by the tests that lead to it; that ephemeral kinds have no key; and
-- that two events are found to be the same exactly where they are equal, by the strict form being an event's alone.
use Prim.Native.Nat.{ℕ, ◌≤◌}
use mathlib.Core.Path.{◌≡◌, refl, sym, subst, ◌∙◌}
use mathlib.Core.Bool.{Bool, true, false}
use mathlib.Core.List.{List}
use mathlib.Core.Logic.{◌↔◌}
use native.Mathlib.Omega.{arith}
use lib.ListN.{length}
use lib.Dec.{leb, ltb}
use borrow.Author.Tests.{le-leb, lt-leb, ne_eqb, leb-true, ltb-true, ltb-false}
use Rattle.scan.specs.Choice.{pick, shown, refused}
use Rattle.scan.specs.Compare.{lower}
use Rattle.scan.specs.Place.{within}
use Rattle.scan.proofs.Step.{pick_true, pick_by, false_true}
use Rattle.scan.proofs.CompareLaws.{same_same, bytes_same}
use Rattle.event.specs.Event.{Event, Valid}
use Rattle.notepack.specs.Strict.{pack}
use Rattle.notepack.proofs.StrictLaws.{pack_injective}
use Rattle.keys.specs.Key.{Keyed, keyless, keyed, is_replaceable, is_labelled, key_for, key_of}
use Rattle.rivals.specs.declared.Kept.TheVariants.{First, Second}
use Rattle.rivals.specs.Rivals.{keeps_by, keeps}
use Rattle.archive.specs.declared.Outcome.{Outcome}
use Rattle.archive.specs.declared.Outcome.TheVariants.{New, Replaced, Loses, Held, NotKept}
use Rattle.archive.specs.Archive.{name_of, Entry, Found, none, one, lookup, has_free, is_ephemeral, same_event, is_second, beside, versus, wanted, fits, offered}
use Rattle.archive.specs.Current.{Latest}

-- ---- two events

-- Kinds 20000 to 29999 have no key.
pub ephemeral_keyless : (e : Event) → is_ephemeral e.kind ≡ true → key_of e ≡ keyless
unfolding is_ephemeral key_for is_replaceable is_labelled within
ephemeral_keyless e h =
    let t = pick_true (leb 20_000 e.kind) (leb e.kind 29_999) h in
    let a = leb-true 20_000 e.kind t.0 in
    let b = leb-true e.kind 29_999 t.1 in
    let m = ne_eqb e.kind 0 (λ q. omega arith) in
    let n = ne_eqb e.kind 3 (λ q. omega arith) in
    rw (m, n, le-leb 10_000 e.kind (omega arith), lt-leb e.kind 19_999 (omega arith), lt-leb 30_000 e.kind (omega arith))

-- Of valid events, the same ones are equal.
pub same_event_lem : (d e : Event) → Valid d → Valid e → length (pack d) ≤ 65_536 → (same_event d e ≡ true) ↔ (d ≡ e)
unfolding same_event
same_event_lem d e v w h = (λ q. pack_injective d e v w h (bytes_same (pack d) (pack e) q), λ q. rw q (same_same (pack e)))

-- e is later than d, or as late with the lower id
pub record Later (d e : Event) : Type 0 where
  pub time : d.created_at ≤ e.created_at
  pub id : d.created_at ≡ e.created_at → lower e.id d.id ≡ true

-- whether the second of d and e is kept
data Chosen (d e : Event) : Bool → Type 0 where
  first : Latest d e → Chosen d e false
  second : Later d e → Chosen d e true

chosen : (d e : Event) → Chosen d e (is_second (keeps d e))
unfolding keeps_by
chosen d e = go (ltb e.created_at d.created_at) (ltb d.created_at e.created_at) (lower e.id d.id) refl refl refl
  where
    go : (t u v : Bool) → ltb e.created_at d.created_at ≡ t → ltb d.created_at e.created_at ≡ u → lower e.id d.id ≡ v
        → Chosen d e (is_second (pick t First (pick u Second (pick v Second First))))
    go true u v p q r = let l = ltb-true e.created_at d.created_at p in first (record { time = omega arith; id = λ f. absurd (omega arith) })
    go false true v p q r = let l = ltb-true d.created_at e.created_at q in second (record { time = omega arith; id = λ f. absurd (omega arith) })
    go false false true p q r = second (record { time = ltb-false e.created_at d.created_at p; id = λ f. r })
    go false false false p q r = first (record { time = ltb-false d.created_at e.created_at q; id = λ f. r })

-- ---- what each outcome says

pub data Says (s : List Entry) (e : Event) : Outcome → Type 0 where
  ephemeral : is_ephemeral e.kind ≡ true → Says s e NotKept
  fresh : is_ephemeral e.kind ≡ false → lookup (name_of e) s ≡ none → Says s e New
  repeated : {d : Event} → lookup (name_of e) s ≡ one d → key_of e ≡ keyless → Says s e Held
  equal : {d : Event} → lookup (name_of e) s ≡ one d → Latest d e → Says s e Held
  worse : {d : Event} → lookup (name_of e) s ≡ one d → Latest d e → Says s e Loses
  better : {d : Event} → is_ephemeral e.kind ≡ false → lookup (name_of e) s ≡ one d → Later d e → Says s e Replaced

module _ (s : List Entry) (e : Event) where
  pub says : Says s e (wanted s e)
  unfolding wanted
  says = pick_by (Says s e) (is_ephemeral e.kind) ephemeral (λ h. by_found h (lookup (name_of e) s) refl)
    where
      by_order : is_ephemeral e.kind ≡ false → (d : Event) (t : Bool) → lookup (name_of e) s ≡ one d → Chosen d e t
          → Says s e (pick t Replaced (pick (same_event d e) Held Loses))
      by_order h d true q (second l) = better h q l
      by_order h d false q (first l) = pick_by (Says s e) (same_event d e) (λ t. equal q l) (λ t. worse q l)

      by_key : is_ephemeral e.kind ≡ false → (d : Event) (k : Keyed) → key_of e ≡ k → lookup (name_of e) s ≡ one d → Says s e (beside k d e)
      by_key h d keyless i q = repeated q i
      by_key h d (keyed k) i q = by_order h d (is_second (keeps d e)) q (chosen d e)

      by_found : is_ephemeral e.kind ≡ false → (f : Found) → lookup (name_of e) s ≡ f → Says s e (versus f e)
      by_found h none q = fresh h q
      by_found h (one d) q = by_key h d (key_of e) refl q

  -- Nothing has the name of a new event.
  pub new_none : wanted s e ≡ New → lookup (name_of e) s ≡ none
  new_none h = go (subst (Says s e) h says)
    where
      go : Says s e New → lookup (name_of e) s ≡ none
      go (fresh h q) = q

  -- What is replaced is there.
  pub replaced_rival : wanted s e ≡ Replaced → (d : Event) × (lookup (name_of e) s ≡ one d)
  replaced_rival h = go (subst (Says s e) h says)
    where
      go : Says s e Replaced → (d : Event) × (lookup (name_of e) s ≡ one d)
      go (better {d = d} h q l) = (d, q)

  -- An offer that is not refused comes to what is wanted, and there is room for it.
  pub taken : (r : Outcome) → offered s e ≡ shown r → (wanted s e ≡ r) × (fits s r ≡ true)
  unfolding offered
  taken r q = go (fits s (wanted s e)) refl q
    where
      go : (t : Bool) → fits s (wanted s e) ≡ t → pick t (shown (wanted s e)) (refused 23 0) ≡ shown r → (wanted s e ≡ r) × (fits s r ≡ true)
      go true f h = let w : wanted s e ≡ r = cc in (w, rw w at f)
      go false f h = let z : ◌≡◌ {A = ℕ} 0 1 = cc in absurd (omega arith)

  -- 23 only where a new slot is needed and none is free.
  pub full_only : (n p : ℕ) → offered s e ≡ refused n p → (wanted s e ≡ New) × (has_free s ≡ false) × (n ≡ 23) × (p ≡ 0)
  unfolding offered
  full_only n p q = go (wanted s e) (fits s (wanted s e)) refl refl q
    where
      new : (r : Outcome) → fits s r ≡ false → (r ≡ New) × (has_free s ≡ false)
      new New f = (refl, f)
      new Replaced f = absurd (false_true (sym f))
      new Loses f = absurd (false_true (sym f))
      new Held f = absurd (false_true (sym f))
      new NotKept f = absurd (false_true (sym f))

      go : (r : Outcome) (t : Bool) → wanted s e ≡ r → fits s r ≡ t → pick t (shown r) (refused 23 0) ≡ refused n p
          → (wanted s e ≡ New) × (has_free s ≡ false) × (n ≡ 23) × (p ≡ 0)
      go r true w f h = let z : ◌≡◌ {A = ℕ} 0 1 = cc in absurd (omega arith)
      go r false w f h =
          let t = new r f in
          let a : n ≡ 23 = cc in
          let b : p ≡ 0 = cc in
          (w ∙ t.0, t.1, a, b)
