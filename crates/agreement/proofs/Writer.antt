-- Demand 3's sentences on the NSON writer: it writes the event's text exactly if NSON can carry it and there is room,
-- and both readers show the event again.
-- By the cases of the reading, of what can be carried, and of room.
use Prim.Native.Nat.{ℕ, ◌<◌}
use mathlib.Core.Path.{◌≡◌, refl, sym, ap, ◌∙◌}
use mathlib.Core.Bool.{Bool, true, false}
use mathlib.Core.List.{List}
use mathlib.Core.Logic.{dite}
use native.Mathlib.Omega.{arith}
use native.Mathlib.Decide.{dec_le}
use lib.ListN.{length, take}
use Rattle.scan.specs.Choice.{Answer, shown, refused}
use Rattle.scan.proofs.Step.{false_true}
use Rattle.scan.proofs.Many.{pick_shown, after, shown_same}
use Rattle.buffer.specs.Entry.{writes, leaves}
use Rattle.event.specs.Event.{Event, Valid}
use Rattle.notepack.specs.Unpack.{unpack}
use Rattle.notepack.specs.Strict.{pack}
use Rattle.notepack.proofs.Sound as packed
use Rattle.nson.specs.Nson.{nson}
use Rattle.nson.specs.Carries.{Carries}
use Rattle.nson.specs.inner.Decision.{carries}
use Rattle.nson.proofs.Complete as complete
use Rattle.nson.proofs.Decision.{carries_exactly}
use Rattle.nson.specs.Entries.{carried}
use Rattle.agreement.specs.Demand3.{Writable, Writes, WriterWrites, Refused, is_refused, OrNothing, WriterRefusals, ShowsAgain, ReadBack}
use Rattle.agreement.proofs.Entries.{wrote, fits, lacks, left}
use Rattle.agreement.proofs.Agree.{json_back}

-- ---- what the writer has to write

can_carry : {a : Answer Event} {e : Event} → a ≡ shown e → Carries e → carried a ≡ shown e
can_carry {e = e} u c = rw (u, (carries_exactly e).1 c)

carries_no : {e : Event} → (Carries e → ⊥) → carries e ≡ false
carries_no {e} n = go (carries e) refl
  where
    go : (b : Bool) → carries e ≡ b → b ≡ false
    go true t = absurd (n ((carries_exactly e).0 t))
    go false t = refl

cannot_carry : {a : Answer Event} {e : Event} → a ≡ shown e → (Carries e → ⊥) → carried a ≡ refused 17 0
cannot_carry u n = rw (u, carries_no n)

not_read : {a : Answer Event} {n p : ℕ} → a ≡ refused n p → carried a ≡ refused n p
not_read u = rw u

-- what it writes was shown by the notepack reader, and is carried
was_carried : (a : Answer Event) {e : Event} → carried a ≡ shown e → (a ≡ shown e) × Carries e
was_carried a {e} h =
    after a _ e h
    (λ x p q.
    let t = pick_shown (carries x) (shown x) 17 0 e q in
    let f : x ≡ e = shown_same t.1 in
    rw (sym f) (p, (carries_exactly x).0 t.0))

-- ---- what the writer does with what the reader of packed events tells

nothing : {a : Answer Event} {n p : ℕ} (d : List ℕ) → a ≡ refused n p → Refused (writes nson a d) × (leaves nson a d ≡ d)
nothing d e = rw e (is_refused, refl)

module _ (a : Answer Event) (d : List ℕ) where
  pub can_write : (w : Writable a d) → Writes a d w.event
  can_write w = let f = fits nson d (can_carry w.accepted w.carries) w.room in record { written = f.0; left = f.1 }

  pub or_not : (Writable a d → ⊥) → Refused (writes nson (carried a) d) × (leaves nson (carried a) d ≡ d)
  or_not otherwise = go a refl
    where
      room : (e : Event) → a ≡ shown e → (b : Bool) → carries e ≡ b → Refused (writes nson (carried a) d) × (leaves nson (carried a) d ≡ d)
      room e u true t =
          let c = (carries_exactly e).0 t in
          dite (dec_le (length (nson e)) (length d)) (λ h. absurd (otherwise record { event = e; accepted = u; carries = c; room = h }))
          (λ h. let l = lacks nson d (can_carry u c) (omega (arith, h)) in (rw l.0 is_refused, l.1))
      room e u false t = nothing d (cannot_carry {e = e} u (λ c. false_true (sym t ∙ (carries_exactly e).1 c)))

      go : (x : Answer Event) → a ≡ x → Refused (writes nson (carried a) d) × (leaves nson (carried a) d ≡ d)
      go (shown e) u = room e u (carries e) refl
      go (refused n p) u = nothing d (not_read u)

  -- the refusal says why
  pub told_refusal : (n p : ℕ) → a ≡ refused n p → writes nson (carried a) d ≡ refused n p
  told_refusal n p u = ap (λ (x : Answer Event). writes nson x d) (not_read u)

  pub told_17 : (e : Event) → a ≡ shown e → (Carries e → ⊥) → writes nson (carried a) d ≡ refused 17 0
  told_17 e u n = ap (λ (x : Answer Event). writes nson x d) (cannot_carry u n)

  pub told_11 : (e : Event) → a ≡ shown e → Carries e → length d < length (nson e) → writes nson (carried a) d ≡ refused 11 (length (nson e))
  told_11 e u c h = (lacks nson d (can_carry u c) h).0

  -- both readers show the event that was packed
  pub shows_again : (d₂ : List ℕ) (e : Event) (n : ℕ) → Valid e → a ≡ shown e → writes nson (carried a) d ≡ shown n → ShowsAgain (take n (leaves nson (carried a) d)) d₂ e
  shows_again d₂ e n v u r =
      let f = wrote nson (carried a) d n r in
      let x = f.value in
      let c = was_carried a f.reads in
      let same : x ≡ e = shown_same (sym c.0 ∙ u) in
      let k : Carries e = rw same at c.1 in
      let t : take n (leaves nson (carried a) d) ≡ nson e = left nson d n f.reads f.long f.room ∙ ap nson same in
      let p = complete.read_back k v in
      let q = json_back k v in
      rw t
      record {
        nson_shows = p;
        json_shows = q;
        nson_accepts = λ h. (fits pack d₂ p h).0;
        json_accepts = λ h. (fits pack d₂ q h).0;
        nson_bytes = λ h. left pack d₂ (length (pack e)) p refl h;
        json_bytes = λ h. left pack d₂ (length (pack e)) q refl h;
      }

-- ---- the sentences, for bare packed bytes

pub writer_writes : WriterWrites
writer_writes s d = can_write (unpack s) d

pub writer_refusals : WriterRefusals
writer_refusals s d = (told_refusal (unpack s) d, told_17 (unpack s) d, told_11 (unpack s) d)

pub or_nothing : OrNothing
or_nothing s d = or_not (unpack s) d

pub read_back : ReadBack
read_back s d d₂ e n bytes u r = shows_again (unpack s) d d₂ e n (packed.sound s bytes e u).valid u r
