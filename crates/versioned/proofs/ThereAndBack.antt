-- There and back, and back and there: the same bytes; and the moves change neither the event nor whether it is strict.
-- What a move leaves is its text where there is room, and the version byte is taken off again.
use Prim.Native.Nat.{ℕ, suc, ◌-◌, ◌≤◌}
use mathlib.Core.Path.{◌≡◌, refl, sym, ap, ◌∙◌}
use mathlib.Core.Bool.{true, false}
use mathlib.Core.List.{List}
use native.Mathlib.Omega.{arith}
use lib.ListN.{length, take, drop, length-drop}
use lib.Seq.{take_at}
use lib.Dec.{leb}
use borrow.Author.Tests.{le-leb, leb-true}
use Rattle.scan.specs.Choice.{Answer, shown, refused}
use Rattle.scan.proofs.Many.{pick_shown}
use Rattle.buffer.specs.Entry.{written, filled, writes, leaves}
use Rattle.event.specs.Event.{Event}
use Rattle.notepack.specs.Unpack.{unpack}
use Rattle.strict.specs.Strict.{strict}
use Rattle.versioned.specs.Versioned.{behind, given}
use Rattle.versioned.specs.Moves.{with_version, without_version, movable}
use Rattle.versioned.specs.ThereAndBack.{ThereAndBack, BackAndThere, MovedIsRead, SameEvent, SameStrict}
use Rattle.versioned.proofs.Starting.{clash, versioned_starts, given_bare, given_shown, given_versioned}
use Rattle.versioned.proofs.Accepted.{accepted_event, accepted_apart}

-- a text with room: its length is told, and it stands at the start
wrote : {A : Type 0} (text : A → List ℕ) {x : Answer A} {a : A} (d : List ℕ) (n : ℕ) → x ≡ shown a → length (text a) ≡ n → n ≤ length d
    → (writes text x d ≡ shown n) × (take n (leaves text x d) ≡ text a)
unfolding written filled
wrote text {a = a} d n e l h =
    let u = le-leb (length (text a)) (length d) (omega (arith, l, h)) in
    (rw (e, u) (ap shown l), rw (e, u) (take_at (text a) (drop (length (text a)) d) n l))

-- what can be moved, where the reader accepts it
can_move : (s : List ℕ) (e : Event) → unpack s ≡ shown e → length s ≤ 65_535 → movable s ≡ shown s
unfolding movable
can_move s e h l = rw (le-leb (length s) 65_535 l) (accepted_event true s e (given_bare unpack s ∙ h))

-- THE theorem
pub there_and_back : ThereAndBack
there_and_back s e h l d d₂ r r₂ =
    let t = wrote with_version d (suc (length s)) (can_move s e h l) refl r in
    let a = accepted_event false (with_version s) e (given_versioned unpack s l ∙ ap (behind 1) h) in
    let u = wrote without_version d₂ (length s) a refl r₂ in
    record { there = t.0; form = t.1; back = rw t.1 u.0; same = rw t.1 u.1 }

-- and the other way round
pub back_and_there : BackAndThere
back_and_there s e h d d₂ r r₂ =
    let k = given_shown false unpack s h in
    let v = versioned_starts s k.1 in
    let n = ap length v.whole in
    let b : length (without_version s) ≤ 65_535 = omega (arith, n, v.short) in
    let t = wrote without_version d (length s - 1) (accepted_event false s e h) (length-drop 1 s) (omega (arith, r)) in
    let w : unpack (without_version s) ≡ shown e = ap (λ (j : ℕ). unpack (drop j s)) (sym v.one) ∙ k.2 in
    let u = wrote with_version d₂ (length s) (can_move (without_version s) e w b) (sym n) r₂ in
    record { there = t.0; form = t.1; back = rw t.1 u.0; same = rw t.1 (u.1 ∙ sym v.whole) }

-- nothing else changes
pub same_event_lem : SameEvent
same_event_lem s l = given_versioned unpack s l

pub same_strict : SameStrict
same_strict s l = given_versioned strict s l

pub moved_is_read : MovedIsRead
unfolding movable
moved_is_read s d n h = go (movable s) refl h
  where
    go : (x : Answer (List ℕ)) → movable s ≡ x → writes with_version x d ≡ shown n → (e : Event) × (unpack s ≡ shown e) × (given false unpack (with_version s) ≡ shown e)
    go (shown b) q r =
        let t = pick_shown (leb (length s) 65_535) _ 1 0 b q in
        let a = accepted_apart true s b t.1 in
        let u = sym (given_bare unpack s) ∙ a.1 in
        (a.0, u, given_versioned unpack s (leb-true (length s) 65_535 t.0) ∙ ap (behind 1) u)
    go (refused m p) q r = clash r
