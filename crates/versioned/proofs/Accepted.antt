-- What the moves and the readers of string forms take: bytes of one form that the notepack reader accepts. They are
-- shown where the numbers are, and refused as these are.
-- By the start, and the reading of the bare bytes.
use Prim.Native.Nat.{ℕ, ◌<◌, ◌≤◌}
use mathlib.Core.Path.{◌≡◌, refl, sym, ap, ◌∙◌}
use mathlib.Core.Bool.{Bool, true, false}
use mathlib.Core.List.{List}
use mathlib.Core.Logic.{dite}
use native.Mathlib.Decide.{dec_le}
use native.Mathlib.Omega.{arith}
use lib.ListN.{length, drop}
use borrow.Author.Tests.{le-leb, lt-leb}
use Rattle.scan.specs.Choice.{Answer, shown, refused, and_then}
use Rattle.event.specs.Event.{Event}
use Rattle.notepack.specs.declared.Head.{Head}
use Rattle.notepack.specs.Unpack.{unpack}
use Rattle.notepack.specs.Views.{numbers_of}
use Rattle.notepack.proofs.Viewing.{numbers_event, numbers_refused}
use Rattle.notepack.proofs.Telling.{unpack_tells}
use Rattle.notepack.proofs.Walking.{walk_long, walk_refuses}
use Rattle.versioned.specs.Versioned.{start_of, given}
use Rattle.versioned.specs.Views.{move_head, numbers_given}
use Rattle.versioned.specs.Moves.{accepted, movable}
use Rattle.versioned.specs.inner.Moved.{moved}
use Rattle.versioned.proofs.Starting.{clash, refused_as, given_bare, start_long}
use Rattle.versioned.proofs.Moving.{given_start, given_none}
use Rattle.versioned.proofs.Viewing.{numbers_none, numbers_start}

-- the event of an input, and its refusal, by its numbers
pub record Reads (bare : Bool) (s : List ℕ) (x : Answer Head) : Type 0 where
  pub refuses : (n p : ℕ) → x ≡ refused n p → given bare unpack s ≡ refused n p
  pub shows : (h : Head) → x ≡ shown h → (e : Event) × (given bare unpack s ≡ shown e)

pub reads : (bare : Bool) (s : List ℕ) → Reads bare s (numbers_given bare s)
reads bare s = go (start_of bare s) refl
  where
    with : {k : ℕ} → start_of bare s ≡ shown k → (x : Answer Head) → numbers_of (drop k s) ≡ x → Reads bare s (and_then (moved bare x) (λ (h : Head). shown (move_head k h)))
    with {k} e (shown h) q =
        let n = numbers_event (drop k s) h q in
        let g = given_start s bare unpack e (unpack_tells (drop k s)) in
        record { refuses = λ m p r. clash (sym r); shows = λ j r. (n.event, g ∙ ap (moved bare) n.shows) }
    with {k} e (refused m q) r =
        let g = given_start s bare unpack e (unpack_tells (drop k s)) in
        record { refuses = λ n p t. g ∙ ap (moved bare) (numbers_refused (drop k s) m q r) ∙ refused_as t; shows = λ j t. clash t }

    go : (x : Answer ℕ) → start_of bare s ≡ x → Reads bare s (numbers_given bare s)
    go (shown k) e = rw (numbers_start bare s e) (with e (numbers_of (drop k s)) refl)
    go (refused m q) e =
        rw (numbers_none bare s e)
        record { refuses = λ n p t. given_none bare unpack s e ∙ refused_as t; shows = λ j t. clash t }

-- ---- bytes that are accepted

pub accepted_event : (bare : Bool) (s : List ℕ) (e : Event) → given bare unpack s ≡ shown e → accepted bare s ≡ shown s
unfolding accepted
accepted_event bare s e h = rw h

pub accepted_no : (bare : Bool) (s : List ℕ) (n p : ℕ) → given bare unpack s ≡ refused n p → accepted bare s ≡ refused n p
unfolding accepted
accepted_no bare s n p h = rw h

-- and what was accepted shows an event
pub accepted_apart : (bare : Bool) (s b : List ℕ) → accepted bare s ≡ shown b → (e : Event) × (given bare unpack s ≡ shown e) × (s ≡ b)
unfolding accepted
accepted_apart bare s b h = go (given bare unpack s) refl h
  where
    go : (x : Answer Event) → given bare unpack s ≡ x → and_then x (λ (e : Event). shown s) ≡ shown b → (e : Event) × (given bare unpack s ≡ shown e) × (s ≡ b)
    go (shown e) u h = let q : s ≡ b = cc in (e, u, q)
    go (refused n p) u h = clash h

-- the numbers were asked
module _ (bare : Bool) (s : List ℕ) {x : Answer Head} (q : x ≡ numbers_given bare s) where
  pub accepted_refused : {n p : ℕ} → x ≡ refused n p → accepted bare s ≡ refused n p
  accepted_refused {n} {p} e = accepted_no bare s n p ((reads bare s).refuses n p (sym q ∙ e))

  pub accepted_shown : {h : Head} → x ≡ shown h → accepted bare s ≡ shown s
  accepted_shown {h} e = let r = (reads bare s).shows h (sym q ∙ e) in accepted_event bare s r.0 r.1

-- more than 65,536 bytes of either form
pub accepted_long : (bare : Bool) (s : List ℕ) → 65_536 < length s → accepted bare s ≡ refused 1 0
accepted_long true s h = accepted_no true s 1 0 (given_bare unpack s ∙ walk_refuses s 1 0 (sym (walk_long s h)))
accepted_long false s h = accepted_no false s 1 0 (given_none false unpack s (start_long s h))

-- what is accepted has at most 65,536 bytes
pub given_short : (bare : Bool) (s : List ℕ) {e : Event} → given bare unpack s ≡ shown e → length s ≤ 65_536
given_short bare s {e} h =
    dite (dec_le (length s) 65_536) (λ k. k)
    (λ k. clash (sym (accepted_long bare s (omega (arith, k))) ∙ accepted_event bare s e h))

-- ---- bytes that move to the versioned form

module _ (s : List ℕ) where
  pub too_long_to_move : 65_536 ≤ length s → movable s ≡ refused 1 0
  unfolding movable
  too_long_to_move h = rw (lt-leb (length s) 65_535 (omega (arith, h)))

  module _ (l : length s < 65_536) {x : Answer Head} (q : x ≡ numbers_of s) where
    movable_accepted : movable s ≡ accepted true s
    unfolding movable
    movable_accepted = rw (le-leb (length s) 65_535 (omega (arith, l)))

    pub move_refused : {n p : ℕ} → x ≡ refused n p → movable s ≡ refused n p
    move_refused {n} {p} e = movable_accepted ∙ accepted_no true s n p (given_bare unpack s ∙ numbers_refused s n p (sym q ∙ e))

    pub move_shown : {h : Head} → x ≡ shown h → movable s ≡ shown s
    move_shown {h} e =
        let r = numbers_event s h (sym q ∙ e) in
        movable_accepted ∙ accepted_event true s r.event (given_bare unpack s ∙ r.shows)
