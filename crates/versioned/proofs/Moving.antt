-- A refusal of the bare bytes, told of the bytes given: the reader's own numbers have their place moved behind the
-- version byte, 11, 17, 19, 22, 23 and 34 do not. So what an entry answers of an input of either form is what it
-- answers of the bare bytes, moved.
-- By what the reader tells: each of its refusals has one of its numbers and a place in the bare bytes.
use Prim.Native.Nat.{ℕ, ◌+◌, ◌≤◌}
use mathlib.Core.Path.{◌≡◌, refl, sym, ap, ◌∙◌}
use mathlib.Core.Bool.{Bool, true, false}
use mathlib.Core.List.{List, [], ◌∷◌}
use native.Mathlib.Nat.{add-zero}
use native.Mathlib.Omega.{arith}
use lib.ListN.{length, drop, length-drop}
use lib.Dec.{leb, eqb}
use borrow.Author.Tests.{eqb-true, lt-ltb}
use Rattle.scan.specs.Choice.{pick, Answer, shown, refused}
use Rattle.scan.proofs.Step.{pick_true, pick_by, false_true}
use Rattle.buffer.specs.Entry.{written, writes}
use Rattle.event.specs.inner.Tells.{among, Tells, value, refusal}
use Rattle.notepack.specs.inner.Numbers.{packed_numbers}
use Rattle.versioned.specs.Versioned.{start_of, behind, given}
use Rattle.versioned.specs.inner.Moved.{is_readers, moved_place, moved}
use Rattle.versioned.proofs.Starting.{versioned_starts}

-- ---- the reader's numbers

-- a test that all of a list pass is passed by each of them
abbrev all_pass : (ℕ → Bool) → List ℕ → Bool
all_pass f [] = true
all_pass f (k ∷ l) = pick (f k) (all_pass f l) false

all_pass_lem : (f : ℕ → Bool) (l : List ℕ) (n : ℕ) → all_pass f l ≡ true → among l n ≡ true → f n ≡ true
all_pass_lem f [] n h k = absurd (false_true k)
all_pass_lem f (x ∷ l) n h k = let p = pick_true (f x) (all_pass f l) h in go p.0 (eqb n x) refl (λ q. all_pass_lem f l n p.1 q) k
  where
    go : f x ≡ true → (t : Bool) → eqb n x ≡ t → (among l n ≡ true → f n ≡ true) → pick t true (among l n) ≡ true → f n ≡ true
    go g true e r q = rw (eqb-true n x e) g
    go g false e r q = r q

pub readers_own : (n : ℕ) → among packed_numbers n ≡ true → is_readers n ≡ true
unfolding is_readers
readers_own n h = all_pass_lem is_readers packed_numbers n refl h

-- another number keeps its place
pub other_stays : (bare : Bool) (n p : ℕ) → is_readers n ≡ false → moved_place bare n p ≡ p
unfolding moved_place
other_stays true n p h = refl
other_stays false n p h = rw h

-- ---- what is told of the bare bytes, moved

module _ (s : List ℕ) {k : ℕ} where
  place_behind : (bare : Bool) → start_of bare s ≡ shown k → (n p : ℕ) → among packed_numbers n ≡ true → p ≤ length (drop k s) → moved_place bare n p ≡ p + k
  unfolding moved_place start_of
  place_behind true e n p o h = let f : ◌≡◌ {A = ℕ} 0 k = cc in rw (sym f) (sym (add-zero p))
  place_behind false e n p o h =
      let v = versioned_starts s e in
      let l = length-drop k s in
      rw (readers_own n o, lt-ltb p 65_536 (omega (arith, h, l, v.one, v.short, ap length v.whole)), v.one)

  pub moved_behind : {A : Type 0} {P : A → Type 0} (bare : Bool) → start_of bare s ≡ shown k → {x : Answer A} → Tells packed_numbers (length (drop k s)) P x → moved bare x ≡ behind k x
  moved_behind bare e (value h) = refl
  moved_behind bare e (refusal {n = n} {p = p} o h) = ap (λ (q : ℕ). refused n q) (place_behind bare e n p o h)

  -- what f tells of an input of either form
  pub given_start : {A : Type 0} {P : A → Type 0} (bare : Bool) (f : List ℕ → Answer A) → start_of bare s ≡ shown k → Tells packed_numbers (length (drop k s)) P (f (drop k s))
      → given bare f s ≡ moved bare (f (drop k s))
  unfolding given
  given_start bare f e h = rw e (sym (moved_behind bare e h))

pub given_none : {A : Type 0} (bare : Bool) (f : List ℕ → Answer A) (s : List ℕ) {n p : ℕ} → start_of bare s ≡ refused n p → given bare f s ≡ refused n p
unfolding given
given_none bare f s e = rw e

-- ---- an entry over what was read

-- an answer that has none of the reader's numbers
pub data Other : Answer ℕ → Type 0 where
  answer : {v : ℕ} → Other (shown v)
  another : {n p : ℕ} → is_readers n ≡ false → Other (refused n p)

-- an entry hands on a refusal as it is, and has none of the reader's numbers for a value
pub record Passes {A : Type 0} (entry : Answer A → Answer ℕ) : Type 0 where
  pub refuses : (n p : ℕ) → entry (refused n p) ≡ refused n p
  pub answers : (a : A) → Other (entry (shown a))

module _ {A : Type 0} (bare : Bool) (entry : Answer A → Answer ℕ) (c : Passes entry) where
  other_moved : {y : Answer ℕ} → Other y → y ≡ moved bare y
  other_moved answer = refl
  other_moved (another {n = n} {p = p} h) = ap (λ (q : ℕ). refused n q) (sym (other_stays bare n p h))

  -- moved before it or behind it
  pub entry_moved : (x : Answer A) → entry (moved bare x) ≡ moved bare (entry x)
  entry_moved (shown a) = other_moved (c.answers a)
  entry_moved (refused n p) = c.refuses n (moved_place bare n p) ∙ sym (ap (moved bare) (c.refuses n p))

-- an entry that writes a text: 11 is none of the reader's numbers
pub written_other : (text d : List ℕ) → Other (written text d)
unfolding written is_readers
written_other text d = pick_by Other (leb (length text) (length d)) (λ t. answer) (λ t. another refl)

pub writes_passes : {A : Type 0} (text : A → List ℕ) (d : List ℕ) → Passes (λ (x : Answer A). writes text x d)
writes_passes text d = record { refuses = λ n p. refl; answers = λ a. written_other (text a) d }
