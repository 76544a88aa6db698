-- What an entry's answer says of the reading behind it: a length was written, or 11 was answered, or neither.
-- By the two cases of the reading and the one test on room.
use Prim.Native.Nat.{ℕ, ◌<◌, ◌≤◌}
use mathlib.Core.Path.{◌≡◌, refl, sym, ap, ◌∙◌}
use mathlib.Core.Bool.{Bool, true, false}
use mathlib.Core.List.{List, ◌++◌}
use native.Mathlib.Omega.{arith}
use lib.ListN.{length, take, drop}
use lib.Dec.{leb}
use lib.Seq.{take_at}
use borrow.Author.Tests.{leb-true, leb-false, le-leb, lt-leb}
use Rattle.scan.specs.Choice.{pick, Answer, shown, refused}
use Rattle.scan.proofs.Step.{false_true}
use Rattle.event.specs.inner.Tells.{among, Tells, value, refusal}
use Rattle.buffer.specs.Entry.{written, filled, writes, leaves}

-- a value was read, and its text fitted
pub record Fitted {A : Type 0} (text : A → List ℕ) (a : Answer A) (d : List ℕ) (n : ℕ) : Type 0 where
  pub value : A
  pub reads : a ≡ shown value
  pub long : length (text value) ≡ n
  pub room : n ≤ length d

-- a value was read, and its text did not fit
pub record Lacking {A : Type 0} (text : A → List ℕ) (a : Answer A) (d : List ℕ) (n : ℕ) : Type 0 where
  pub value : A
  pub reads : a ≡ shown value
  pub long : length (text value) ≡ n
  pub short : length d < n

no_number : {A : Type 0} {R : Type 0} {n p : ℕ} {a : A} → refused n p ≡ shown a → R
no_number e = let z : ◌≡◌ {A = ℕ} 0 1 = cc in absurd (omega arith)

module _ {A : Type 0} (text : A → List ℕ) where
  -- a length written: the reading showed a value, whose text has that length and room
  pub wrote : (a : Answer A) (d : List ℕ) (n : ℕ) → writes text a d ≡ shown n → Fitted text a d n
  unfolding written
  wrote (shown x) d n = go (leb (length (text x)) (length d)) refl
    where
      go : (t : Bool) → leb (length (text x)) (length d) ≡ t → pick t (shown (length (text x))) (refused 11 (length (text x))) ≡ shown n → Fitted text (shown x) d n
      go true t e = let l : length (text x) ≡ n = cc in record { value = x; reads = refl; long = l; room = rw l at (leb-true (length (text x)) (length d) t) }
      go false t e = no_number e
  wrote (refused k p) d n = no_number

  -- 11, where it is none of the reading's own numbers: the reading showed a value, whose text has that length and no
  -- room
  pub lacked : {numbers : List ℕ} {most : ℕ} {P : A → Type 0} {a : Answer A} (d : List ℕ) (n : ℕ) → among numbers 11 ≡ false → Tells numbers most P a
      → writes text a d ≡ refused 11 n → Lacking text a d n
  unfolding written
  lacked d n none (value {a = x} p) = go (leb (length (text x)) (length d)) refl
    where
      go : (t : Bool) → leb (length (text x)) (length d) ≡ t → pick t (shown (length (text x))) (refused 11 (length (text x))) ≡ refused 11 n → Lacking text (shown x) d n
      go true t e = no_number (sym e)
      go false t e = let l : length (text x) ≡ n = cc in record { value = x; reads = refl; long = l; short = rw l at (leb-false (length (text x)) (length d) t) }
  lacked {numbers = numbers} d n none (refusal {n = k} o h) = λ e. let z : k ≡ 11 = cc in absurd (false_true (sym none ∙ rw z at o))

  -- and back: a value with room
  pub fits : {a : Answer A} {x : A} (d : List ℕ) → a ≡ shown x → length (text x) ≤ length d
      → (writes text a d ≡ shown (length (text x))) × (leaves text a d ≡ text x ++ drop (length (text x)) d)
  unfolding written filled
  fits {x = x} d e h = let u = le-leb (length (text x)) (length d) h in rw (e, u) (refl, refl)

  -- a value without
  pub lacks : {a : Answer A} {x : A} (d : List ℕ) → a ≡ shown x → length d < length (text x)
      → (writes text a d ≡ refused 11 (length (text x))) × (leaves text a d ≡ d)
  unfolding written filled
  lacks {x = x} d e h = let u = lt-leb (length (text x)) (length d) h in rw (e, u) (refl, refl)

  -- the bytes that were written are the text
  pub left : {a : Answer A} {x : A} (d : List ℕ) (n : ℕ) → a ≡ shown x → length (text x) ≡ n → n ≤ length d → take n (leaves text a d) ≡ text x
  left {x = x} d n e l h = ap (take n) (fits d e (omega arith)).1 ∙ take_at (text x) (drop (length (text x)) d) n l
