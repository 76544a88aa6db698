-- What the entries over a lent state refuse: 11 with 104 for a buffer that is shorter, 35 at 0 for a message that is
-- too long.
-- Along their definitions, test by test.
use Prim.Native.Nat.{ℕ, ◌<◌}
use mathlib.Core.Path.{◌≡◌, refl}
use mathlib.Core.Bool.{Bool, true, false}
use mathlib.Core.List.{List}
use lib.ListN.{length}
use lib.Dec.{leb}
use borrow.Author.Tests.{leb-false}
use Rattle.scan.specs.Choice.{pick, Answer, shown, refused, and_then}
use Rattle.sha256.specs.declared.Hash.{Hash}
use Rattle.sha256.specs.Pieces.{is_too_long, with_piece, finished, finish_of}
use Rattle.sha256bytes.specs.StateBytes.{state_of, lent_state, add_in, finish_in}

pub data HashTells (b : List ℕ) {A : Type 0} : Answer A → Type 0 where
  shows : {a : A} → HashTells b (shown a)
  short : length b < 104 → HashTells b (refused 11 104)
  too_long : HashTells b (refused 35 0)

-- the state first, and then what is asked of it
lent_tells : {A : Type 0} (b : List ℕ) (f : Hash → Answer A) → ((s : Hash) → HashTells b (f s)) → HashTells b (and_then (lent_state b) f)
unfolding lent_state
lent_tells b f k = go (leb 104 (length b)) refl
  where
    go : (t : Bool) → leb 104 (length b) ≡ t → HashTells b (and_then (pick t (shown (state_of b)) (refused 11 104)) f)
    go true e = k (state_of b)
    go false e = short (leb-false 104 (length b) e)

long_or : {A : Type 0} (b : List ℕ) (t : Bool) (a : A) → HashTells b (pick t (refused 35 0) (shown a))
long_or b true a = too_long
long_or b false a = shows

pub add_tells : (b p : List ℕ) → HashTells b (add_in b p)
unfolding add_in
add_tells b p = lent_tells b _ (λ s. long_or b (is_too_long s (length p)) (with_piece s p))

pub finish_tells : (b : List ℕ) → HashTells b (finish_in b)
unfolding finish_in finish_of
finish_tells b = lent_tells b _ (λ s. long_or b (is_too_long s 0) (finished s))
