-- `All` over `++`, `take`, `drop` and a change of the property; a slice's bytes are bytes.
-- By induction on the list.
use Prim.Native.Nat.{ℕ, zero, suc, ◌<◌}
use mathlib.Core.List.{List, [], ◌∷◌, ◌++◌}
use native.Mathlib.Omega.{arith}
use lib.ListN.{length, get_or, take, drop}
use Rattle.scan.specs.Bytes.{All, none, also, IsBytes}
use Rattle.scan.specs.inner.Span.{here, step, Span}

pub all_map : {A : Type 0} {P Q : A → Type 0} {l : List A} → ((x : A) → P x → Q x) → All P l → All Q l
all_map f none = none
all_map f (also {b = b} p a) = also (f b p) (all_map f a)

pub all_append : {A : Type 0} {P : A → Type 0} {l m : List A} → All P l → All P m → All P (l ++ m)
all_append none b = b
all_append (also p a) b = also p (all_append a b)

pub all_take : {A : Type 0} {P : A → Type 0} {l : List A} (n : ℕ) → All P l → All P (take n l)
all_take zero none = none
all_take zero (also p a) = none
all_take (suc n) none = none
all_take (suc n) (also p a) = also p (all_take n a)

pub all_drop : {A : Type 0} {P : A → Type 0} {l : List A} (n : ℕ) → All P l → All P (drop n l)
all_drop zero none = none
all_drop zero (also p a) = also p a
all_drop (suc n) none = none
all_drop (suc n) (also p a) = all_drop n a

-- what holds at each place of a list of bytes holds of all
pub all_places : (s : List ℕ) → ((i : ℕ) → get_or s i 0 < 256) → IsBytes s
all_places [] f = none
all_places (b ∷ s) f = also (f 0) (all_places s (λ i. f (suc i)))

-- what holds of each element holds at each place
pub all_at : {P : ℕ → Type 0} {s : List ℕ} (i : ℕ) → All P s → i < length s → P (get_or s i 0)
all_at i none h = absurd (omega arith)
all_at zero (also y ys) h = y
all_at (suc i) (also y ys) h = all_at i ys (omega arith)

-- what holds of each element of the input holds of each of a span
pub span_all : {P : ℕ → Type 0} {s : List ℕ} {a c : ℕ} {l : List ℕ} → All P s → Span s a l c → All P l
span_all y here = none
span_all {a = a} y (step h e p) = also (rw e at (all_at a y h)) (span_all y p)
