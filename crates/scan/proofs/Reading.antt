-- `Reads G s a r`: if the answer r is a value, then a piece of the grammar G spells it from place a to the answer's
-- place.
-- Soundness of a reader is a walk over its definition with one law for each form: a choice, and one read after another.
use Prim.Native.Nat.{ℕ, ◌+◌, ◌-◌, ◌≤◌}
use mathlib.Core.Path.{◌≡◌, refl, sym, ap}
use mathlib.Core.Bool.{Bool, true, false}
use mathlib.Core.List.{List}
use native.Mathlib.Omega.{arith}
use lib.ListN.{length, take, drop, length-take, length-drop, take-append-drop}
use Rattle.scan.specs.Choice.{pick, Answer, shown, refused, Read, read, and_then}
use Rattle.scan.specs.inner.Span.{Span}
use Rattle.scan.proofs.SpanLaws.{to_span}

pub data Reads {A : Type 0} (G : A → List ℕ → Type 0) (s : List ℕ) (a : ℕ) : Answer (Read A) → Type 0 where
  reads : {x : A} {l : List ℕ} {e : ℕ} → G x l → Span s a l e → Reads G s a (read x e)
  fails : {n p : ℕ} → Reads G s a (refused n p)

-- what a value that was read says
pub shown_reads : {A : Type 0} {G : A → List ℕ → Type 0} {s : List ℕ} {a : ℕ} {v : Read A}
    → Reads G s a (shown v) → (l : List ℕ) × G v.value l × Span s a l v.next
shown_reads (reads {l = l} g r) = (l, g, r)

pub pick_reads : {A : Type 0} {G : A → List ℕ → Type 0} {s : List ℕ} {a : ℕ} (t : Bool) {x y : Answer (Read A)}
    → (t ≡ true → Reads G s a x) → (t ≡ false → Reads G s a y) → Reads G s a (pick t x y)
pick_reads true f g = f refl
pick_reads false f g = g refl

pub then_reads : {A B : Type 0} {G : A → List ℕ → Type 0} {H : B → List ℕ → Type 0} {s : List ℕ} {a b : ℕ} {r : Answer (Read A)} (f : Read A → Answer (Read B))
    → Reads G s a r → ((x : A) (l : List ℕ) (e : ℕ) → G x l → Span s a l e → Reads H s b (f (record { value = x; next = e }))) → Reads H s b (and_then r f)
then_reads f (reads {x = x} {l = l} {e = e} g r) k = k x l e g r
then_reads f fails k = fails

-- the same answer as a piece from another place on, of another grammar
pub from_reads : {A : Type 0} {G H : A → List ℕ → Type 0} {s : List ℕ} {a b : ℕ} {r : Answer (Read A)}
    → Reads G s a r → ((x : A) (l : List ℕ) (e : ℕ) → G x l → Span s a l e → Reads H s b (read x e)) → Reads H s b r
from_reads (reads {x = x} {l = l} {e = e} g r) k = k x l e g r
from_reads fails k = fails

-- the n bytes from a place on, where there are as many, are a span
pub part_span : (s : List ℕ) (a n : ℕ) → n ≤ length s - a → Span s a (take n (drop a s)) (a + n)
part_span s a n h =
    let k : length (take n (drop a s)) ≡ n = simp (length-take, length-drop) (omega arith) in
    rw k at (to_span s (take n (drop a s)) (drop n (drop a s)) a (sym (take-append-drop n (drop a s))))

-- and have that length
pub part_length : (s : List ℕ) (a n : ℕ) → n ≤ length s - a → length (take n (drop a s)) ≡ n
part_length s a n h = simp (length-take, length-drop) (omega arith)

-- `Gives P r`: if the answer r is a value, it has P.
pub data Gives {A : Type 0} (P : A → Type 0) : Answer A → Type 0 where
  gives : {x : A} → P x → Gives P (shown x)
  lacks : {n p : ℕ} → Gives P (refused n p)

pub shown_gives : {A : Type 0} {P : A → Type 0} {x : A} → Gives P (shown x) → P x
shown_gives (gives g) = g

pub pick_gives : {A : Type 0} {P : A → Type 0} (t : Bool) {x y : Answer A} → (t ≡ true → Gives P x) → (t ≡ false → Gives P y) → Gives P (pick t x y)
pick_gives true f g = f refl
pick_gives false f g = g refl

pub then_gives : {A B : Type 0} {P : A → Type 0} {Q : B → Type 0} {r : Answer A} (f : A → Answer B)
    → Gives P r → ((x : A) → P x → Gives Q (f x)) → Gives Q (and_then r f)
then_gives f (gives {x = x} g) k = k x g
then_gives f lacks k = lacks

-- a read at a place, and then an answer
pub read_gives : {A B : Type 0} {G : A → List ℕ → Type 0} {Q : B → Type 0} {s : List ℕ} {a : ℕ} {r : Answer (Read A)} (f : Read A → Answer B)
    → Reads G s a r → ((x : A) (l : List ℕ) (e : ℕ) → G x l → Span s a l e → Gives Q (f (record { value = x; next = e }))) → Gives Q (and_then r f)
read_gives f (reads {x = x} {l = l} {e = e} g r) k = k x l e g r
read_gives f fails k = lacks

-- two reads that are one have one value and one place
pub read_same : {A : Type 0} {a b : A} {m n : ℕ} → read a m ≡ read b n → (a ≡ b) × (m ≡ n)
read_same {A} {a} {b} {m} {n} e =
    let f : ◌≡◌ {A = Read A} (record { value = a; next = m }) (record { value = b; next = n }) = cc in
    (ap (λ (r : Read A). r.value) f, ap (λ (r : Read A). r.next) f)
