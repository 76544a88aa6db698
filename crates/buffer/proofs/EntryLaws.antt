-- An entry that measured its text and refused where it does not fit leaves the text from the start and the rest
-- unchanged.
-- The one place where `puts` is turned into `++`.
use Prim.Native.Nat.{ℕ, ◌<◌, ◌≤◌}
use mathlib.Core.Path.{◌≡◌, ap, ◌∙◌}
use mathlib.Core.List.{List, ◌++◌}
use native.Mathlib.Nat.{zero-add}
use native.Mathlib.Omega.{arith}
use lib.ListN.{length, drop}
use borrow.Author.Tests.{le-leb, lt-leb}
use Rattle.scan.specs.Choice.{shown, refused}
use Rattle.buffer.specs.inner.Store.{Buffer, puts, Wrote}
use Rattle.buffer.specs.Entry.{written, filled}
use Rattle.buffer.proofs.Laws.{puts_eq}

puts_zero : (d vs : List ℕ) → length vs ≤ length d → puts (d, 0) vs ≡ (vs ++ drop (length vs) d, length vs)
puts_zero d vs h = puts_eq d 0 vs (omega arith) ∙ rw zero-add

-- too little room: 11 with the length needed, and the buffer as it was
pub short : (text d : List ℕ) {n : ℕ} → n ≡ length text → length d < n → (refused 11 n ≡ written text d) × (d ≡ filled text d)
unfolding written filled
short text d {n} e l =
    let u = lt-leb (length text) (length d) (omega arith) in
    (simp (u, e), simp u)

-- room: the length written, the text, and the rest unchanged
pub fitted : {text d d' : List ℕ} {n r : ℕ} → n ≡ length text → n ≤ length d → Wrote d 0 text d' r → (shown r ≡ written text d) × (d' ≡ filled text d)
unfolding written filled
fitted {text} {d} {d'} {n} {r} e l w =
    let h : length text ≤ length d = omega arith in
    let u = le-leb (length text) (length d) h in
    let k = w.is ∙ puts_zero d text h in
    let p = ap (λ (b : Buffer). b.1) k in
    (simp (u, p), simp u (ap (λ (b : Buffer). b.0) k))
