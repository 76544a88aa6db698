-- The number of the field that has a name: at most 7, and 7 for a text that is longer than any name.
-- A text whose number is below 7 is that name, so one that is none of them has 7.
use Prim.Native.Nat.{ℕ, suc, ◌+◌, ◌<◌, ◌≤◌}
use mathlib.Core.Path.{◌≡◌, ap, ◌∙◌, subst}
use mathlib.Core.List.{List, [], ◌∷◌, ◌++◌}
use mathlib.Core.Logic.{dite}
use native.Mathlib.Omega.{arith}
use native.Mathlib.Decide.{dec_lt}
use lib.ListN.{length, take, drop}
use lib.Seq.{take_at}
use Rattle.scan.specs.Compare.{same_bytes}
use Rattle.scan.proofs.Step.{pick_by}
use Rattle.buffer.specs.inner.Store.{Buffer, Wrote}
use Rattle.buffer.proofs.Laws.{puts_eq}
use Rattle.event.specs.Event.{Text}
use Rattle.jsonevent.specs.Meaning.{names}
use Rattle.jsonevent.specs.Field.{index_in, field_of}
use Rattle.jsonevent.proofs.Names.{name, number_name, by_seven}

index_most : (l : List Text) (t : Text) → index_in l t ≤ length l
unfolding index_in
index_most [] t = omega arith
index_most (n ∷ l) t = pick_by (λ (i : ℕ). i ≤ suc (length l)) (same_bytes t n) (λ e. omega arith) (λ e. omega (arith, index_most l t))

pub number_most : (t : Text) → field_of t ≤ 7
unfolding field_of
number_most t = index_most names t

-- what holds of 0 to 7 holds of the number of every field
pub by_eight : (P : ℕ → Type 0) → P 0 → P 1 → P 2 → P 3 → P 4 → P 5 → P 6 → P 7 → (k : ℕ) → k ≤ 7 → P k
by_eight P a b c d e f g i k h =
    dite (dec_lt k 7) (λ l. by_seven P a b c d e f g k l) (λ n. let z : 7 ≡ k = omega (arith, h, n) in subst P z i)

-- none of the seven
no_name : (t : Text) → ((k : ℕ) → k < 7 → name k ≡ t → ⊥) → 7 ≡ field_of t
no_name t n = dite (dec_lt (field_of t) 7) (λ h. absurd (n (field_of t) h (number_name t h))) (λ h. omega (arith, h, number_most t))

-- no name is longer than ten bytes
pub long_name : (t : Text) → 10 < length t → 7 ≡ field_of t
long_name t h = no_name t (λ k i g. omega (arith, h, ap length g, most k i))
  where
    most : (k : ℕ) → k < 7 → length (name k) ≤ 10
    most = by_seven (λ (k : ℕ). length (name k) ≤ 10) (omega arith) (omega arith) (omega arith) (omega arith) (omega arith) (omega arith) (omega arith)

-- what was written from the start of a buffer with room is its first part
pub wrote_part : {d text d' : List ℕ} {r : ℕ} → Wrote d 0 text d' r → length text ≤ length d → take r (drop 0 d') ≡ text
wrote_part {d} {text} {d'} {r} w h =
    let e = w.is ∙ puts_eq d 0 text (omega (arith, h)) in
    let f : d' ≡ text ++ drop (0 + length text) d = ap (λ (b : Buffer). b.0) e in
    let g : r ≡ 0 + length text = ap (λ (b : Buffer). b.1) e in
    rw f (take_at text (drop (0 + length text) d) r (omega arith))
