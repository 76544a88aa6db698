-- What the check passes, sequence after sequence, leaves the decision as it was; at the end it is the answer.
-- The start is the place up to which the text surely is well-formed.
use Prim.Native.Nat.{ℕ, ◌+◌, ◌<◌, ◌≤◌}
use mathlib.Core.Path.{◌≡◌, sym, ap, ◌∙◌}
use mathlib.Core.Bool.{true, false}
use mathlib.Core.List.{List}
use lib.ListN.{length, drop, take-append-drop}
use Rattle.utf8.specs.inner.Width.{width_at, is_utf8}
use Rattle.utf8.specs.inner.Windows.{WellTo}
use Rattle.utf8.proofs.WidthLaws.{width_within}
use Rattle.utf8.proofs.Laws.{rest_end, rest_stop, rest_step, rest_text}

-- the text is well-formed exactly if it is from place i on
pub record Passed (s : List ℕ) (i : ℕ) : Type 0 where
  pub inside : i ≤ length s
  pub same : is_utf8 s ≡ is_utf8 (drop i s)

-- a place up to which it surely is
pub passed_sure : {s : List ℕ} {i : ℕ} → WellTo s i → Passed s i
passed_sure {s} {i} p = record {
  inside = p.inside;
  same = ap is_utf8 (sym (take-append-drop i s)) ∙ rest_text p.whole (drop i s);
}

-- a sequence more
pub passed_sequence : {s : List ℕ} {i w : ℕ} → Passed s i → w ≡ width_at s i → (w ≡ 0 → ⊥)
    → Passed s (i + w)
passed_sequence {s} {i} p e n =
    let m : width_at s i ≡ 0 → ⊥ = rw e at n in
    record { inside = rw e (width_within s i m); same = p.same ∙ rw e (rest_step s i m) }

-- where no sequence stands before the end, the text is ill-formed
pub passed_stop : {s : List ℕ} {i w : ℕ} → Passed s i → i < length s → w ≡ width_at s i → w ≡ 0 → is_utf8 s ≡ false
passed_stop {s} {i} p h e z = p.same ∙ rest_stop s i h (sym e ∙ z)

-- at the end it is well-formed
pub passed_all : {s : List ℕ} {i : ℕ} → Passed s i → length s ≤ i → is_utf8 s ≡ true
passed_all {s} {i} p h = p.same ∙ rest_end s i h

pub ruleset walks = (passed_sure, passed_sequence, passed_stop, passed_all)
