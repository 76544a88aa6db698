-- The walk over the whole input in the code's own steps.
-- The counts that were read stand at their places, and what was measured is the event's (`Standing`).
use Prim.Native.Nat.{ℕ}
use mathlib.Core.Path.{◌≡◌, sym, ap, ◌∙◌}
use mathlib.Core.List.{List}
use lib.ListN.{length}
use lib.Dec.{leb, eqb}
use Rattle.scan.specs.Choice.{pick, Answer, shown, refused, and_then}
use Rattle.nson.specs.Nson.{Counts}
use Rattle.nson.specs.Read.{head_at, counts_at, body_read_at}
use Rattle.nson.proofs.Head.{head_shown}
use Rattle.nsoncounts.specs.inner.Counted.{sizes_of, counts_of}
use Rattle.nsoncounts.proofs.Placing.{counts_placed}
use Rattle.nsonwalk.specs.declared.NsonWalked.{NsonWalked}
use Rattle.nsonwalk.specs.inner.Walk.{turned, body_size, kept, nson_walk_at}
use Rattle.nsoncounts.proofs.Laws.{then_then, then_same}
use Rattle.nsonwalk.proofs.Standing.{body_stands, kept_is}

pub walk_steps : (s : List ℕ)
    → nson_walk_at s
    ≡ pick (leb (length s) 65_536)
    (and_then (head_at s) λ h.
    and_then (turned sizes_of (counts_at s)) λ z.
    and_then (turned body_size (body_read_at (counts_of s z.value) s z.next)) λ b.
    pick (eqb b.next (length s)) (shown (kept h.value z.value z.next b.value)) (refused 10 b.next))
    (refused 1 0)
unfolding nson_walk_at
walk_steps s =
    ap (λ (r : Answer NsonWalked). pick (leb (length s) 65_536) r (refused 1 0))
    (then_same (head_at s) _ _ (λ h e.
    then_same (counts_at s) _ _ (λ n f.
    then_same (body_read_at n.value s n.next) _ _ (λ b g.
    let k = kept_is s h.value n b.value (head_shown s _ e) (body_stands n.value s n.next _ g) in
    ap (λ (w : NsonWalked). pick (eqb b.next (length s)) (shown w) (refused 10 b.next)) (sym k))
    ∙ sym (then_then (body_read_at n.value s n.next) _ _)
    ∙ ap (λ (c : Counts). and_then (turned body_size (body_read_at c s n.next)) λ b.
    pick (eqb b.next (length s)) (shown (kept h.value (sizes_of n.value) n.next b.value)) (refused 10 b.next))
    (counts_placed s n f).same)
    ∙ sym (then_then (counts_at s) _ _)))
