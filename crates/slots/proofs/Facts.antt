-- Which table `whole` is, and that a table taken as an array of 64 is it. Assumes nothing.
use mathlib.Core.Path.{◌≡◌, sym, ◌∙◌}
use Rattle.std.proofs.Common.{◌≢◌, Option, Some, None}
use Rattle.std.specs.Option.{MatchOption, unwrap_or, option_map}
use Rattle.std.specs.Array.{IsWholeChunk}
use denote.Ref.{Bor}
use mathlib.Core.List.{List}
use lib.ListN.{length}
use borrow.Author.Tests.{eq-eqb, ne_eqb}
use Rattle.slots.specs.declared.Slot.{Slot}
use Rattle.slots.specs.Slots.{whole}

-- a table of 64 is read whole
pub whole_64 : (l t : List Slot) → length l ≡ 64 → whole l t ≡ l
unfolding whole
whole_64 l t h = rw (eq-eqb (length l) 64 h)

whole_not_64 : (l t : List Slot) → length l ≢ 64 → whole l t ≡ t
unfolding whole
whole_not_64 l t h = rw (ne_eqb (length l) 64 h)

-- a table that is taken as an array where it has 64 slots, and else t
pub whole_read : (l t : List Slot) (o : Option (Bor (List Slot))) → MatchOption o (length l ≢ 64) (λ y. IsWholeChunk l y.now 64)
    → unwrap_or (option_map (λ y. y.now) o) t ≡ whole l t
whole_read l t None h = sym (whole_not_64 l t h)
whole_read l t (Some y) h = h.same ∙ sym (whole_64 l t h.long)
