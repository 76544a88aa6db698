-- `copy_packed` writes the strict form of a walked event: the input itself where that is strict, or piece by piece.
-- By the laws for the two ways; a slice's numbers are bytes.
use mathlib.Core.Path.{refl}
use borrow.Author.Tests.{not-true}
use Rattle.scan.proofs.AllLaws.{all_places}
use Rattle.notepack.proofs.Again.{accepted}
use Rattle.strict.proofs.Laws.{copied_whole, copied_pieces}
use Rattle.strict.proofs.copy_packed.Goals as goal

pub returns-then-not-t : goal.returns-then-not-t
returns-then-not-t c =
    let s = c.args.s.now in
    let bytes = all_places s (λ i. (c.type_inv.s i).fits) in
    copied_whole s _ (accepted s bytes _ _ refl c.requires) c.if-t-s.true (not-true _ c.if-not-t.true) c.put_bytes.ensures

pub returns : goal.returns
returns c =
    let s = c.args.s.now in
    let bytes = all_places s (λ i. (c.type_inv.s i).fits) in
    copied_pieces s _ (accepted s bytes _ _ refl c.requires) c.put_packed.ensures
