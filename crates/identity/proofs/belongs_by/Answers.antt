-- `belongs_by` asks whether the id is the digest of the canonical text, which the scratch has room for.
-- By the entry's two equations: the text stands in the scratch, or the refusal is the reader's.
use mathlib.Core.Path.{ap}
use native.Mathlib.Omega.{arith}
use lib.ListN.{length, length-replicate}
use Rattle.scan.proofs.AllLaws.{all_places}
use Rattle.event.proofs.Handed.{handed_on}
use Rattle.identity.proofs.Steps.{written_text, refused_told, digest_decides}
use Rattle.identity.proofs.belongs_by.Goals as goal

pub returns-in_err-n : goal.returns-in_err-n
returns-in_err-n g c =
    let s = c.args.s.now in
    rw (handed_on _ c.from_residual.ensures)
    (refused_told s _ (all_places s (λ i. (c.type_inv.s i).fits)) (rw length-replicate c.requires.room) c.in_err-n.ensures.result_value)

pub is_digest-requires : goal.is_digest-requires
is_digest-requires g c =
    let s = c.args.s.now in
    let t = written_text s _ (all_places s (λ i. (c.type_inv.s i).fits)) (rw length-replicate c.requires.room) c.in_ok-n.ensures.result_value c.in_ok-n.ensures.out_after in
    omega (arith, ap length c.part-2.ensures, t.short)

pub returns : goal.returns
returns g c =
    let s = c.args.s.now in
    let t = written_text s _ (all_places s (λ i. (c.type_inv.s i).fits)) (rw length-replicate c.requires.room) c.in_ok-n.ensures.result_value c.in_ok-n.ensures.out_after in
    digest_decides _ _ t c.part.ensures c.part-2.ensures c.is_digest.ensures
