-- `walk_tags` passes over the tags with the tally of what stands in front of them, and finds the input's end or a byte
-- after it.
-- By the laws of `Walking`, from what its caller found.
use mathlib.Core.Path.{refl}
use native.Mathlib.Omega.{arith}
use Rattle.scan.proofs.AllLaws.{all_places}
use Rattle.event.proofs.Handed.{handed_on}
use Rattle.notepack.proofs.Walking.{content_short, head_room, walk_done, walk_after, walk_refused}
use Rattle.notepack.proofs.walk_tags.Goals as goal

-- what the calls told, and what the caller had found

pub head_len-requires : goal.head_len-requires
head_len-requires c =
    let s = c.args.s.now in
    let k = content_short s (all_places s (λ i. (c.type_inv.s i).fits)) c.args.h c.requires.1 in
    omega (arith, k, c.requires.0)

pub invariant_of-front : goal.invariant_of-front
invariant_of-front c =
    let s = c.args.s.now in
    let k = head_room s (all_places s (λ i. (c.type_inv.s i).fits)) c.args.h c.requires.1 in
    omega (arith, k, c.head_len.ensures)

pub returns-then-all-s : goal.returns-then-all-s
returns-then-all-s c =
    let s = c.args.s.now in
    let bytes = all_places s (λ i. (c.type_inv.s i).fits) in
    walk_done s bytes c.args.h c.requires.1 c.requires.0 _ c.head_len.ensures _ c.in_ok-all.ensures _ _ refl c.if-all-s.true

pub returns-in_err-all : goal.returns-in_err-all
returns-in_err-all c =
    let s = c.args.s.now in
    let bytes = all_places s (λ i. (c.type_inv.s i).fits) in
    rw (handed_on _ c.from_residual.ensures) (walk_refused s bytes c.args.h c.requires.1 c.requires.0 _ c.head_len.ensures _ c.in_err-all.ensures _ _ refl)

pub returns : goal.returns
returns c =
    let s = c.args.s.now in
    let bytes = all_places s (λ i. (c.type_inv.s i).fits) in
    walk_after s bytes c.args.h c.requires.1 c.requires.0 _ c.head_len.ensures _ c.in_ok-all.ensures _ _ refl c.if-all-s.false
