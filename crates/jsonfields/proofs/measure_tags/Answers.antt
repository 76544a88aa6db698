-- `measure_tags` measures tags by `read_items`: each is told by its length, and takes little more than it does here.
use Prim.Native.Nat.{ℕ}
use mathlib.Core.Path.{◌∙◌}
use native.Mathlib.Omega.{arith}
use Rattle.std.proofs.Common.{rules}
use Rattle.jsonevent.specs.Field.{under, tag_at}
use Rattle.jsonfields.specs.inner.Size.{tag_size}
use Rattle.jsonfields.proofs.Items.{inside_told, is_small}
use Rattle.jsonfields.proofs.Values.{tag_bound}
use Rattle.jsonfields.proofs.measure_tags.Goals as goal

pub read_items-requires-clause-small : goal.read_items-requires-clause-small
read_items-requires-clause-small c i r l e =
    let s = c.args.s.now in
    is_small (tag_at s) tag_size s 2_560 (omega arith) (tag_bound s (omega arith)) i r (search rules)

pub returns : goal.returns
returns c =
    let s = c.args.s.now in
    c.read_items.ensures (λ (i : ℕ). under tag_size (tag_at s i)) (λ i r l h. search rules) ∙ inside_told (tag_at s) tag_size s 999 c.args.at
