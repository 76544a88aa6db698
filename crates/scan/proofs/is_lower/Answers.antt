-- `is_lower` is the library's order of slices, which compares as `lower` does: the first difference decides.
-- By the library's law for a comparison by lists' heads.
use Rattle.std.proofs.Common.{refl}
use Rattle.std.proofs.lemmas.Cmp.{same_from_slice_cmp_tested}
use Rattle.std.specs.Ordering.{nat_cmp, is_lt}
use Rattle.scan.specs.Compare.{lower}
use Rattle.scan.proofs.CompareLaws.{lower_heads}
use Rattle.scan.proofs.is_lower.Goals as goal

pub returns : goal.returns
unfolding lower
returns c =
    let a = c.args in
    same_from_slice_cmp_tested nat_cmp is_lt lower refl (λ _ _. refl) (λ _ _. refl) lower_heads a.a.now a.b.now _ c.lt.ensures
