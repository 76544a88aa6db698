-- A literal that stands ends within the input, so that no place wraps.
use Rattle.std.proofs.Common.{sym, ◌∙◌, arith}
use Rattle.scan.proofs.PlaceLaws.{stands_span}
use Rattle.scan.proofs.SpanLaws.{span_fits}
use Rattle.jsonvalue.proofs.skip_word.Goals as goal

pub overflow_add-result : goal.overflow_add-result
overflow_add-result c = omega (arith, span_fits (stands_span _ _ _ (sym c.stands_at.ensures ∙ c.if-stands_at.true)))
