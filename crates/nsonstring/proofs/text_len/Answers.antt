-- `text_len`: a simple text that is UTF-8 has no fault, and all ASCII is UTF-8. Its escapes tell the length (`seen`).
use Rattle.std.proofs.Common.{sym, ◌∙◌}
use Rattle.utf8.proofs.Laws.{is_utf8_lem}
use Rattle.nsonstring.proofs.Simple.{simple_ascii, simple_fault}
use Rattle.nsonstring.proofs.text_len.Goals as goal
use Rattle.nsonstring.proofs.text_len.Goals.{then-k-eq0-via-then-k-eq0, then-k-eq0-via-else-k-eq0+then-is_utf8}

pub returns-then-k-eq0-clause-fault_value : goal.returns-then-k-eq0-clause-fault_value
returns-then-k-eq0-clause-fault_value c =
    let simple = c.in-Some.ensures in
    simple_fault simple
    (elim c.then-k-eq0.branch [
      | then-k-eq0-via-then-k-eq0 w ↦ simple_ascii simple w.if-k-eq0.true
      | then-k-eq0-via-else-k-eq0+then-is_utf8 w ↦ (is_utf8_lem _).0 (sym w.is_utf8.ensures ∙ w.if-is_utf8.true)
    ])
