-- `text_size` measures a part's text and says whether NSON can carry its bytes.
-- A raw part's text is hex digits, two for each byte, none escaped; any other text is measured as it stands.
use mathlib.Core.Path.{sym, ap}
use native.Mathlib.Omega.{arith}
use lib.ListN.{length}
use Rattle.scan.proofs.AllLaws.{all_places}
use Rattle.escape.specs.declared.Escaping.TheVariants.{Nson}
use Rattle.notepack.proofs.Walking.{text_plain}
use Rattle.jsontags.proofs.Turns.{raw_length}
use Rattle.nsonwrite.proofs.Plain.{raw_plain}
use Rattle.nsonwrite.proofs.text_size.Goals as goal

pub returns-then-p : goal.returns-then-p
returns-then-p c =
    let a = c.args in
    let bytes = all_places a.s.now (λ i. omega (arith, c.type_inv.s i)) in
    record {
      len_value = omega (arith, ap length c.part-bytes.ensures, raw_length Nson a.s.now bytes a.p c.if-p.true);
      fits_value = sym (raw_plain a.s.now bytes a.p c.if-p.true);
    }

pub returns : goal.returns
returns c =
    let size = rw c.part-bytes.ensures at c.nson_size.ensures in
    rw (text_plain c.args.s.now c.args.p c.if-p.false) (record { len_value = size.len_value; fits_value = size.fits_value })
