-- `measure` answers the length of the whole text: 343 fixed bytes, two digits for each byte of descriptors, and each
-- piece's own.
-- By what its callees told, and by the law for each test.
use native.Mathlib.Omega.{arith}
use Rattle.notepack.specs.inner.Again.{event_again}
use Rattle.notepack.proofs.Again.{tags_count}
use Rattle.nsonwrite.proofs.Carried.{early, late, many, misfit}
use Rattle.nsonwrite.proofs.Entry.{ready, too_many, too_long}
use Rattle.nsonwrite.proofs.measure.Goals as goal
use Rattle.nsonwrite.proofs.measure.Goals.{then-h-lt-MIN_CREATED_AT-via-then-h-lt-MIN_CREATED_AT, then-h-lt-MIN_CREATED_AT-via-else-h-lt-MIN_CREATED_AT+then-h-gt-MAX_CREATED_AT, then-h-lt-MIN_CREATED_AT-via-else-h-lt-MIN_CREATED_AT+else-h-gt-MAX_CREATED_AT+then-h-gt255, else-m-le-MAX_DESCRIPTORS-via-then-m-le-MAX_DESCRIPTORS+else-m-le-MAX_INPUT, else-m-le-MAX_DESCRIPTORS-via-else-m-le-MAX_DESCRIPTORS}

pub returns-then-h-lt-MIN_CREATED_AT : goal.returns-then-h-lt-MIN_CREATED_AT
unfolding event_again
returns-then-h-lt-MIN_CREATED_AT c =
    let a = c.args in
    let e = event_again a.s.now a.h in
    elim c.then-h-lt-MIN_CREATED_AT.branch [
      | then-h-lt-MIN_CREATED_AT-via-then-h-lt-MIN_CREATED_AT w ↦ early e w.if-h-lt-MIN_CREATED_AT.true
      | then-h-lt-MIN_CREATED_AT-via-else-h-lt-MIN_CREATED_AT+then-h-gt-MAX_CREATED_AT w ↦ late e w.if-h-gt-MAX_CREATED_AT.true
      | then-h-lt-MIN_CREATED_AT-via-else-h-lt-MIN_CREATED_AT+else-h-gt-MAX_CREATED_AT+then-h-gt255 w ↦ many e (omega (arith, w.if-h-gt255.true, tags_count a.s.now a.h.tag_count a.h.tags_at))
    ]

pub returns-in_err-texts : goal.returns-in_err-texts
returns-in_err-texts c = let a = c.args in rw c.from_residual.ensures (misfit (event_again a.s.now a.h) c.in_err-texts.ensures.cases)

pub returns-then-m-le-MAX_INPUT : goal.returns-then-m-le-MAX_INPUT
unfolding event_again
returns-then-m-le-MAX_INPUT c =
    let t = c.in_ok-texts.ensures.cases in
    ready c.requires (omega (arith, c.well_formed)) t (omega (arith, c.decimal_len-time.ensures.value, c.decimal_len-kind.ensures.value))
    c.if-h-lt-MIN_CREATED_AT.false
    c.if-h-gt-MAX_CREATED_AT.false
    c.if-m-le-MAX_DESCRIPTORS.true
    c.if-m-le-MAX_INPUT.true

pub returns-else-m-le-MAX_DESCRIPTORS : goal.returns-else-m-le-MAX_DESCRIPTORS
unfolding event_again
returns-else-m-le-MAX_DESCRIPTORS c =
    let t = c.in_ok-texts.ensures.cases in
    elim c.else-m-le-MAX_DESCRIPTORS.branch [
      | else-m-le-MAX_DESCRIPTORS-via-then-m-le-MAX_DESCRIPTORS+else-m-le-MAX_INPUT w ↦ too_long c.requires (omega (arith, c.well_formed)) t (omega (arith, c.decimal_len-time.ensures.value, c.decimal_len-kind.ensures.value)) w.if-m-le-MAX_DESCRIPTORS.true w.if-m-le-MAX_INPUT.false
      | else-m-le-MAX_DESCRIPTORS-via-else-m-le-MAX_DESCRIPTORS w ↦ too_many (event_again c.args.s.now c.args.h) (omega (arith, c.well_formed)) t w.if-m-le-MAX_DESCRIPTORS.false
    ]
