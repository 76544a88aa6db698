-- `write_strict` answers and leaves what the strict writer does of an input of either form.
-- By the laws of `Asking`: the start is refused, or the bare bytes were asked.
use Prim.Native.Nat.{ℕ}
use mathlib.Core.Path.{refl, sym, ap, ◌∙◌}
use mathlib.Core.List.{List}
use Rattle.scan.specs.Choice.{Answer}
use Rattle.buffer.specs.Entry.{writes, leaves}
use Rattle.event.specs.Event.{Event}
use Rattle.notepack.specs.Unpack.{unpack}
use Rattle.notepack.proofs.Telling.{unpack_tells}
use Rattle.notepack.specs.Strict.{pack}
use Rattle.versioned.proofs.Moving.{writes_passes}
use Rattle.event.proofs.Handed.{handed_on}
use Rattle.eitherform.proofs.Asking.{none_written, none_left, some_written, some_left}
use Rattle.eitherform.proofs.write_strict.Goals as goal

abbrev told : List ℕ → Answer Event → Answer ℕ
told d x = writes pack x d

abbrev left : List ℕ → Answer Event → List ℕ
left d x = leaves pack x d

pub returns-in_err-k : goal.returns-in_err-k
returns-in_err-k c =
    let a = c.args in
    let e = sym c.in_err-k.ensures in
    rw (handed_on _ c.from_residual.ensures) (record {
      result_value = none_written unpack a.bare a.s.now (told a.out.now) (writes_passes pack a.out.now) e;
      out_after = none_left unpack a.bare a.s.now (left a.out.now) a.out.now (λ n p. refl) e;
    })

pub returns : goal.returns
returns c =
    let a = c.args in
    let e = sym c.in_ok-k.ensures in
    let r = c.from.ensures in
    let done = c.write_strict.ensures in
    record {
      result_value = c.moved_answer.ensures ∙ some_written unpack a.bare a.s.now unpack_tells e r (told a.out.now) (writes_passes pack a.out.now) done.result_value;
      out_after = some_left unpack a.bare a.s.now unpack_tells e r (left a.out.now) a.out.now (λ n p. refl) done.out_after;
    }
