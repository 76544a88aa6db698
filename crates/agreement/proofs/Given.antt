-- Demand 3's sentences on the NSON writer for a packed input of either form.
-- What the writer does with what was read, whoever read it; the event of an accepted input is that of its bare bytes.
use Prim.Native.Nat.{ℕ}
use mathlib.Core.Path.{◌≡◌}
use mathlib.Core.Bool.{Bool}
use mathlib.Core.List.{List}
use lib.ListN.{drop}
use Rattle.scan.specs.Choice.{shown}
use Rattle.scan.specs.Bytes.{IsBytes}
use Rattle.scan.proofs.AllLaws.{all_drop}
use Rattle.event.specs.Event.{Event, Valid}
use Rattle.notepack.specs.Unpack.{unpack}
use Rattle.notepack.proofs.Sound.{sound}
use Rattle.versioned.specs.Versioned.{given}
use Rattle.versioned.proofs.Starting.{given_shown}
use Rattle.agreement.specs.Given.{WriterGiven}
use Rattle.agreement.proofs.Writer.{can_write, or_not, told_refusal, told_17, told_11, shows_again}

-- an accepted input shows a valid event
given_valid : (b : Bool) (s : List ℕ) (e : Event) → IsBytes s → given b unpack s ≡ shown e → Valid e
given_valid b s e y h = let k = given_shown b unpack s h in (sound (drop k.0 s) (all_drop k.0 y) e k.2).valid

-- THE demand, of the writer with the caller's word
pub writer_given : WriterGiven
writer_given =
    record {
      writer_writes = λ b s d. can_write (given b unpack s) d;
      or_nothing = λ b s d. or_not (given b unpack s) d;
      readers_refusal = λ b s d. told_refusal (given b unpack s) d;
      not_carried = λ b s d. told_17 (given b unpack s) d;
      no_room = λ b s d. told_11 (given b unpack s) d;
      read_back = λ b s d d₂ e n y u r. shows_again (given b unpack s) d d₂ e n (given_valid b s e y u) u r;
    }
