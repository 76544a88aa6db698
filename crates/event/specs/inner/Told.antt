-- The meaning of a refusal and of an answer in the code. Assumes nothing.
use Rattle.std.specs.Prelude.{ℕ, Result, Ok, Err}
use Rattle.scan.specs.Choice.{Answer, shown, refused, Read, read}
use Rattle.event.specs.declared.Reason.{Reason}
use Rattle.event.specs.declared.Reason.TheVariants as reason
use Rattle.event.specs.declared.Refusal.{Refusal}

-- a reason's number (rules 10)
abbrev pub number_of : Reason → ℕ
number_of reason.InputTooLong = 1
number_of reason.Truncated = 2
number_of reason.VarintOverflow = 3
number_of reason.VarintUnterminated = 4
number_of reason.IllFormedUtf8 = 5
number_of reason.KindOutOfRange = 6
number_of reason.CreatedAtOutOfRange = 7
number_of reason.TooMany = 8
number_of reason.EmptyTag = 9
number_of reason.AfterTheEnd = 10
number_of reason.TooLittleRoom = 11
number_of reason.BadPiece = 12
number_of reason.CountDisagrees = 13
number_of reason.TextNotAllowed = 14
number_of reason.FieldMissing = 15
number_of reason.FieldTwice = 16
number_of reason.NotCarried = 17
number_of reason.TooDeep = 18
number_of reason.NoSuch = 19
number_of reason.NoPrefix = 20
number_of reason.NoBase64 = 21
number_of reason.OverACell = 22
number_of reason.TableFull = 23
number_of reason.VarintPadded = 24
number_of reason.NotVersioned = 25
number_of reason.BadHeader = 26
number_of reason.BadPointer = 27
number_of reason.SplitSecond = 28
number_of reason.FormTooLong = 29
number_of reason.BadTable = 34
number_of reason.MessageTooLong = 35

-- a `Refusal` of the code, as an answer to any question
abbrev pub told : {A : Type 0} → Refusal → Answer A
told r = refused (number_of r.reason) r.place

-- what was shown, or the refusal
abbrev pub answer : {A : Type 0} → Result A Refusal → Answer A
answer (Ok a) = shown a
answer (Err r) = told r

-- the same of a read at a place: the value with the place behind it
abbrev pub read_answer : {A : Type 0} → Result (A × ℕ) Refusal → Answer (Read A)
read_answer (Ok x) = read x.0 x.1
read_answer (Err r) = told r
