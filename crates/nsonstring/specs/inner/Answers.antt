-- The meaning of the code's answer about faults, as a number. Assumes nothing.
use Rattle.std.specs.Prelude.{ℕ, Result, Ok, Err}
use Rattle.event.specs.declared.Reason.{Reason}
use Rattle.event.specs.inner.Told.{number_of}

-- the number of the fault that was told, 0 where none was
abbrev pub fault_of : {A : Type 0} → Result A Reason → ℕ
fault_of (Ok a) = 0
fault_of (Err r) = number_of r
