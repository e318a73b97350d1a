-- The layer, the number and the column of a fault.
use Rattle.std.specs.Prelude.{ℕ, None, Option}
use Rattle.refusal.specs.Numbers.{number}
use Rattle.replay.specs.declared.faults.EventFault.TheVariants.{PageTooLong, Malformed}
use Rattle.replay.specs.declared.faults.Fault.{Fault}
use Rattle.replay.specs.declared.faults.Fault.TheVariants.{Line, Event, Port}

abbrev pub layer : Fault → ℕ
layer (Line f) = 1
layer (Event f) = 2
layer (Port f) = 3

abbrev pub number_of : Fault → ℕ
number_of (Line f) = 9
number_of (Event PageTooLong) = 4
number_of (Event Malformed) = 10
number_of (Port f) = number f.refusal

abbrev pub column_of : Fault → Option ℕ
column_of (Line f) = f.column
column_of (Event f) = None
column_of (Port f) = None
