-- A console programmed by Reset, Load Cursor and Start.
use Rattle.std.specs.Prelude.{ℕ, cond, Some, None, Option}
use Rattle.refusal.specs.declared.Refusal.{Refusal}
use Rattle.refusal.specs.declared.Refusal.TheVariants.{TooManyColumns}
use Rattle.video.specs.Composition.{allowed}
use Rattle.frame.specs.Ports.{State, new, commanded, command_refusal, parameter_written}
use Rattle.video.specs.declared.parameters.ResetParameters.{ResetParameters}

-- Reset and its four parameters
abbrev pub composed : ResetParameters → State
composed p = parameter_written (parameter_written (parameter_written (parameter_written (commanded new 0x00) p.first) p.second) p.third) p.fourth

-- Load Cursor and its two parameters
abbrev pub pointed : State → (column row : ℕ) → State
pointed s column row = parameter_written (parameter_written (commanded s 0x80) column) row

abbrev pub with_cursor : State → Option (ℕ × ℕ) → State
with_cursor s None = s
with_cursor s (Some c) = pointed s c.0 c.1

abbrev pub programmed : ResetParameters → (cursor : Option (ℕ × ℕ)) → (start : ℕ) → State
programmed p c start = commanded (with_cursor (composed p) c) start

-- more than 80 characters to a row, or no command to start with
abbrev pub programming_refusal : ResetParameters → (start : ℕ) → Option Refusal
programming_refusal p start = cond (allowed p.first) (command_refusal start) (Some TooManyColumns)
