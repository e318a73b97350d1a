-- Field attributes.
use Rattle.std.specs.Prelude.{ℕ, ◌/◌, ◌%◌, Bool, false, ◌==◌}
use Rattle.video.specs.declared.field.Field.{Field}

-- the bit of a number that stands for `value`
abbrev pub has : (value : ℕ) → ℕ → Bool
has value b = b / value % 2 == 1

-- a field code's bits: 5 underline, 4 reverse, 3 and 2 general purpose, 1 blink, 0 highlight
abbrev pub field_of : ℕ → Field
field_of b = record { underline = has 32 b; reverse = has 16 b; gpa1 = has 8 b; gpa0 = has 4 b; blink = has 2 b; highlight = has 1 b }

-- where no field code came before
abbrev pub no_field : Field
no_field = record { underline = false; reverse = false; gpa1 = false; gpa0 = false; blink = false; highlight = false }
