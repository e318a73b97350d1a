-- Where the counters of a console lie, and what it has of a composition to come.
use Rattle.std.specs.Prelude.{ℕ, ◌+◌, ◌<◌, Some, None, Option}
use Rattle.video.specs.declared.composition.Composition.{Composition}
use Rattle.console.specs.declared.raster.Beam.{Beam}
use Rattle.frame.specs.declared.pending.Pending.{Pending}
use Rattle.frame.specs.declared.pending.Pending.TheVariants.{Nothing, Reset1, Reset2, Reset3, Reset4, CursorColumn, CursorRow, PenColumn, PenRow}

-- the row times of a frame, the lines of a row time, the clocks of a line; 1 each without a composition
abbrev pub row_times : Option Composition → ℕ
row_times None = 1
row_times (Some c) = c.rows + c.vretrace

abbrev pub line_times : Option Composition → ℕ
line_times None = 1
line_times (Some c) = c.lines

abbrev pub clock_times : Option Composition → ℕ
clock_times None = 1
clock_times (Some c) = c.columns + c.retrace

-- the beam stands inside a frame
abbrev pub Inside : Option Composition → Beam → Type 0
Inside o b = (b.row < row_times o) × (b.line < line_times o) × (b.column < clock_times o) × (b.blink < 32)

-- the first Reset parameter that is kept, or 0
abbrev pub first : Pending → ℕ
first Nothing = 0
first Reset1 = 0
first (Reset2 p) = p
first (Reset3 p q) = p
first (Reset4 p q s) = p
first CursorColumn = 0
first (CursorRow c) = 0
first PenColumn = 0
first PenRow = 0
