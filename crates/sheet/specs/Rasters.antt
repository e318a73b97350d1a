-- The clocks of a frame.
use Rattle.std.specs.Prelude.{ℕ, ◌+◌, ◌*◌}
use Rattle.video.specs.Composition.{Shape, width}

-- the clocks of a row time, and of a frame
abbrev pub row_clocks : Shape → ℕ
row_clocks c = c.l * width c

abbrev pub frame_clocks : Shape → ℕ
frame_clocks c = row_clocks c * (c.r + c.v)
