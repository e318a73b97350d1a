-- What came in a frame, by row times.
use Rattle.std.specs.Prelude.{ℕ, ◌+◌, ◌-◌, ◌/◌, ◌^◌, min, Bool, cond, ◌&&◌, replicate, ◌==◌, nat_lt, slice_index_or, slice_set}
use Rattle.film.specs.declared.log.Log.{Log}
use Rattle.film.specs.declared.log.RowTime.{RowTime}

abbrev pub nothing : RowTime
nothing = record { bytes = 0; last = 0 }

abbrev pub empty_log : (span : ℕ) → Log
empty_log n = record { span = n; clock = 0; times = replicate 64 nothing }

-- the row time of the coming clock
abbrev pub time_of : Log → ℕ
time_of g = cond (g.span == 0) 0 (g.clock / g.span)

-- what came in a row time
abbrev pub came_in : Log → (time : ℕ) → RowTime
came_in g t = slice_index_or g.times t nothing

-- numbers stop at the largest
abbrev pub raised : ℕ → ℕ
raised n = min (n + 1) (2 ^ 32 - 1)

-- one byte more, which came in clock i
abbrev pub with_byte : RowTime → (clock : ℕ) → RowTime
with_byte t i = record { bytes = raised t.bytes; last = i }

-- a byte came in this row time
abbrev pub noted : Log → (came : Bool) → Bool
noted g came = came && nat_lt (time_of g) 64

-- a clock passed
abbrev pub passed : Log → (came : Bool) → Log
passed g came =
    record {
      span = g.span;
      clock = raised g.clock;
      times = cond (noted g came) (slice_set g.times (time_of g) (with_byte (came_in g (time_of g)) g.clock)) g.times;
    }

-- n clocks passed without a byte
abbrev pub waited_log : (n : ℕ) → Log → Log
waited_log n g = record { span = g.span; clock = min (g.clock + n) (2 ^ 32 - 1); times = g.times }
