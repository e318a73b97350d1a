-- What a mirror stands for.
use Rattle.std.specs.Prelude.{ℕ, Bool, cond, ◌&&◌, Some, None, Option}
use Rattle.video.specs.Composition.{Shape}
use Rattle.rows.specs.Buffer.{Buffer, Shown}
use Rattle.frame.specs.Ports.{Core, State}
use Rattle.console.specs.Parts.{settled}
use Rattle.mirror.specs.declared.numbers.Beam.{Beam}
use Rattle.mirror.specs.declared.numbers.Spot.{Spot}
use Rattle.mirror.specs.declared.numbers.Mirror.{Mirror}
use Rattle.mirror.specs.Codes.{flag, shown_in, row_sound, buffer_in, fill_sound, layout_in, layout_sound, pending_in, bursts_in, flags_in}

-- what the clock moves, with the row that is taken and the row that is shown
abbrev pub core_in : Beam → Buffer → Shown → Core
core_in b fill shown =
    record {
      row = b.row;
      line = b.line;
      column = b.column;
      blink = b.blink;
      armed = flag b.armed;
      dark = flag b.dark;
      bursts = bursts_in b.bursts;
      gap = b.gap;
      fill = fill;
      shown = shown;
    }

abbrev pub cursor_in : (placed : ℕ) → Spot → Option (ℕ × ℕ)
cursor_in placed s = cond (flag placed) (Some (s.column, s.row)) None

-- the console with a composition and what the clock moves
abbrev pub state_with : Mirror → Option Shape → Core → State
state_with m shape core =
    record {
      shape = shape;
      control = record { ve = flag m.ve; ie = flag m.ie; bursts = bursts_in m.bursts };
      cursor = cursor_in m.placed m.cursor;
      pending = pending_in m.waits;
      core = core;
      flags = flags_in m.flags;
      pen = (m.pen.column, m.pen.row);
    }

abbrev pub state_at : Mirror → State
state_at m = state_with m (layout_in m.layout) (core_in m.beam (buffer_in m.fill) (shown_in m.shown))

-- the ranges inside the parts of a mirror hold
abbrev pub sound : Mirror → Bool
sound m = layout_sound m.layout && (fill_sound m.fill && row_sound m.shown)

-- the console that a mirror holds, if it holds one
unfoldable pub stands : Mirror → Option State
stands m = cond (sound m) (settled (state_at m)) None
