-- What the numbers of a mirror mean. A number above the last of its kind means the last.
use Rattle.std.specs.Prelude.{ℕ, ◌+◌, ◌*◌, Bool, true, cond, not, ◌&&◌, map, take, Some, None, Option, ◌==◌, nat_le}
use Rattle.video.specs.declared.cell.Cell.TheVariants.{Dark, Text, Symbol}
use Rattle.video.specs.Fields.{field_of}
use Rattle.video.specs.Composition.{Shape, cursor_format}
use Rattle.rows.specs.declared.kinds.Phase.{Phase}
use Rattle.rows.specs.declared.kinds.Phase.TheVariants.{Ready, Second, Extra, Done}
use Rattle.rows.specs.declared.kinds.Column.{Column}
use Rattle.rows.specs.declared.kinds.Column.TheVariants.{Fixed, Memory}
use Rattle.rows.specs.Bound.{ahead}
use Rattle.rows.specs.Buffer.{Shown, Buffer}
use Rattle.frame.specs.declared.flags.Flags.{Flags}
use Rattle.frame.specs.declared.pending.Pending.{Pending}
use Rattle.frame.specs.declared.pending.Pending.TheVariants.{Nothing, Reset1, Reset2, Reset3, Reset4, CursorColumn, CursorRow, PenColumn, PenRow}
use Rattle.frame.specs.Ports.{Bursts as Pace, burst_size}
use Rattle.mirror.specs.declared.numbers.Place.{Place}
use Rattle.mirror.specs.declared.numbers.Row.{Row}
use Rattle.mirror.specs.declared.numbers.Filling.{Filling}
use Rattle.mirror.specs.declared.numbers.Layout.{Layout}
use Rattle.mirror.specs.declared.numbers.Waits.{Waits}
use Rattle.mirror.specs.declared.numbers.Bursts.{Bursts}
use Rattle.mirror.specs.declared.numbers.Raised.{Raised}

abbrev pub flag : ℕ → Bool
flag n = not (n == 0)

-- a column; its field is a field code's low six bits
abbrev pub column_in : Place → Column
column_in p =
    cond (p.kind == 0) (Fixed Dark)
    (cond (p.kind == 1) (Fixed (Text p.byte (field_of p.field)))
    (cond (p.kind == 2) (Fixed (Symbol p.byte (field_of p.field))) (Memory p.byte (field_of p.field))))

-- what a row shows, and its ranges
abbrev pub shown_in : Row → Shown
shown_in r =
    record {
      columns = take r.len (map column_in r.columns);
      ring = r.ring;
      pairs = r.pairs;
      field = field_of r.field;
      ended = flag r.ended;
      below = flag r.below;
      hidden = flag r.hidden;
    }

abbrev pub row_sound : Row → Bool
row_sound r = nat_le r.len 80 && nat_le r.pairs r.len

-- the row that is being taken, and its ranges
abbrev pub phase_in : (phase field : ℕ) → Phase
phase_in p f = cond (p == 0) Ready (cond (p == 1) (Second (field_of f)) (cond (p == 2) Extra Done))

abbrev pub buffer_in : Filling → Buffer
buffer_in f = record { take = record { phase = phase_in f.phase f.field; room = f.room; taken = f.taken; over = flag f.over }; show = shown_in f.row }

abbrev pub fill_sound : Filling → Bool
fill_sound f = row_sound f.row && (nat_le (f.room + f.row.len) 80 && nat_le (f.taken + 2 * f.room) (160 + ahead (phase_in f.phase f.field)))

-- the composition, and its ranges
abbrev pub shape_at : Layout → Shape
shape_at l =
    record {
      h = l.columns;
      z = l.retrace;
      l = l.lines;
      r = l.rows;
      v = l.vretrace;
      u = l.underline;
      f = flag l.opaque;
      offset = flag l.offset;
      spaced = flag l.spaced;
      cursor = cursor_format l.cursor;
    }

abbrev pub layout_in : Layout → Option Shape
layout_in l = cond (flag l.loaded) (Some (shape_at l)) None

abbrev pub between : (low high n : ℕ) → Bool
between low high n = nat_le low n && nat_le n high

abbrev pub shape_sound : Layout → Bool
shape_sound l =
    between 1 80 l.columns
    && (between 2 32 l.retrace && (between 1 16 l.lines && (between 1 64 l.rows && (between 1 4 l.vretrace && nat_le l.underline 15))))

abbrev pub layout_sound : Layout → Bool
layout_sound l = cond (flag l.loaded) (shape_sound l) true

-- what the ports wait for
abbrev pub pending_in : Waits → Pending
pending_in w =
    cond (w.kind == 0) Nothing
    (cond (w.kind == 1) Reset1
    (cond (w.kind == 2) (Reset2 w.first)
    (cond (w.kind == 3) (Reset3 w.first w.second)
    (cond (w.kind == 4) (Reset4 w.first w.second w.third)
    (cond (w.kind == 5) CursorColumn
    (cond (w.kind == 6) (CursorRow w.first)
    (cond (w.kind == 7) PenColumn PenRow)))))))

abbrev pub bursts_in : Bursts → Pace
bursts_in b = record { n = burst_size b.size; d = b.space }

abbrev pub flags_in : Raised → Flags
flags_in f = record { ir = flag f.ir; lp = flag f.lp; ic = flag f.ic; du = flag f.du; fo = flag f.fo }
