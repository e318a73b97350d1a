-- One clock of the controller.
use Rattle.std.specs.Prelude.{ℕ, zero, suc, ◌+◌, ◌-◌, ◌*◌, ◌%◌, Bool, true, false, cond, not, ◌&&◌, ◌||◌, Some, None, Option, ◌==◌, nat_le, nat_lt}
use Rattle.source.specs.Meaning.{Meaning, begun, answer, clocked}
use Rattle.video.specs.Composition.{Shape, width, line_count}
use Rattle.video.specs.Picture.{bit, dark_word, cell_word}
use Rattle.rows.specs.Page.{blank, cursor_in}
use Rattle.rows.specs.Buffer.{Buffer, full, eat, nothing, fresh, column_cell}
use Rattle.frame.specs.declared.flags.Flags.{Flags}
use Rattle.frame.specs.Ports.{Bursts, Core, State}
use Rattle.frame.specs.Timing.{pause}

-- what begins with a clock: nothing, a frame, or a row time behind row time 0
pub data Opening : Type 0 where
  within : Opening
  frame_start : Opening
  row_start : Opening

abbrev pub opening : (row line column : ℕ) → Opening
opening row line column = cond (line == 0 && column == 0) (cond (row == 0) frame_start row_start) within

-- rows that take nothing: blank ones, and what lies below row R
abbrev pub idle : Shape → (row : ℕ) → Bool
idle c j = nat_lt c.r j || blank c j

-- a row whose time has come is late where its buffer is not full
abbrev pub underrun : Core → Bool
underrun k = k.armed && (not k.dark && not (full k.fill.take))

-- a frame is armed if video is enabled at its first clock, which takes the bursts over; at a row's first clock the row that was filled
-- is shown, unless it is late, and the next one is begun
abbrev pub prepared : Shape → (ve : Bool) → Bursts → Opening → Core → Core
prepared c ve b within k = k
prepared c ve b frame_start k =
    record {
      row = k.row;
      line = k.line;
      column = k.column;
      blink = k.blink;
      armed = ve;
      dark = false;
      bursts = cond ve b k.bursts;
      gap = 0;
      fill = fresh c.h (idle c 1) false nothing;
      shown = k.shown;
    }
prepared c ve b row_start k =
    record {
      row = k.row;
      line = k.line;
      column = k.column;
      blink = k.blink;
      armed = k.armed;
      dark = k.dark || underrun k;
      bursts = k.bursts;
      gap = 0;
      fill = fresh c.h (idle c (suc k.row)) k.fill.take.over k.fill.show;
      shown = k.fill.show;
    }

-- the source begins with an armed frame
abbrev pub begins : Opening → (ve : Bool) → Meaning → Meaning
begins within ve m = m
begins frame_start ve m = cond ve (begun m) m
begins row_start ve m = m

-- DRQ: a byte is asked for
abbrev pub wants : Core → Bool
wants k = k.armed && (not k.dark && (not (full k.fill.take) && k.gap == 0))

-- HRTC in a line's last Z clocks, VRTC in row time 0 and behind row time R
abbrev pub hrtc : Shape → Core → Bool
hrtc c k = nat_le c.h k.column

abbrev pub vrtc : Shape → Core → Bool
vrtc c k = k.row == 0 || nat_lt c.r k.row

-- a clock shows a column of a row
abbrev pub lit : Shape → Core → Bool
lit c k = k.armed && (not k.dark && (not (vrtc c k) && not (hrtc c k)))

-- the picture bits of a clock: dark in retrace, in a frame that is not armed and in one that went dark
abbrev pub pictured : Shape → Option (ℕ × ℕ) → Core → ℕ
pictured c q k =
    cond (k.armed && (not k.dark && (not (vrtc c k) && not (hrtc c k))))
    (cell_word c k.line k.blink (cursor_in q k.row k.column) (column_cell k.shown k.column))
    (dark_word (line_count c k.line) (hrtc c k) (vrtc c k))

-- bit 22 is DRQ, bit 23 IRQ
abbrev pub word : Shape → Option (ℕ × ℕ) → (irq : Bool) → Core → ℕ
word c q irq k = pictured c q k + 0x400000 * bit (wants k) + 0x800000 * bit irq

-- what came is stored, and the burst space begins behind a burst's last byte
abbrev pub fed : Shape → Core → Option ℕ → Core
fed c k came =
    record {
      row = k.row;
      line = k.line;
      column = k.column;
      blink = k.blink;
      armed = k.armed;
      dark = k.dark;
      bursts = k.bursts;
      gap = elim came [ None ↦ k.gap - 1 | Some x ↦ pause k.bursts (suc k.fill.take.taken) ];
      fill = elim came [ None ↦ k.fill | Some x ↦ eat c.f k.bursts.n k.fill x ];
      shown = k.shown;
    }

-- where the counters go
pub data Turn : Type 0 where
  in_line : Turn
  new_line : Turn
  new_row : Turn
  new_frame : Turn

abbrev pub turn : Shape → (row line column : ℕ) → Turn
turn c row line column =
    cond (nat_lt (suc column) (width c)) in_line
    (cond (nat_lt (suc line) c.l) new_line (cond (nat_lt (suc row) (c.r + c.v)) new_row new_frame))

-- the blink count rises behind each frame, from 31 to 0
abbrev pub moved : Turn → Core → Core
moved in_line k =
    record {
      row = k.row;
      line = k.line;
      column = suc k.column;
      blink = k.blink;
      armed = k.armed;
      dark = k.dark;
      bursts = k.bursts;
      gap = k.gap;
      fill = k.fill;
      shown = k.shown;
    }
moved new_line k =
    record {
      row = k.row;
      line = suc k.line;
      column = 0;
      blink = k.blink;
      armed = k.armed;
      dark = k.dark;
      bursts = k.bursts;
      gap = k.gap;
      fill = k.fill;
      shown = k.shown;
    }
moved new_row k =
    record {
      row = suc k.row;
      line = 0;
      column = 0;
      blink = k.blink;
      armed = k.armed;
      dark = k.dark;
      bursts = k.bursts;
      gap = k.gap;
      fill = k.fill;
      shown = k.shown;
    }
moved new_frame k =
    record {
      row = 0;
      line = 0;
      column = 0;
      blink = suc k.blink % 32;
      armed = k.armed;
      dark = k.dark;
      bursts = k.bursts;
      gap = k.gap;
      fill = k.fill;
      shown = k.shown;
    }

-- the clock by its parts: prepared, then the source, then what came, then moved
unfoldable pub ready_core : Shape → State → Core
ready_core c s = prepared c s.control.ve s.control.bursts (opening s.core.row s.core.line s.core.column) s.core

unfoldable pub ready_source : State → Meaning → Meaning
ready_source s m = begins (opening s.core.row s.core.line s.core.column) s.control.ve m

unfoldable pub fed_core : Shape → State → Meaning → Core
fed_core c s m = fed c (ready_core c s) (answer (ready_source s m) (wants (ready_core c s)))

unfoldable pub next_core : Shape → State → Meaning → Core
next_core c s m = moved (turn c (fed_core c s m).row (fed_core c s m).line (fed_core c s m).column) (fed_core c s m)

-- IR is set at the first clock of row time R if IE is set
abbrev pub requests : Shape → State → Bool
requests c s = s.control.ie && (s.core.row == c.r && (s.core.line == 0 && s.core.column == 0))

-- DU is set at the first clock of the first late row
abbrev pub late_now : Opening → Core → Bool
late_now within k = false
late_now frame_start k = false
late_now row_start k = underrun k

-- FO is set as the seventeenth field character of a row is taken
abbrev pub overrun : (before after : Buffer) → Bool
overrun a b = a.show.pairs == 16 && b.show.pairs == 17

unfoldable pub next_flags : Shape → State → Meaning → Flags
next_flags c s m =
    record {
      ir = s.flags.ir || requests c s;
      lp = s.flags.lp;
      ic = s.flags.ic;
      du = s.flags.du || late_now (opening s.core.row s.core.line s.core.column) s.core;
      fo = s.flags.fo || overrun (ready_core c s).fill (fed_core c s m).fill;
    }

-- one clock: the console, the source and the word
unfoldable pub clock_state : Shape → State → Meaning → State
clock_state c s m =
    record {
      shape = s.shape;
      control = s.control;
      cursor = s.cursor;
      pending = s.pending;
      core = next_core c s m;
      flags = next_flags c s m;
      pen = s.pen;
    }

unfoldable pub clock_source : Shape → State → Meaning → Meaning
clock_source c s m = clocked (ready_source s m) (wants (ready_core c s))

unfoldable pub clock_word : Shape → State → ℕ
clock_word c s = word c s.cursor (s.flags.ir || requests c s) (ready_core c s)

-- a light pen stroke sets LP and keeps the place of the next clock: its number in the line, and its row time less one
abbrev pub pen_row : Shape → (row : ℕ) → ℕ
pen_row c zero = c.r + c.v - 1
pen_row c (suc j) = j

abbrev pub stroke : Shape → State → State
stroke c s =
    record {
      shape = s.shape;
      control = s.control;
      cursor = s.cursor;
      pending = s.pending;
      core = s.core;
      flags = record { ir = s.flags.ir; lp = true; ic = s.flags.ic; du = s.flags.du; fo = s.flags.fo };
      pen = (s.core.column, pen_row c s.core.row);
    }
