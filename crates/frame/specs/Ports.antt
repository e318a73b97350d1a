-- The ports: commands, parameters and the status byte.
use Rattle.std.specs.Prelude.{ℕ, ◌+◌, ◌*◌, ◌/◌, ◌%◌, Bool, true, false, cond, ◌&&◌, ◌||◌, List, [], ◌∷◌, Some, None, Option, ◌==◌, nat_le, slice_index}
use Rattle.refusal.specs.declared.Refusal.{Refusal}
use Rattle.refusal.specs.declared.Refusal.TheVariants.{UnknownCommand, TooManyColumns}
use Rattle.video.specs.Composition.{Shape, allowed, composed}
use Rattle.video.specs.Picture.{bit}
use Rattle.rows.specs.Takes.{burst_bytes}
use Rattle.rows.specs.Buffer.{Buffer, Shown, nothing, top}
use Rattle.frame.specs.declared.burst.Burst.{Burst}
use Rattle.frame.specs.declared.flags.Flags.{Flags}
use Rattle.frame.specs.declared.pending.Pending.{Pending}
use Rattle.frame.specs.declared.pending.Pending.TheVariants.{Nothing, Reset1, Reset2, Reset3, Reset4, CursorColumn, CursorRow, PenColumn, PenRow}

-- N, the bytes of a burst, and D, the clocks between two bursts
pub record Bursts : Type 0 where
  pub n : ℕ
  pub d : ℕ

abbrev pub bursts_of : Burst → Bursts
bursts_of b = record { n = burst_bytes b.size; d = b.space }

-- what commands set: video enable, interrupt enable, the latest bursts
pub record Control : Type 0 where
  pub ve : Bool
  pub ie : Bool
  pub bursts : Bursts

-- what the clock moves: row time, line and clock of the line; the blink count; whether the frame is armed, and whether it went dark;
-- the bursts of this frame, the clocks before a byte is asked for again; the row being filled and the row being shown
pub record Core : Type 0 where
  pub row : ℕ
  pub line : ℕ
  pub column : ℕ
  pub blink : ℕ
  pub armed : Bool
  pub dark : Bool
  pub bursts : Bursts
  pub gap : ℕ
  pub fill : Buffer
  pub shown : Shown

-- a console: composition, control, cursor, what the ports wait for, what the clock moves, flags, light pen
pub record State : Type 0 where
  pub shape : Option Shape
  pub control : Control
  pub cursor : Option (ℕ × ℕ)
  pub pending : Pending
  pub core : Core
  pub flags : Flags
  pub pen : ℕ × ℕ

abbrev pub no_flags : Flags
no_flags = record { ir = false; lp = false; ic = false; du = false; fo = false }

abbrev pub new : State
new =
    record {
      shape = None;
      control = record { ve = false; ie = false; bursts = record { n = 1; d = 0 } };
      cursor = None;
      pending = Nothing;
      core =
          record {
            row = 0;
            line = 0;
            column = 0;
            blink = 0;
            armed = false;
            dark = false;
            bursts = record { n = 1; d = 0 };
            gap = 0;
            fill = top;
            shown = nothing;
          };
      flags = no_flags;
      pen = (0, 0);
    }

-- a written parameter is outstanding
abbrev pub awaits_write : Pending → Bool
awaits_write Nothing = false
awaits_write Reset1 = true
awaits_write (Reset2 p) = true
awaits_write (Reset3 p q) = true
awaits_write (Reset4 p q s) = true
awaits_write CursorColumn = true
awaits_write (CursorRow c) = true
awaits_write PenColumn = false
awaits_write PenRow = false

-- IC is set where `b` holds
abbrev pub improper : Bool → Flags → Flags
improper b f = record { ir = f.ir; lp = f.lp; ic = f.ic || b; du = f.du; fo = f.fo }

-- the burst size of a Start command's bits 1 and 0, and the burst space of its bits 4 to 2
abbrev pub burst_size : ℕ → ℕ
burst_size code = cond (code == 0) 1 (cond (code == 1) 2 (cond (code == 2) 4 8))

abbrev pub spaces : List ℕ
spaces = 0 ∷ 7 ∷ 15 ∷ 23 ∷ 31 ∷ 39 ∷ 47 ∷ 55 ∷ []

abbrev pub burst_space : ℕ → ℕ
burst_space code = slice_index spaces code

-- the bytes that are commands
abbrev pub is_command : ℕ → Bool
is_command b =
    (b == 0x00) || (nat_le 0x20 b && nat_le b 0x40) || b == 0x60 || b == 0x80 || b == 0xA0 || b == 0xC0 || b == 0xE0

-- a command that is accepted drops what was waiting, and sets IC if that was a written parameter
abbrev pub dropped : State → State
dropped s =
    record {
      shape = s.shape;
      control = s.control;
      cursor = s.cursor;
      pending = Nothing;
      core = s.core;
      flags = improper (awaits_write s.pending) s.flags;
      pen = s.pen;
    }

-- a frame that is not armed is dark and asks for nothing
abbrev pub disarmed : Core → Core
disarmed k =
    record {
      row = k.row;
      line = k.line;
      column = k.column;
      blink = k.blink;
      armed = false;
      dark = k.dark;
      bursts = k.bursts;
      gap = k.gap;
      fill = k.fill;
      shown = k.shown;
    }

-- to the first clock of a row time
abbrev pub moved_to : (row : ℕ) → Core → Core
moved_to row k =
    record {
      row = row;
      line = 0;
      column = 0;
      blink = k.blink;
      armed = k.armed;
      dark = k.dark;
      bursts = k.bursts;
      gap = k.gap;
      fill = k.fill;
      shown = k.shown;
    }

abbrev pub first_frame : Core → Core
first_frame k =
    record {
      row = 0;
      line = 0;
      column = 0;
      blink = 0;
      armed = k.armed;
      dark = k.dark;
      bursts = k.bursts;
      gap = k.gap;
      fill = k.fill;
      shown = k.shown;
    }

-- 00 Reset clears VE, IE and IR, disarms the frame and waits for four parameters
abbrev pub reset : State → State
reset s =
    record {
      shape = s.shape;
      control = record { ve = false; ie = false; bursts = s.control.bursts };
      cursor = s.cursor;
      pending = Reset1;
      core = disarmed s.core;
      flags = record { ir = false; lp = s.flags.lp; ic = s.flags.ic; du = s.flags.du; fo = s.flags.fo };
      pen = s.pen;
    }

-- VE, IE and the latest bursts
abbrev pub controlled : (ve ie : Bool) → Bursts → State → State
controlled ve ie bursts s =
    record { shape = s.shape; control = record { ve = ve; ie = ie; bursts = bursts }; cursor = s.cursor; pending = s.pending; core = s.core; flags = s.flags; pen = s.pen }

-- 40 Stop Display clears VE and disarms the frame
abbrev pub stopped : State → State
stopped s =
    record {
      shape = s.shape;
      control = record { ve = false; ie = s.control.ie; bursts = s.control.bursts };
      cursor = s.cursor;
      pending = s.pending;
      core = disarmed s.core;
      flags = s.flags;
      pen = s.pen;
    }

-- the same console, waiting for something else
abbrev pub waiting : Pending → State → State
waiting p s = record { shape = s.shape; control = s.control; cursor = s.cursor; pending = p; core = s.core; flags = s.flags; pen = s.pen }

-- E0 Preset Counters disarms the frame and moves to the first clock of row time 1; without a composition nothing moves
abbrev pub preset_core : Option Shape → Core → Core
preset_core None k = k
preset_core (Some c) k = moved_to 1 k

abbrev pub preset : State → State
preset s =
    record { shape = s.shape; control = s.control; cursor = s.cursor; pending = s.pending; core = disarmed (preset_core s.shape s.core); flags = s.flags; pen = s.pen }

-- 20 to 3F Start Display, 60 Read Light Pen, 80 Load Cursor, A0 Enable and C0 Disable Interrupt
abbrev pub obeyed : State → (byte : ℕ) → State
obeyed s b =
    cond (b == 0x00) (reset s)
    (cond (nat_le 0x20 b && nat_le b 0x3F) (controlled true true (record { n = burst_size (b % 4); d = burst_space (b / 4 % 8) }) s)
    (cond (b == 0x40) (stopped s)
    (cond (b == 0x60) (waiting PenColumn s)
    (cond (b == 0x80) (waiting CursorColumn s)
    (cond (b == 0xA0) (controlled s.control.ve true s.control.bursts s)
    (cond (b == 0xC0) (controlled s.control.ve false s.control.bursts s) (preset s)))))))

-- a byte written to the command port
abbrev pub commanded : State → (byte : ℕ) → State
commanded s b = cond (is_command b) (obeyed (dropped s) b) s

abbrev pub command_refusal : (byte : ℕ) → Option Refusal
command_refusal b = cond (is_command b) None (Some UnknownCommand)

-- nothing waits for what came
abbrev pub complained : State → State
complained s = record { shape = s.shape; control = s.control; cursor = s.cursor; pending = s.pending; core = s.core; flags = improper true s.flags; pen = s.pen }

-- a parameter goes to what waits for it; the last of Reset installs the composition and moves to the first clock of the frame
abbrev pub parameter_to : Pending → State → (byte : ℕ) → State
parameter_to Nothing s b = complained s
parameter_to Reset1 s b = cond (allowed b) (waiting (Reset2 b) s) s
parameter_to (Reset2 p) s b = waiting (Reset3 p b) s
parameter_to (Reset3 p q) s b = waiting (Reset4 p q b) s
parameter_to (Reset4 p q r) s b =
    record {
      shape = Some (composed p q r b);
      control = s.control;
      cursor = s.cursor;
      pending = Nothing;
      core = first_frame s.core;
      flags = s.flags;
      pen = s.pen;
    }
parameter_to CursorColumn s b = waiting (CursorRow b) s
parameter_to (CursorRow c) s b = record { shape = s.shape; control = s.control; cursor = Some (c, b); pending = Nothing; core = s.core; flags = s.flags; pen = s.pen }
parameter_to PenColumn s b = complained s
parameter_to PenRow s b = complained s

abbrev pub parameter_written : State → (byte : ℕ) → State
parameter_written s b = parameter_to s.pending s b

-- only the first parameter of Reset is ever refused
abbrev pub refused_parameter : Pending → (byte : ℕ) → Option Refusal
refused_parameter Nothing b = None
refused_parameter Reset1 b = cond (allowed b) None (Some TooManyColumns)
refused_parameter (Reset2 p) b = None
refused_parameter (Reset3 p q) b = None
refused_parameter (Reset4 p q s) b = None
refused_parameter CursorColumn b = None
refused_parameter (CursorRow c) b = None
refused_parameter PenColumn b = None
refused_parameter PenRow b = None

abbrev pub parameter_refusal : State → (byte : ℕ) → Option Refusal
parameter_refusal s b = refused_parameter s.pending b

-- 0, IE, IR, LP, IC, VE, DU, FO from bit 7 down
abbrev pub status_byte : State → ℕ
status_byte s =
    0x40 * bit s.control.ie + 0x20 * bit s.flags.ir + 0x10 * bit s.flags.lp + 0x08 * bit s.flags.ic
    + 0x04 * bit s.control.ve + 0x02 * bit s.flags.du + bit s.flags.fo

-- reading it clears IR, LP, IC, DU and FO
abbrev pub status_read : State → State
status_read s = record { shape = s.shape; control = s.control; cursor = s.cursor; pending = s.pending; core = s.core; flags = no_flags; pen = s.pen }

-- a parameter read gives the light pen's column and then its row, to Read Light Pen alone
abbrev pub read_from : Pending → State → ℕ
read_from Nothing s = 0
read_from Reset1 s = 0
read_from (Reset2 p) s = 0
read_from (Reset3 p q) s = 0
read_from (Reset4 p q r) s = 0
read_from CursorColumn s = 0
read_from (CursorRow c) s = 0
read_from PenColumn s = s.pen.0
read_from PenRow s = s.pen.1

abbrev pub parameter_byte : State → ℕ
parameter_byte s = read_from s.pending s

abbrev pub after_read : Pending → State → State
after_read Nothing s = complained s
after_read Reset1 s = complained s
after_read (Reset2 p) s = complained s
after_read (Reset3 p q) s = complained s
after_read (Reset4 p q r) s = complained s
after_read CursorColumn s = complained s
after_read (CursorRow c) s = complained s
after_read PenColumn s = waiting PenRow s
after_read PenRow s = waiting Nothing s

abbrev pub parameter_read : State → State
parameter_read s = after_read s.pending s
