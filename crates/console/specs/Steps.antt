-- The clock by the steps that the library takes.
use Rattle.std.specs.Prelude.{ℕ, Bool, ◌||◌, Option}
use Rattle.video.specs.Composition.{Shape}
use Rattle.frame.specs.declared.flags.Flags.{Flags}
use Rattle.frame.specs.Ports.{Core, State}
use Rattle.frame.specs.Machine.{frame_start, row_start, opening, prepared, underrun, requests, late_now, fed, overrun, ready_core}

-- the same console with another core and other flags
abbrev pub with : State → Core → Flags → State
with s k f = record { shape = s.shape; control = s.control; cursor = s.cursor; pending = s.pending; core = k; flags = f; pen = s.pen }

abbrev pub ir_if : Bool → Flags → Flags
ir_if b f = record { ir = f.ir || b; lp = f.lp; ic = f.ic; du = f.du; fo = f.fo }

abbrev pub du_if : Bool → Flags → Flags
du_if b f = record { ir = f.ir; lp = f.lp; ic = f.ic; du = f.du || b; fo = f.fo }

abbrev pub fo_if : Bool → Flags → Flags
fo_if b f = record { ir = f.ir; lp = f.lp; ic = f.ic; du = f.du; fo = f.fo || b }

-- an interrupt is requested
abbrev pub interrupted : Shape → State → State
interrupted c s = with s s.core (ir_if (requests c s) s.flags)

-- a frame begins, and a row time behind the first
abbrev pub frame_opened : Shape → State → State
frame_opened c s = with s (prepared c s.control.ve s.control.bursts frame_start s.core) s.flags

abbrev pub row_opened : Shape → State → State
row_opened c s = with s (prepared c s.control.ve s.control.bursts row_start s.core) (du_if (underrun s.core) s.flags)

-- all that comes before the word
abbrev pub readied : Shape → State → State
readied c s = with s (ready_core c s) (du_if (late_now (opening s.core.row s.core.line s.core.column) s.core) (ir_if (requests c s) s.flags))

-- what came is stored
abbrev pub stored : Shape → State → Option ℕ → State
stored c s came = with s (fed c s.core came) (fo_if (overrun s.core.fill (fed c s.core came).fill) s.flags)
