-- What the library's console stands for, by its parts.
use Rattle.std.specs.Prelude.{Some, None, Option}
use Rattle.video.specs.Composition.{Shape, shape_of}
use Rattle.video.specs.declared.composition.Composition.{Composition}
use Rattle.console.specs.declared.state.parts.Parts.{Parts}
use Rattle.console.specs.declared.state.Console.{Console}
use Rattle.frame.specs.Ports.{State, bursts_of}
use Rattle.console.specs.Raster.{core_of}

abbrev pub shape_in : Option Composition → Option Shape
shape_in None = None
shape_in (Some c) = Some (shape_of c)

-- what parts stand for
abbrev pub state_in : Parts → State
state_in p =
    record {
      shape = shape_in p.composition;
      control = record { ve = p.ve; ie = p.ie; bursts = bursts_of p.burst };
      cursor = p.cursor;
      pending = p.pending;
      core = core_of p.raster;
      flags = p.flags;
      pen = p.pen;
    }

abbrev pub state_of : Console → State
state_of c = state_in c.parts
