use Rattle.video.specs.Composition.{shape_of}
use Rattle.frame.specs.Ports.{bursts_of}
use Rattle.console.specs.Raster.{core_of}
use Rattle.console.specs.Model.{state_of}
use Rattle.console.proofs.Joins.{row_joined}
use Rattle.console.proofs.state.Console.open_row.Goals as goal

pub returns : goal.returns
returns c =
    let s = c.args.self.now in
    row_joined (shape_of c.args.composition.now) (state_of s) (core_of c.start_row.new.self) c.underrun.result c.underrun.ensures
    (c.start_row.ensures.core s.parts.ve (bursts_of s.parts.burst))
