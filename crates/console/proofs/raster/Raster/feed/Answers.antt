use Rattle.std.proofs.Common.{refl}
use Rattle.video.specs.Composition.{shape_of}
use Rattle.console.specs.Raster.{core_of}
use Rattle.console.proofs.Joins.{fed_some}
use Rattle.console.proofs.raster.Raster.feed.Goals as goal

pub returns-in-Some : goal.returns-in-Some
returns-in-Some c =
    record {
      core = fed_some (shape_of c.args.composition.now) (core_of c.args.self.now) c.args.came c.in-Some.b _ _ c.requires c.in-Some.is c.store.ensures c.pause-self.ensures;
      stays = refl;
    }
