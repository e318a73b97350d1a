use Rattle.std.proofs.Common.{length}
use Rattle.source.proofs.Draining.{one_more, one_less, all_noted}
use Rattle.source.proofs.clocks.drain.Goals as goal

pub loop-place-preserved : goal.loop-place-preserved
loop-place-preserved g c =
    let i = c.loop-place.place-index in
    let n = length c.args.came.now in
    let m = g.S.Source.means c.loop-place.source in
    let m' = g.S.Source.means c.clock.new.self in (
      one_more c.loop-place.came i n c.clock.result m m' _ c.loop-place-test.true c.loop-place.auto.came c.clock.ensures.byte c.clock.ensures.after c.loop-place.invariant.0,
      one_less i n m m' _ c.loop-place-test.true c.clock.ensures.after c.loop-place.invariant.1,
    )

pub returns : goal.returns
returns g c =
    all_noted c.loop-place.came c.loop-place.place-index (length c.args.came.now) (g.S.Source.means c.loop-place.source) (g.S.Source.means c.args.source.now)
    c.loop-place-test.false c.loop-place.auto.came c.loop-place.invariant.0 c.loop-place.invariant.1
