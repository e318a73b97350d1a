use Rattle.source.proofs.Rounds.{turn_waits}
use Rattle.source.proofs.cycle.CycleTiming.wait.Goals as goal

pub returns : goal.returns
returns c = let cycle = c.args.self.now in rw c.turn.ensures (turn_waits cycle.free cycle.busy cycle.gone c.args.clocks)
