use Rattle.std.proofs.Common.{arith}
use Rattle.source.proofs.Rounds.{turn_wraps}
use Rattle.source.proofs.cycle.Cycle.pass.Goals as goal

pub returns-then-self-turn : goal.returns-then-self-turn
returns-then-self-turn c = let cycle = c.args.self.now in turn_wraps cycle.free cycle.busy cycle.gone (omega arith)
