use Rattle.std.proofs.Common.{◌≡◌}
use Rattle.source.specs.Runs.{waited}
use Rattle.source.proofs.bus.Source.wait.Given as goal

abbrev pub invariant-loop : goal.invariant-loop
invariant-loop g l = g.Self.Source.means l.self ≡ waited l.counter (g.Self.Source.means l.initial.self)
