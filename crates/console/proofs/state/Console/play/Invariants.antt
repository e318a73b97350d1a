use Rattle.std.proofs.Common.{length, vec_items}
use Rattle.console.specs.Model.{state_of}
use Rattle.console.specs.Playing.{On}
use Rattle.console.specs.Room.{HasRoom}
use Rattle.console.proofs.state.Console.play.Given as goal

-- the calls that are left lead where all of them lead, and there is room for their answers
abbrev pub invariant-loop-call : goal.invariant-loop-call
invariant-loop-call g l =
    let means = g.S.Source.means in
    On l.rest (state_of l.self) (means l.source) (vec_items l.answers)
    l.calls (state_of l.initial.self) (means l.initial.source) (vec_items l.initial.answers)
    × HasRoom l.answers (length l.rest)

abbrev pub decreases-loop-call : goal.decreases-loop-call
decreases-loop-call g l = length l.rest
