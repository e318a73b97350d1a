use Rattle.std.proofs.Common.{◌≡◌, ◌-◌, ◌++◌, length, take}
use Rattle.source.proofs.Draining.{answers, ending}
use Rattle.source.proofs.clocks.drain.Given as goal

-- what is noted and the answers still to come are the answers of all clocks, and what is to come ends where they end
abbrev pub invariant-loop-place : goal.invariant-loop-place
invariant-loop-place g l =
    (take l.place-index l.came ++ answers (length l.initial.came - l.place-index) (g.S.Source.means l.source)
    ≡ answers (length l.initial.came) (g.S.Source.means l.initial.source))
    × (ending (length l.initial.came - l.place-index) (g.S.Source.means l.source) ≡ ending (length l.initial.came) (g.S.Source.means l.initial.source))
