use Rattle.std.proofs.Common.{◌≡◌, ◌≤◌, drop}
use Rattle.arguments.specs.Numbers.{figure_after}
use Rattle.arguments.proofs.numbers.figure.Given as goal

-- the digits still to come lead from the number to that of the whole text
abbrev pub invariant-loop-c : goal.invariant-loop-c
invariant-loop-c l = (l.number ≤ l.most) × (figure_after l.most l.number (drop l.c-index l.text) ≡ figure_after l.most 0 l.text)
