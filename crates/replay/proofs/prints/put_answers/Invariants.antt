use Rattle.std.proofs.Common.{◌≡◌, ◌*◌, ◌++◌, drop, vec_items}
use Rattle.replay.specs.Digits.{Takes}
use Rattle.replay.specs.Prints.{texts, outcome}
use Rattle.replay.proofs.prints.put_answers.Given as goal

-- printed so far and still to come are the whole
abbrev pub invariant-loop-answer : goal.invariant-loop-answer
invariant-loop-answer l =
    (vec_items l.out ++ texts (drop l.answer-index l.answers) ≡ vec_items l.initial.out ++ texts l.answers)
    × (outcome (drop l.answer-index l.answers) ≡ outcome l.answers)
    × Takes l.initial.out l.out (9 * l.answer-index)
