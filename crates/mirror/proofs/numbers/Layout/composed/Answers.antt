use Rattle.std.proofs.Common.{rules}
use Rattle.std.proofs.lemmas.Bool.{and_parts}
use Rattle.mirror.proofs.numbers.Layout.composed.Goals as goal

pub invariant_of-result : goal.invariant_of-result
invariant_of-result c = search (rules, and_parts)
