use Rattle.std.proofs.Common.{◌≡◌, drop}
use Rattle.source.specs.Stalling.{all_small}
use Rattle.source.proofs.stalls.all_small.Given as goal

-- whether all spans are small hangs on those that are left
abbrev pub invariant-loop-span : goal.invariant-loop-span
invariant-loop-span l = all_small (drop l.span-index l.spans) ≡ all_small l.spans
