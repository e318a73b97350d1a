use Rattle.std.proofs.Common.{◌≡◌, map, Some, vec_items}
use Rattle.arguments.specs.Buses.{spans_in}
use Rattle.arguments.proofs.bus.read_spans.Given as goal

-- the spans so far are those of the pieces so far
abbrev pub invariant-loop-part : goal.invariant-loop-part
invariant-loop-part l = spans_in (map (λ p. p.now) l.yielded) ≡ Some (vec_items l.spans)
