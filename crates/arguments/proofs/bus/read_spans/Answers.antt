use Rattle.std.proofs.Common.{ap, map, sym, ◌∙◌, Some, rules, tests}
use Rattle.std.specs.Bool.{◌==◌}
use Rattle.std.proofs.lemmas.List.{map-append}
use Rattle.std.proofs.lemmas.Iterator.Splits.{YieldsList-from_slice_split}
use Rattle.std.proofs.lemmas.Iterator.Consumers.{YieldsList-at, YieldsList-turn, YieldsList-end}
use Rattle.arguments.specs.Buses.{spans_in}
use Rattle.arguments.proofs.Spans.{spans_more, spans_none}
use Rattle.arguments.proofs.bus.read_spans.Goals as goal

pub returns-in_default : goal.returns-in_default
returns-in_default c =
    let t = YieldsList-turn
    (YieldsList-at c.into_iter-part-iterator.ensures.into_iter_gives
    (YieldsList-from_slice_split _ (λ b. b == 44) c.args.text.now c.split-part-items.ensures.rest c.split-part-items.ensures.done c.split-part-items.ensures.closure (λ x b q k. search (rules, tests))))
    c.loop-part.yielded _ c.loop-part.yielded_by _ _ c.in-Some.part c.in-Some.is c.next.ensures.steps in
    spans_none _ _ _ t.0 t.1 c.in_default.ensures

pub loop-part-preserved : goal.loop-part-preserved
loop-part-preserved c =
    ap spans_in (map-append _ c.loop-part.yielded _) ∙ (spans_more (map (λ p. p.now) c.loop-part.yielded) c.in-Some.part.now _ _ c.loop-part.invariant c.in-Some-span.ensures ∙ ap Some (sym c.in_ok-push.ensures.items))

pub returns : goal.returns
returns c =
    let e = YieldsList-end
    (YieldsList-at c.into_iter-part-iterator.ensures.into_iter_gives
    (YieldsList-from_slice_split _ (λ b. b == 44) c.args.text.now c.split-part-items.ensures.rest c.split-part-items.ensures.done c.split-part-items.ensures.closure (λ x b q k. search (rules, tests))))
    c.loop-part.yielded _ c.loop-part.yielded_by _ _ c.in-None.is c.next.ensures.steps in
    ap spans_in (sym e.0) ∙ c.loop-part.invariant
