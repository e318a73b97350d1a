use Rattle.std.proofs.Common.{ap, ◌∙◌, []}
use Rattle.source.specs.Stalling.{outside}
use Rattle.source.proofs.stalls.StallsTiming.always_free.Goals as goal

pub returns : goal.returns
returns c =
    ap (λ spans. outside spans c.counted.result.count) (c.counted.ensures.0 ∙ c.new.ensures.items) ∙ ap (outside []) c.counted.ensures.1
