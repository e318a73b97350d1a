use Rattle.std.proofs.Common.{ap, ◌∙◌}
use Rattle.source.specs.Meaning.{Meaning}
use Rattle.video.specs.Picture.{bit}
use Rattle.frame.specs.declared.call.Call.TheVariants.{Clock}
use Rattle.ffi.specs.Calls.{left_by}
use Rattle.ffi.specs.Offers.{gone}
use Rattle.mirror.specs.Stands.{stands}
use Rattle.ffi.proofs.Taken.{gone_is, byte_bit}
use Rattle.ffi.proofs.calls.clock.Goals as goal

pub returns-clause-taken : goal.returns-clause-taken
returns-clause-taken c =
    let s = stands c.args.console.now in
    let source = c.perform-answer.ensures.source ∙ ap (λ (m : Meaning). left_by Clock m s) c.new-source.ensures in
    c.from.ensures ∙ byte_bit _ ∙ ap bit (c.gone.ensures ∙ ap gone source ∙ gone_is c.args.byte s)
