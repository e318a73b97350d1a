use Rattle.std.proofs.Common.{Some, sym, ap, ◌∙◌}
use Rattle.video.specs.Composition.{Shape}
use Rattle.frame.specs.Ports.{State}
use Rattle.sheet.proofs.Shapes.{programmed_shape}
use Rattle.sheet.proofs.screen.Screen.programmed.Goals as goal

pub returns : goal.returns
returns c =
    let k = c.in_ok-console.ensures in
    let e = c.in_ok-composition.ensures.composed in (
      ap (λ (s : State). s.shape) k ∙ (programmed_shape c.args.parameters c.args.cursor c.args.start e.0 ∙ ap (λ (x : Shape). Some x) (sym e.1)),
      k,
    )
