use Rattle.std.proofs.Common.{Some, ap, ◌∙◌}
use Rattle.frame.specs.Ports.{State}
use Rattle.console.specs.Model.{state_in}
use Rattle.mirror.proofs.Standing.{flag_bit, cursor_left, packed}
use Rattle.mirror.proofs.packing.pack.Goals as goal

pub returns : goal.returns
returns c =
    let p = c.parts-parts.result in
    let layout = c.from.ensures in
    let fill = c.from-9.ensures in
    let shown = c.from-10.ensures in
    let ve = flag_bit c.from-3.result p.ve c.from-3.ensures in
    let ie = flag_bit c.from-4.result p.ie c.from-4.ensures in
    let cursor = cursor_left p.cursor c.from-6.result c.from-7.result _ _ c.from-6.ensures c.is_some.ensures c.from-7.ensures c.unwrap_or_default.ensures in
    packed _ (state_in p) layout.0 fill.0 shown.0 c.parts-parts.ensures.inside layout.1 ve ie c.from-5.ensures cursor c.from-2.ensures fill.1 shown.1 c.from-8.ensures c.from-11.ensures c.from-12.ensures
    ∙ ap (λ (s : State). Some s) c.parts-parts.ensures.state
