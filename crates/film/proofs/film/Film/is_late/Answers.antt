use Rattle.std.proofs.Common.{◌∙◌, ap}
use Rattle.film.specs.declared.log.RowTime.{RowTime}
use Rattle.film.proofs.Lates.{late_granted, late_refused}
use Rattle.film.proofs.film.Film.is_late.Goals as goal

pub returns-in-Ok : goal.returns-in-Ok
returns-in-Ok c = λ h.
    late_granted c.args.self.now.screen c.args.page.now c.args.log.now c.args.row c.row-came.result.bytes _ c.in-Ok.window.bytes.now
    h c.in-Ok.ensures (ap (λ (t : RowTime). t.bytes) c.row-came.ensures)

pub returns-in-Err : goal.returns-in-Err
returns-in-Err c = λ h.
    c.is_page_end.ensures
    ∙ late_refused c.args.self.now.screen c.args.page.now c.args.log.now c.args.row c.in-Err.refusal h c.in-Err.ensures
