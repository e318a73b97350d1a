use Rattle.std.proofs.Common.{refl, ◌∙◌}
use Rattle.std.proofs.lemmas.Result.{on_ok_weaker}
use Rattle.layout.proofs.Aligned.{aligned}
use Rattle.layout.proofs.figures.put_fate.Goals as goal

pub returns-in-Shown : goal.returns-in-Shown
returns-in-Shown c =
    on_ok_weaker c.put.result
    (λ e. e ∙ rw (c.in-Shown.is, c.laid_out.ensures, c.laid_out-in-Shown.ensures, aligned 7 c.in-Shown.last, aligned 7 c.args.due) refl)
    c.put.ensures

pub returns-in-Late : goal.returns-in-Late
returns-in-Late c =
    on_ok_weaker c.put-in-Late.result (λ e. e ∙ rw (c.in-Late.is, c.laid_out-in-Late.ensures, aligned 7 c.args.due) refl) c.put-in-Late.ensures
