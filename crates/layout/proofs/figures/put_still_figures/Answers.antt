use Rattle.std.proofs.Common.{ℕ, List, ◌++◌, refl, ap, ◌∙◌}
use Rattle.std.proofs.lemmas.Result.{on_ok_weaker}
use Rattle.layout.proofs.Aligned.{aligned}
use Rattle.layout.proofs.Appends.{next}
use Rattle.layout.proofs.figures.put_still_figures.Goals as goal

pub returns : goal.returns
returns c =
    on_ok_weaker c.put.result
    (λ e. next c.args.out.now.items _ _ c.in_ok-put_heading.ensures
    (e ∙ ap (λ (x : List ℕ). c.put_heading.new.out.items ++ x)
    (rw (c.laid_out.ensures, c.laid_out-2.ensures, c.laid_out-3.ensures, aligned 3 c.args.row, aligned 7 c.args.place, aligned 7 c.args.taken) refl)))
    c.put.ensures
