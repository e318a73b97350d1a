use Rattle.std.proofs.Common.{◌≡◌, ℕ, ◌-◌, List, ◌++◌, ap, ◌∙◌, codes, decimal, append_assoc}
use Rattle.std.proofs.lemmas.Result.{on_ok_weaker}
use Rattle.layout.specs.Closing.{still_total}
use Rattle.layout.proofs.Aligned.{no_width}
use Rattle.layout.proofs.closing.put_still_total.Goals as goal

total : (shown rows used page left : ℕ) → left ≡ page - used
    → decimal shown ++ (codes " of " ++ (decimal rows ++ (codes " rows shown, " ++ (decimal used ++ (codes " of " ++ (decimal page ++ (codes " bytes of the page used, " ++ (decimal left ++ codes " left\n"))))))))
    ≡ still_total shown rows used page
total shown rows used page left e = simp (e, no_width, append_assoc)

pub returns : goal.returns
returns c =
    on_ok_weaker c.put.result
    (λ e. e ∙ ap (λ (x : List ℕ). c.args.out.now.items ++ x) (total c.args.shown c.args.rows c.args.used c.args.page c.saturating_sub-left.result c.saturating_sub-left.ensures))
    c.put.ensures
