use Rattle.std.proofs.Common.{List, ℕ, ◌++◌, ap, ◌∙◌, unwrap_or, arith}
use Rattle.replay.proofs.Joins.{fault_bytes}
use Rattle.replay.proofs.prints.put_fault.Goals as goal

pub returns : goal.returns
returns c =
    let column = c.unwrap_or-column.ensures ∙ ap (λ o. unwrap_or o 0) c.column.ensures in
    let text = fault_bytes c.args.fault c.args.number _ _ _ _ (omega (arith, c.ranges.number.fits)) c.layer.ensures c.number.ensures c.to_be_bytes.ensures column in
    record { items = c.put_line.ensures.items ∙ ap (λ (t : List ℕ). c.args.out.now.items ++ t) text }
