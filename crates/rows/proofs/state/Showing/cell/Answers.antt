-- A column inside the row is the one stored, and any other is dark.
use Rattle.std.proofs.Common.{◌≡◌, take, refl, ap, ◌∙◌, arith}
use Rattle.rows.specs.Buffer.{resolved, cell_of}
use Rattle.rows.proofs.Columns.{inside, behind}
use Rattle.rows.proofs.state.Showing.cell.Goals as goal
use Rattle.rows.proofs.state.Showing.cell.Goals.{then-p-self, else-p-self}

pub returns : goal.returns
returns c =
    let s = c.args.self.now in
    let is : resolved s.ring c.if-p-self.column ≡ cell_of s.ring (take s.len s.columns) c.args.p =
    elim c.if-p-self.branch [
      | then-p-self w ↦ ap (resolved s.ring) w.column-is ∙ inside s.ring s.columns s.len c.args.p _ w.if-p-self.true (omega arith)
      | else-p-self w ↦ ap (resolved s.ring) w.column-is ∙ behind s.ring s.columns s.len c.args.p w.if-p-self.false
    ] in
    c.resolved.ensures ∙ is ∙ (rw c.if-self.false refl)
