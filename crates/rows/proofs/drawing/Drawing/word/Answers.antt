-- Retrace is dark; any other column shows its cell.
use Rattle.std.proofs.Common.{refl, ◌∙◌, add-one}
use Rattle.video.specs.Composition.{shape_of}
use Rattle.rows.specs.Model.{shown_of}
use Rattle.rows.proofs.Pictures.{retrace, shows_it}
use Rattle.rows.proofs.drawing.Drawing.word.Goals as goal

pub returns-then-p-self : goal.returns-then-p-self
returns-then-p-self c =
    let s = c.args.self.now in
    λ n page f. retrace (shape_of s.composition) n page s.cursor s.blink _ c.args.line c.args.p _ _ c.if-p-self.true c.line_count.ensures c.dark_word.ensures.is

pub returns : goal.returns
returns c =
    let s = c.args.self.now in
    λ n page f. shows_it (shape_of s.composition) n page s.cursor s.blink s.above c.args.line c.args.p (shown_of s.found.now.row.show) _ _ _
    c.if-p-self.false f.columns (c.cursor_in-here.ensures ∙ (rw (c.from.ensures, add-one) refl)) c.cell.ensures c.word.ensures.is
