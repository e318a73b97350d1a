-- Each column is worked out by itself, and all are those of every line of the kind.
use Rattle.std.proofs.Common.{◌≡◌, Some, sym, ◌∙◌, rules}
use Rattle.video.specs.Composition.{Shape, shape_of}
use Rattle.video.specs.Picture.{scan_line, look}
use Rattle.video.specs.declared.scan.ScanLine.{ScanLine}
use Rattle.video.proofs.Looks.{look_same}
use Rattle.rows.specs.Buffer.{column_cell}
use Rattle.rows.specs.Model.{shown_of}
use Rattle.rows.proofs.Made.{made_by}
use Rattle.rows.proofs.looks.Looks.of.Goals as goal

pub returns-clause-drawn : goal.returns-clause-drawn
returns-clause-drawn c =
    let s = c.args.scan in
    let sh : Shape = shape_of s.composition in
    λ d line k p b e.
    let kind : scan_line sh s.line s.blink ≡ scan_line d line k = sym c.kind.ensures ∙ e in
    let same = look_same sh d s.line line s.blink k (column_cell (shown_of c.args.row.now) p) kind in
    made_by _ _ (λ i y. y ≡ look sh s.line s.blink (column_cell (shown_of c.args.row.now) i)) 0 c.from_fn.result 80 (λ q i y t. search rules) c.from_fn.ensures.items p b ∙ same
