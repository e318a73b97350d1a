-- Where the looks are at hand, the column's word is its look with the line count.
use Rattle.std.proofs.Common.{◌≡◌, ◌+◌, ◌*◌, Bool, true, false, not, ◌||◌, leb, ◌∙◌, arith}
use Rattle.std.proofs.lemmas.Bool.Decides.{nat_tests}
use Rattle.video.specs.Composition.{shape_of}
use Rattle.video.specs.Picture.{look, cell_word}
use Rattle.video.proofs.Looks.{word_by_look, look_small}
use Rattle.rows.specs.Buffer.{column_cell}
use Rattle.rows.specs.Model.{shown_of}
use Rattle.console.proofs.raster.Raster.column_word.Goals as goal

parts : (a b d : Bool) → (a || (b || not d)) ≡ false → (a ≡ false) × (b ≡ false) × (d ≡ true)
parts a b d e = (grind (arith, nat_tests), grind (arith, nat_tests), grind (arith, nat_tests))

-- the look at hand is that of the column
found : (c : goal.After-line_count)
    → c.look.result ≡ look (shape_of c.args.composition.now) c.args.self.now.beam.line c.args.self.now.beam.blink (column_cell (shown_of c.args.self.now.shown) c.args.self.now.beam.column)
found c =
    let r = c.args.self.now in
    let h = parts c.args.here (leb 80 r.beam.column) c.has_looks.result c.if-here-self.false in
    let outside = h.1 in
    c.look.ensures (shape_of c.args.composition.now) (c.has_looks.ensures h.2) (grind (arith, nat_tests))

pub returns : goal.returns
returns c =
    let r = c.args.self.now in
    let sh = shape_of c.args.composition.now in
    let x = column_cell (shown_of r.shown) r.beam.column in
    let h = parts c.args.here (leb 80 r.beam.column) c.has_looks.result c.if-here-self.false in
    let e = found c in
    let n = c.line_count.ensures in
    let w = word_by_look sh r.beam.line r.beam.blink x in
    let s = look_small sh r.beam.line r.beam.blink x in
    let k = c.line_count.type_inv in
    let is : c.look.result + 256 * c.line_count.result ≡ cell_word sh r.beam.line r.beam.blink false x = omega arith in
    record { is = is ∙ (rw h.0); small = omega arith }

pub overflow_add-result : goal.overflow_add-result
overflow_add-result c =
    let r = c.args.self.now in
    let e = found c in
    let s = look_small (shape_of c.args.composition.now) r.beam.line r.beam.blink (column_cell (shown_of r.shown) r.beam.column) in
    let k = c.line_count.type_inv in
    omega arith
