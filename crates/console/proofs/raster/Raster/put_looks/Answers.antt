-- Each turn puts one column more.
use Rattle.std.proofs.Common.{ℕ, ◌+◌, List, [], ◌∷◌, ◌++◌, vec_items, ap, ◌∙◌, arith}
use Rattle.video.specs.Composition.{shape_of}
use Rattle.video.proofs.Looks.{look_small}
use Rattle.rows.specs.Buffer.{column_cell}
use Rattle.rows.specs.Model.{shown_of}
use Rattle.frame.specs.declared.call.Answer.{Answer}
use Rattle.frame.specs.declared.call.Answer.TheVariants.{Word}
use Rattle.console.proofs.Idles.{looked_more}
use Rattle.console.proofs.raster.Raster.put_looks.Goals as goal

pub overflow_add-look : goal.overflow_add-look
overflow_add-look c =
    let r = c.args.self.now in
    let sh = shape_of c.args.composition.now in
    let q = c.requires.row in
    let e = c.look.ensures sh c.requires.looks (let a = c.loop-p-test.true in omega arith) in
    let s = look_small sh r.beam.line r.beam.blink (column_cell (shown_of r.shown) c.loop-p.p) in
    omega arith

pub loop-p-preserved : goal.loop-p-preserved
loop-p-preserved c =
    let r = c.args.self.now in
    let sh = shape_of c.args.composition.now in
    let q = c.requires.row in
    let found = c.look.ensures sh c.requires.looks (let a = c.loop-p-test.true in omega arith) in
    let i = c.loop-p.invariant in
    let e = c.push_reserved.ensures in (
      e.items ∙ ap (λ (l : List Answer). l ++ Word (c.look.result + c.args.base) ∷ []) i.0
          ∙ looked_more sh r.beam.line r.beam.blink (shown_of r.shown) c.args.base r.beam.column c.loop-p.p _ (vec_items c.args.answers.now) i.1
          (ap (λ (v : ℕ). v + c.args.base) found),
      (let a = i.1 in omega arith),
      (let a = i.1 in let a₂ = i.2.0 in let b = e.len in omega arith, e.capacity ∙ i.2.1),
    )
