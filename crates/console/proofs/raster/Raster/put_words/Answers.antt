-- A drawn row gives its columns' looks, and every other clock is dark.
use Rattle.std.proofs.Common.{vec_items, sym, ◌∙◌}
use Rattle.video.specs.Composition.{shape_of}
use Rattle.console.specs.Raster.{core_of}
use Rattle.console.proofs.Idles.{bit_is, put_lit, put_dark}
use Rattle.console.proofs.raster.Raster.put_words.Goals as goal

pub returns-then-lit : goal.returns-then-lit
returns-then-lit c =
    let sh = shape_of c.args.composition.now in
    let k = core_of c.args.self.now in
    let l = sym c.lit.ensures ∙ c.if-lit.true in
    let d = c.requires.drawn l c.requires.some in
    record {
      items = put_lit sh c.args.cursor c.args.irq c.args.n k c.line_count-count.result c.from-requested.result
          (vec_items c.args.answers.now) (vec_items c.put_looks.new.answers) l c.requires.side.1 d.1 c.line_count-count.ensures (c.from-requested.ensures ∙ bit_is c.args.irq)
          c.put_looks.ensures.items;
      room = c.put_looks.ensures.room;
    }

pub returns-else-lit : goal.returns-else-lit
returns-else-lit c =
    let sh = shape_of c.args.composition.now in
    let k = core_of c.args.self.now in
    record {
      items = put_dark sh c.args.cursor c.args.irq c.args.n k c.dark_word.result c.from-requested.result
          (vec_items c.args.answers.now) (vec_items c.repeat.new.answers) (sym c.lit.ensures ∙ c.if-lit.false) c.requires.side.1
          c.dark_word.ensures.is (c.from-requested.ensures ∙ bit_is c.args.irq) c.repeat.ensures.items;
      room = c.repeat.ensures.room;
    }
