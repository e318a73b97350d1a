use Rattle.std.proofs.Common.{◌+◌}
use Rattle.listing.proofs.Columns.{line_more}
use Rattle.listing.proofs.column.RowWords.lit.Goals as goal

pub loop-line-preserved : goal.loop-line-preserved
loop-line-preserved c =
    line_more c.args.self.now.words.now c.args.self.now.composition.now.lines c.loop-line.line (c.args.self.now.composition.now.columns + c.args.self.now.composition.now.retrace) c.args.column
    c.word_at.result c.loop-line.lit c.under-lit.result c.loop-line-test.true c.loop-line.auto.line c.word_at.ensures c.under-lit.ensures c.loop-line.invariant
