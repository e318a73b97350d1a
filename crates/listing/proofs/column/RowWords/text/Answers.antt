use Rattle.std.proofs.Common.{arith, rules}
use Rattle.std.proofs.lemmas.Iterator.{YieldsList-from_map, YieldsList-from_range, items_from_collect}
use Rattle.video.specs.Composition.{shape_of}
use Rattle.listing.specs.Looks.{glyph_byte, glyph_at}
use Rattle.listing.proofs.Columns.{columns_collected}
use Rattle.listing.proofs.column.RowWords.text.Goals as goal

pub returns : goal.returns
returns c =
    columns_collected (λ p. glyph_byte (glyph_at (shape_of c.args.self.now.composition.now) c.args.self.now.words.now p)) c.args.self.now.composition.now.columns _
    (items_from_collect _ c.collect.ensures.ran
    (YieldsList-from_map _ (λ p. glyph_byte (glyph_at (shape_of c.args.self.now.composition.now) c.args.self.now.words.now p))
    (YieldsList-from_range 0 c.args.self.now.composition.now.columns c.args.self.now.composition.now.columns c.map.ensures.source (omega arith)) c.map.ensures.closure (λ x r q k. search rules)))
