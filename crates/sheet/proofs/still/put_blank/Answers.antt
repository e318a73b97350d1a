use Rattle.std.proofs.Common.{vec_items}
use Rattle.layout.specs.Lines.{under, still_heading}
use Rattle.sheet.proofs.Rows.{behind_heading}
use Rattle.sheet.proofs.still.put_blank.Goals as goal

pub returns : goal.returns
returns c =
    behind_heading (vec_items c.args.out.now) (under still_heading (vec_items c.args.out.now)) _ _
    c.in_ok-put_still_figures.ensures c.in_ok-extend_from_slice.ensures.items
