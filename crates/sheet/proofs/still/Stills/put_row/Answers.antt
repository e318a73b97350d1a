use Rattle.std.proofs.Common.{vec_items, ◌∙◌}
use Rattle.console.specs.Model.{state_of}
use Rattle.sheet.proofs.Rows.{few_bytes, row_listed}
use Rattle.sheet.proofs.still.Stills.put_row.Goals as goal

pub returns : goal.returns
returns c = record {
  few = few_bytes (state_of c.args.self.now.screen.now.console) c.args.self.now.page.now c.args.row c.in_ok-window.window.place c.in_ok-window.window.bytes.now c.in_ok-window.ensures;
  listed = λ h.
      row_listed c.args.self.now.screen.now c.args.self.now.page.now c.args.row
      c.in_ok-window.window.place c.in_ok-window.window.bytes.now c.as_slice.result.now
      (vec_items c.args.out.now) (vec_items c.put_still_figures.new.out) (vec_items c.put_rest.new.out)
      h c.in_ok-window.ensures (c.as_slice.ensures.value ∙ c.in_ok-still.ensures h)
      c.in_ok-put_still_figures.ensures c.in_ok-put_rest.ensures;
}
