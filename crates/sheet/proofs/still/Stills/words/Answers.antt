use Rattle.std.proofs.Common.{arith, rules}
use Rattle.sheet.proofs.Words.{still_is}
use Rattle.sheet.proofs.still.Stills.words.Goals as goal

pub returns : goal.returns
returns c = λ h.
    let b = c.args.self.now.screen.now.composition.columns_range in
    still_is c.args.self.now.screen.now c.args.self.now.page.now c.args.row c.in_ok-still.still.len _
    c.still.new.out c.in_ok-still.still.items (omega arith) h (search rules) c.as_mut_slice.ensures.len (search rules)
