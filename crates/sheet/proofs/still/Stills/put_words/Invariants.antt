use Rattle.std.proofs.Common.{◌≡◌, ◌-◌, vec_items}
use Rattle.sheet.specs.Screens.{Composed}
use Rattle.sheet.specs.Stills.{with_words}
use Rattle.sheet.proofs.still.Stills.put_words.Given as goal

-- the words of the rows above are written
abbrev pub invariant-loop-row : goal.invariant-loop-row
invariant-loop-row l = Composed l.self.screen.now → vec_items l.out ≡ with_words l.self.screen.now l.self.page.now (vec_items l.initial.out) (l.row - 1)
