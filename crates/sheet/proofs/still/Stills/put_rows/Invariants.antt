use Rattle.std.proofs.Common.{◌≡◌, ◌-◌, ◌*◌, ◌<◌, ◌≤◌, vec_items}
use Rattle.sheet.specs.Screens.{Composed}
use Rattle.sheet.specs.Stills.{tally, with_rows}
use Rattle.sheet.proofs.still.Stills.put_rows.Given as goal

-- the rows above are counted and written
abbrev pub invariant-loop-row : goal.invariant-loop-row
invariant-loop-row l =
    (l.tally.shown < l.row) × (l.tally.used ≤ 16384 * (l.row - 1))
    × (Composed l.self.screen.now → (l.tally ≡ tally l.self.screen.now l.self.page.now (l.row - 1))
    × (vec_items l.out ≡ with_rows l.self.screen.now l.self.page.now (vec_items l.initial.out) (l.row - 1)))
