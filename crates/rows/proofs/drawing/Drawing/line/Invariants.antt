use Rattle.std.proofs.Common.{◌≡◌, ℕ, suc, ◌<◌, List, length, get_or}
use Rattle.video.specs.Composition.{shape_of}
use Rattle.rows.specs.Page.{picture}
use Rattle.rows.specs.Stands.{Finds}
use Rattle.rows.proofs.drawing.Drawing.line.Given as goal

abbrev pub invariant-loop-p : goal.invariant-loop-p
invariant-loop-p l =
    (length l.out ≡ length l.initial.out)
    × ((n : ℕ) (page : List ℕ) → Finds (shape_of l.self.composition) n page l.self.above l.self.found.now.place l.self.found.now.row
    → (q : ℕ) → q < l.p → get_or l.out q 0 ≡ picture (shape_of l.self.composition) n page l.self.cursor l.self.blink (suc l.self.above) l.line q)
