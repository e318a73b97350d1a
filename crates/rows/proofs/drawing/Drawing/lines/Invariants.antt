use Rattle.std.proofs.Common.{◌≡◌, ℕ, suc, ◌+◌, ◌*◌, ◌<◌, ◌≤◌, List, length, get_or}
use Rattle.video.specs.Composition.{shape_of, width}
use Rattle.rows.specs.Page.{picture}
use Rattle.rows.specs.Stands.{Finds}
use Rattle.rows.proofs.drawing.Drawing.lines.Given as goal

abbrev pub invariant-loop-line : goal.invariant-loop-line
invariant-loop-line l =
    (length l.out ≡ length l.initial.out)
    × ((n : ℕ) (page : List ℕ) → Finds (shape_of l.self.composition) n page l.self.above l.self.found.now.place l.self.found.now.row
    → (k p : ℕ) → k < l.line → p < width (shape_of l.self.composition)
    → get_or l.out (k * width (shape_of l.self.composition) + p) 0 ≡ picture (shape_of l.self.composition) n page l.self.cursor l.self.blink (suc l.self.above) k p)
    × ((i : ℕ) → l.self.composition.lines * width (shape_of l.self.composition) ≤ i → get_or l.out i 0 ≡ get_or l.initial.out i 0)
