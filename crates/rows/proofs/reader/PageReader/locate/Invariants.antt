use Rattle.std.proofs.Common.{◌≡◌, ℕ, suc, ◌+◌, ◌≤◌, length}
use Rattle.video.specs.Composition.{shape_of}
use Rattle.rows.specs.Takes.{burst_bytes}
use Rattle.rows.specs.Stands.{Behind, Finds}
use Rattle.rows.proofs.reader.PageReader.locate.Given as goal

-- so many rows were read, and the last of them was found
abbrev pub invariant-loop-above : goal.invariant-loop-above
invariant-loop-above l =
    Behind (shape_of l.self.composition) (burst_bytes l.self.burst) l.self.page.now l.above (l.found.place + l.found.row.take.taken) l.found.row
    × (l.found.place + l.found.row.take.taken ≤ length l.self.page.now)
    × ((j : ℕ) → suc j ≡ l.above → Finds (shape_of l.self.composition) (burst_bytes l.self.burst) l.self.page.now j l.found.place l.found.row)
