use Rattle.std.proofs.Common.{◌≡◌, ◌-◌, ◌≤◌, ◌++◌, vec_items}
use Rattle.video.specs.Composition.{shape_of}
use Rattle.rows.specs.Model.{shown_of}
use Rattle.console.specs.Idle.{looked}
use Rattle.console.specs.Room.{Grown}
use Rattle.console.proofs.raster.Raster.put_looks.Given as goal

abbrev pub invariant-loop-p : goal.invariant-loop-p
invariant-loop-p l =
    let first = l.self.beam.column in
    (vec_items l.answers ≡ vec_items l.initial.answers ++ looked (shape_of l.composition) l.self.beam.line l.self.beam.blink (shown_of l.self.shown) l.base (l.p - first) first)
    × (first ≤ l.p) × Grown l.initial.answers l.answers (l.p - first)
