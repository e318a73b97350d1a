use Rattle.std.proofs.Common.{◌≡◌, ◌++◌, vec_items}
use Rattle.console.specs.Idle.{repeated}
use Rattle.console.specs.Room.{Grown}
use Rattle.console.proofs.raster.idle.repeat.Given as goal

abbrev pub invariant-loop : goal.invariant-loop
invariant-loop l = (vec_items l.answers ≡ vec_items l.initial.answers ++ repeated l.word l.counter) × Grown l.initial.answers l.answers l.counter
