use Rattle.std.proofs.Common.{◌≡◌, drop}
use Rattle.rows.specs.Buffer.{reads}
use Rattle.rows.specs.Model.{buffer_of}
use Rattle.rows.specs.Takes.{burst_bytes}
use Rattle.rows.proofs.buffer.fill.Given as goal

abbrev pub invariant-loop-b : goal.invariant-loop-b
invariant-loop-b l =
    (l.row.take.taken ≡ l.b-index)
    × (reads l.opaque (burst_bytes l.burst) (buffer_of l.row) (drop l.b-index l.part) ≡ reads l.opaque (burst_bytes l.burst) (buffer_of l.initial.row) l.part)
