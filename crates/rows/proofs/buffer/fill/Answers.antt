use Rattle.std.proofs.Common.{sym, ap, ◌∙◌, arith}
use Rattle.rows.specs.Buffer.{Buffer, eat, took}
use Rattle.rows.specs.Takes.{burst_bytes}
use Rattle.rows.specs.Model.{buffer_of}
use Rattle.rows.proofs.Onward.{read_more, read_done, read_short}
use Rattle.rows.proofs.buffer.fill.Goals as goal

pub returns-then-full : goal.returns-then-full
returns-then-full c = record { fits = omega (arith, c.loop-b.invariant.0); row = read_done c.args.opaque (burst_bytes c.args.burst) c.loop-b.row c.args.part.now c.loop-b.b-index c.loop-b.invariant.0 (sym c.full.ensures ∙ c.if-full.true) ∙ c.loop-b.invariant.1 }

pub loop-b-preserved : goal.loop-b-preserved
unfolding eat took
loop-b-preserved c =
    let t = ap (λ (b : Buffer). b.take.taken) c.eat.ensures in (
      omega arith,
      read_more c.args.opaque (burst_bytes c.args.burst) (buffer_of c.loop-b.row) _ c.args.part.now c.loop-b.b-index c.loop-b-test.true (sym c.full.ensures ∙ c.if-full.false) c.eat.ensures
          ∙ c.loop-b.invariant.1,
    )

pub returns-then-full-2 : goal.returns-then-full-2
returns-then-full-2 c = record { fits = omega (arith, c.loop-b.invariant.0); row = read_done c.args.opaque (burst_bytes c.args.burst) c.loop-b.row c.args.part.now c.loop-b.b-index c.loop-b.invariant.0 (sym c.full-2.ensures ∙ c.if-full-2.true) ∙ c.loop-b.invariant.1 }

pub returns-else-full-2 : goal.returns-else-full-2
returns-else-full-2 c = record { fits = omega arith; row = read_short c.args.opaque (burst_bytes c.args.burst) c.loop-b.row c.args.part.now c.loop-b.b-index (omega arith) (sym c.full-2.ensures ∙ c.if-full-2.false) ∙ c.loop-b.invariant.1 }
