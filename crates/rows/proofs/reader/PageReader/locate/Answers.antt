use Rattle.std.proofs.Common.{◌≡◌, suc, ◌-◌, false, ap, add-one, arith}
use Rattle.video.specs.Composition.{shape_of}
use Rattle.rows.specs.Takes.{burst_bytes}
use Rattle.rows.specs.Buffer.{Buffer}
use Rattle.rows.specs.Model.{shown_of}
use Rattle.rows.proofs.Chain.{at_top}
use Rattle.rows.proofs.Rows.{ends_early}
use Rattle.rows.proofs.reader.PageReader.locate.Goals as goal

pub loop-above-init : goal.loop-above-init
loop-above-init c =
    let s = c.args.self.now in
    let e = c.top.ensures in
    let taken : c.top.result.take.taken ≡ 0 = ap (λ (x : Buffer). x.take.taken) e in
    let over : c.top.result.take.over ≡ false = ap (λ (x : Buffer). x.take.over) e in
    (rw (taken, over) (at_top (shape_of s.composition) (burst_bytes s.burst) s.page.now (shown_of c.top.result.show) (ap (λ (x : Buffer). x.show.field) e) (ap (λ (x : Buffer). x.show.below) e)), omega arith, λ j z. absurd (omega arith))

pub returns-in_err-next_row : goal.returns-in_err-next_row
returns-in_err-next_row c =
    let s = c.args.self.now in
    let r = c.requires in
    rw c.from_residual.ensures (ends_early (shape_of s.composition) (burst_bytes s.burst) s.page.now c.loop-above.above (c.args.row - 1) (omega arith) (c.in_err-next_row.ensures c.loop-above.invariant.0))

pub loop-above-preserved : goal.loop-above-preserved
loop-above-preserved c =
    let g = c.in_ok-next_row.ensures c.loop-above.invariant.0 in
    (rw add-one g.0, g.1.within, λ j z. let e : j ≡ c.loop-above.above = omega arith in rw e g.1)

pub returns : goal.returns
returns c =
    let i = c.loop-above.invariant in
    let r = c.requires in
    let e : suc (c.args.row - 1) ≡ c.loop-above.above = omega arith in
    (rw e i.0.whole, i.2 (c.args.row - 1) e)
