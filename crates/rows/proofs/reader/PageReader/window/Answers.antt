-- The row that was found is the row's window.
use Rattle.std.proofs.Common.{◌≡◌, ℕ, ◌-◌, take, drop, sym, subst, arith}
use Rattle.video.specs.Composition.{shape_of}
use Rattle.rows.specs.Takes.{burst_bytes}
use Rattle.rows.specs.Refusals.{ends_refusal}
use Rattle.rows.specs.Laws.{Windowed}
use Rattle.rows.proofs.Granted.{windowed}
use Rattle.rows.proofs.reader.PageReader.window.Goals as goal

pub returns : goal.returns
returns c =
    let s = c.args.self.now in
    let n : ℕ = burst_bytes s.burst in
    let x = c.in-Some.found in
    let f = c.in-Some.ensures in
    let d : c.end-end.result - x.place ≡ x.row.take.taken = omega (arith, c.end-end.ensures) in
    subst (λ (m : ℕ). Windowed (shape_of s.composition) n s.page.now c.args.row x.place (take m (drop x.place s.page.now))) (sym d)
    (windowed (shape_of s.composition) n s.page.now c.args.row x.place x.row c.in_ok-check.ensures.there.0
    (c.in_ok-check.ensures.refused (ends_refusal (shape_of s.composition) n s.page.now c.args.row)) f.0 f.1)
