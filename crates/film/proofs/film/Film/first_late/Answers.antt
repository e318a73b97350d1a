use Rattle.std.proofs.Common.{◌-◌, rules, tests, arith}
use Rattle.film.specs.FrameRows.{late_row}
use Rattle.film.proofs.First.{first_by}
use Rattle.film.proofs.film.Film.first_late.Goals as goal

pub returns : goal.returns
returns c = λ h.
    let r = c.find.ensures.ran in
    let s = c.new.ensures in
    first_by (λ a b. b - a) (late_row c.args.self.now.screen c.args.page.now c.args.log.now) _ r.1 r.0 c.new.result r.2.0 _ c.find.result 0 c.args.self.now.screen.composition.rows
    (λ a b f. f) (λ x b q k. search (rules, tests)) (let b = c.args.self.now.screen.composition.rows_range in rw (s.start, s.end, s.exhausted) (omega arith)) (λ p. s.start) r.2.1 r.2.2 r.3 r.4
