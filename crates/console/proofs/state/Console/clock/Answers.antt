-- The steps of a clock, one behind another.
use Rattle.std.proofs.Common.{◌≡◌, Some, Ok, Option, sym, ap, ◌∙◌}
use Rattle.source.specs.Meaning.{Meaning}
use Rattle.video.specs.Composition.{Shape, shape_of}
use Rattle.frame.specs.Ports.{Core, State}
use Rattle.frame.specs.History.{clocked_by, source_by}
use Rattle.console.specs.Raster.{core_of, placed}
use Rattle.console.specs.Model.{shape_in, state_of}
use Rattle.console.specs.Answers.{clock_answer}
use Rattle.console.specs.Steps.{with, readied}
use Rattle.console.proofs.Joins.{clocks}
use Rattle.console.proofs.state.Console.clock.Goals as goal

-- the console once the row is drawn, which the rules do not see
readied_is : (c : Shape) (s p : State) (k : Core) → k ≡ p.core → p ≡ readied c s → with p k p.flags ≡ readied c s
readied_is c s p k e f = ap (λ (x : Core). with p x p.flags) e ∙ f

pub returns : goal.returns
returns g c =
    let s : State = state_of c.args.self.now in
    let m : Meaning = g.S.Source.means c.args.source.now in
    let sh : Shape = shape_of c.in_ok-composition.composition in
    let e : s.shape ≡ Some sh = ap shape_in c.in_ok-composition.ensures.ok_part in
    let p : State = state_of c.prepare.new.self in
    let k : Core = core_of c.store.new.self.parts.raster in
    let x = clocks sh s (with p (core_of c.draw_row.new.self) p.flags) (state_of c.store.new.self)
    m (g.S.Source.means c.prepare.new.source) (g.S.Source.means c.clock-came.new.self)
    (placed c.advance.new.self k) c.wants.result c.clock-came.result c.word-word.result
    (readied_is sh s p (core_of c.draw_row.new.self) c.draw_row.ensures.core c.prepare.ensures.state) c.prepare.ensures.source c.word-word.ensures c.wants.ensures c.clock-came.ensures.byte
    c.clock-came.ensures.after c.store.ensures (c.advance.ensures.moved k) in
    record {
      answer = ap Ok x.word ∙ sym (ap (λ (o : Option Shape). clock_answer o s) e);
      state = x.state ∙ sym (ap (λ (o : Option Shape). clocked_by o s m) e);
      source = x.source ∙ sym (ap (λ (o : Option Shape). source_by o s m) e);
    }
