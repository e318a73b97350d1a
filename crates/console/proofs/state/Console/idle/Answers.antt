-- The clocks that were played at once lead where they lead one by one.
use Rattle.std.proofs.Common.{vec_items, ap, arith}
use Rattle.video.specs.Composition.{Shape, shape_of}
use Rattle.frame.specs.Ports.{Core, State}
use Rattle.console.specs.Raster.{core_of}
use Rattle.console.specs.Model.{shape_in, state_of}
use Rattle.console.specs.Steps.{with}
use Rattle.console.proofs.Runs.{run_on, fewer}
use Rattle.console.proofs.state.Console.idle.Goals as goal

pub returns : goal.returns
returns g c =
    let s : State = state_of c.args.self.now in
    let sh : Shape = shape_of c.in-Some.composition in
    let n = c.clocks_ahead-n.result in
    let few = fewer sh s.core c.idle_clocks-idle.result n (let a = c.drawn_clocks-drawn.ensures.most in let b = c.clocks_ahead-n.ensures.most in omega arith) c.idle_clocks-idle.ensures.idle in
    record {
      on = run_on n c.args.calls.now sh s (with s (core_of c.idle.new.self) s.flags) (g.S.Source.means c.args.source.now) (g.S.Source.means c.wait.new.self)
          (vec_items c.args.answers.now) (vec_items c.put_words.new.answers)
          (ap shape_in c.in-Some.is) few c.clocks_ahead-n.ensures.clocks
          (ap (λ (k : Core). with s k s.flags) c.idle.ensures.core) c.wait.ensures c.put_words.ensures.items;
      some = c.clocks_ahead-n.ensures.clocks.enough;
      room = c.put_words.ensures.room;
    }
