-- Each turn plays one call more, or several clocks at once, and the law follows for them all.
use Rattle.std.proofs.Common.{List, vec_items, subst, arith}
use Rattle.frame.specs.declared.call.Answer.{Answer}
use Rattle.frame.proofs.Harmless.{harmless}
use Rattle.frame.proofs.Lawful.{frame_law}
use Rattle.console.specs.Model.{state_of}
use Rattle.console.specs.Playing.{Played}
use Rattle.console.proofs.Plays.{on_one, on_end, lawful}
use Rattle.console.proofs.state.Console.play.Goals as goal

pub loop-call-preserved-then-idle-eq0 : goal.loop-call-preserved-then-idle-eq0
loop-call-preserved-then-idle-eq0 g c =
    let i = c.idle-idle.ensures in
    let o = c.in-Some.ensures.cases in
    let room = c.loop-call.invariant.1 in (
      on_one c.idle-idle.result c.loop-call.rest.now _ c.in-Some.behind.now _ _ _ _ _ _ _ _ _ _ _ _ _ c.if-idle-eq0.true i.on c.loop-call.invariant.0
          o.0 c.record.ensures.state c.record.ensures.source c.record.ensures.items,
      (let a = i.room in let b = c.record.ensures.room in let n = o.1 in let z = c.if-idle-eq0.true in omega arith),
    )

pub returns : goal.returns
returns g c =
    let means = g.S.Source.means in
    let s = state_of c.args.self.now in
    let m = means c.args.source.now in
    let l = c.loop-call in
    let p : Played s m c.args.calls.now (vec_items c.args.answers.now) (state_of l.self) (means l.source) (vec_items l.answers) =
    subst (λ (out : List Answer). Played s m c.args.calls.now out (state_of l.self) (means l.source) (vec_items l.answers)) c.reserve.ensures.items
    (on_end _ (state_of l.self) (means l.source) (vec_items l.answers) c.args.calls.now s m (vec_items c.reserve.new.self) c.in_default.ensures.cases l.invariant.0) in
    record { played = p; law = lawful s m c.args.calls.now (vec_items c.args.answers.now) (state_of l.self) (means l.source) (vec_items l.answers) p; harmless = harmless; frames = frame_law }

pub returns-in_err-reserve-clause-harmless : goal.returns-in_err-reserve-clause-harmless
returns-in_err-reserve-clause-harmless g c = harmless

pub returns-in_err-reserve-clause-frames : goal.returns-in_err-reserve-clause-frames
returns-in_err-reserve-clause-frames g c = frame_law
