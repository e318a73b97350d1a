-- A frame begins, a row time begins, or neither.
use Rattle.std.proofs.Common.{sym}
use Rattle.video.specs.Composition.{shape_of}
use Rattle.console.specs.Model.{state_of}
use Rattle.console.proofs.Joins.{frame_begins, row_begins, none_begins}
use Rattle.console.proofs.state.Console.prepare.Goals as goal

pub returns-then-self-eq0 : goal.returns-then-self-eq0
returns-then-self-eq0 g c =
    let x = frame_begins (shape_of c.args.composition.now) (state_of c.args.self.now) (state_of c.request_interrupt.new.self) (state_of c.open_frame.new.self)
    (g.S.Source.means c.args.source.now) (g.S.Source.means c.open_frame.new.source)
    c.request_interrupt.ensures (sym c.if-begins.ensures) c.if-self-eq0.true c.open_frame.ensures.state c.open_frame.ensures.source in
    record { state = x.0; source = x.1 }

pub returns-else-self-eq0 : goal.returns-else-self-eq0
returns-else-self-eq0 g c =
    let x = row_begins (shape_of c.args.composition.now) (state_of c.args.self.now) (state_of c.request_interrupt.new.self) (state_of c.open_row.new.self)
    (g.S.Source.means c.args.source.now)
    c.request_interrupt.ensures (sym c.if-begins.ensures) c.if-self-eq0.false c.open_row.ensures in
    record { state = x.0; source = x.1 }

pub returns-else-begins : goal.returns-else-begins
returns-else-begins g c =
    let x = none_begins (shape_of c.args.composition.now) (state_of c.args.self.now) (state_of c.request_interrupt.new.self) (g.S.Source.means c.args.source.now)
    c.request_interrupt.ensures (sym c.if-begins.ensures) in
    record { state = x.0; source = x.1 }
