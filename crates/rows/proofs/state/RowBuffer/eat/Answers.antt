use Rattle.std.proofs.Common.{[], ◌∷◌, refl}
use Rattle.rows.specs.Buffer.{puts}
use Rattle.rows.specs.Takes.{burst_bytes}
use Rattle.rows.specs.Model.{taken_of, shown_of}
use Rattle.rows.proofs.Steps.{eat_joined}
use Rattle.rows.proofs.state.RowBuffer.eat.Goals as goal

pub returns-in_default : goal.returns-in_default
unfolding puts
returns-in_default c =
    let s = c.args.self.now in
    eat_joined c.args.opaque (burst_bytes c.args.burst) (taken_of s.take) (shown_of s.show) c.args.b _ _ [] c.eat.ensures.state c.in_default.ensures.fills refl

pub returns-in-Some : goal.returns-in-Some
unfolding puts
returns-in-Some c =
    let s = c.args.self.now in
    eat_joined c.args.opaque (burst_bytes c.args.burst) (taken_of s.take) (shown_of s.show) c.args.b _ _ (c.in-Some.p ∷ []) c.eat.ensures.state c.in-Some.ensures.fills c.put.ensures.state
