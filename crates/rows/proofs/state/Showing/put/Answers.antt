use Rattle.std.proofs.Common.{◌≡◌, suc, ◌+◌, sym, refl, ap, ◌∙◌, arith}
use Rattle.rows.specs.Buffer.{stored, counted}
use Rattle.rows.proofs.Steps.{put_joined, stored_rest}
use Rattle.rows.proofs.state.Showing.put.Goals as goal

pub returns-in-Pair : goal.returns-in-Pair
returns-in-Pair c =
    let s = c.args.self.now in
    let e = c.in-Pair.is in
    let one : s.pairs + 1 ≡ suc s.pairs = omega arith in
    record {
      state = put_joined s.columns s.len s.ring s.pairs s.field s.ended s.below c.args.p _ _ _ _ _ _ s.hidden
          (omega arith) c.column.ensures (sym (ap (stored s.ring s.pairs) e)) (one ∙ sym (ap (counted s.pairs) e))
          c.in_force-self.ensures c.ends.ensures c.ends_screen.ensures;
      len = refl;
    }

pub returns-in_default : goal.returns-in_default
returns-in_default c =
    let s = c.args.self.now in
    let same = stored_rest s.ring s.pairs c.args.p c.in_default.not-Pair in
    record {
      state = put_joined s.columns s.len s.ring s.pairs s.field s.ended s.below c.args.p _ _ _ _ _ _ s.hidden
          (omega arith) c.column.ensures same.0 same.1 c.in_force-self.ensures c.ends.ensures c.ends_screen.ensures;
      len = refl;
    }
