use Rattle.std.proofs.Common.{vec_items}
use Rattle.std.proofs.lemmas.Result.{err_from_is_err_and}
use Rattle.replay.specs.Model.{stage_of, held_of}
use Rattle.replay.proofs.Feeding.{fed_kept}
use Rattle.replay.proofs.player.Player.feed.Goals as goal

pub returns-in_err-feed_byte : goal.returns-in_err-feed_byte
returns-in_err-feed_byte c =
    let l = c.loop-byte in
    let p = err_from_is_err_and c.from_residual.result c.from_residual.ensures.1 in
    let f = c.in_err-feed_byte.ensures in
    rw (p.1, p.2) (
      f.0,
      fed_kept (stage_of c.args.self.now) (stage_of l.self) (stage_of c.feed_byte.new.self) (held_of c.args.self.now) (held_of l.self) (held_of c.feed_byte.new.self)
          (vec_items c.args.out.now) (vec_items l.out) (vec_items c.feed_byte.new.out) c.args.part.now l.byte-index f.1.0 f.1.1 f.1.2 l.invariant,
    )
