use Rattle.std.proofs.lemmas.Result.{MatchResult-weaker}
use Rattle.replay.proofs.player.feed.many_clocks.Goals as goal

pub returns : goal.returns
returns c = MatchResult-weaker c.vec.result c.vec.ensures.items_if_clones_equal (λ v f. f (λ y e. e)) (λ e p. p)
