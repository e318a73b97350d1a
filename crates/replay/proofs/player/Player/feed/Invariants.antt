use Rattle.std.proofs.Common.{take, vec_items}
use Rattle.replay.specs.Model.{stage_of, held_of}
use Rattle.replay.specs.Prints.{Fed}
use Rattle.replay.proofs.player.Player.feed.Given as goal

-- the bytes so far have been fed
abbrev pub invariant-loop-byte : goal.invariant-loop-byte
invariant-loop-byte l =
    Fed (stage_of l.initial.self) (held_of l.initial.self) (take l.byte-index l.part) (vec_items l.initial.out) (stage_of l.self) (held_of l.self) (vec_items l.out)
