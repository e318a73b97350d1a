use Rattle.std.proofs.Common.{◌≡◌, ◌*◌, ◌++◌, drop}
use Rattle.std.specs.List.{flat_map}
use Rattle.replay.specs.Digits.{two, Takes}
use Rattle.replay.proofs.digits.put_line.Given as goal

-- printed so far and still to come are the whole
abbrev pub invariant-loop-byte : goal.invariant-loop-byte
invariant-loop-byte l =
    (l.out.items ++ flat_map two (drop l.byte-index l.bytes) ≡ l.initial.out.items ++ flat_map two l.bytes)
    × Takes l.initial.out l.out (2 * l.byte-index)
