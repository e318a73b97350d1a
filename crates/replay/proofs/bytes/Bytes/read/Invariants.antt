use Rattle.std.proofs.Common.{◌≡◌, ◌+◌, ◌*◌, ◌≤◌, ◌++◌, length, position, None}
use Rattle.arrayvec.specs.ArrayVec.{array_vec_len}
use Rattle.replay.specs.Digits.{bad, bytes_of}
use Rattle.replay.proofs.bytes.Bytes.read.Given as goal

-- the bytes so far, and those that are still to come, are those of the line
abbrev pub invariant-loop-rest : goal.invariant-loop-rest
invariant-loop-rest l =
    (l.bytes.items ++ bytes_of l.rest ≡ bytes_of l.digits)
    × (2 * array_vec_len l.bytes + length l.rest ≤ 64)
    × (position bad l.rest ≡ None)

abbrev pub decreases-loop-rest : goal.decreases-loop-rest
decreases-loop-rest l = length l.rest
