-- A console by its parts.
use Rattle.std.specs.Prelude.{ℕ, ◌+◌, Bool, cond, ◌&&◌, Some, None, Option, nat_lt}
use Rattle.video.specs.Composition.{Shape, allowed}
use Rattle.frame.specs.Ports.{State}
use Rattle.console.specs.declared.state.Console.{Console}
use Rattle.console.specs.Bounds.{first}
use Rattle.console.specs.Model.{state_of}

-- the row times of a frame, the lines of a row time and the clocks of a line; 1 each without a composition
abbrev pub limits : Option Shape → ℕ × ℕ × ℕ
limits None = (1, 1, 1)
limits (Some c) = (c.r + c.v, c.l, c.h + c.z)

-- the counters lie inside their limits, and the first Reset parameter that is kept is allowed
abbrev pub inside : State → Bool
inside s =
    nat_lt s.core.row (limits s.shape).0 && (nat_lt s.core.line (limits s.shape).1 && (nat_lt s.core.column (limits s.shape).2 && (nat_lt s.core.blink 32 && allowed (first s.pending))))

-- the console that parts make, if they make one
abbrev pub settled : State → Option State
settled s = cond (inside s) (Some s) None

abbrev pub held : Option Console → Option State
held None = None
held (Some c) = Some (state_of c)
