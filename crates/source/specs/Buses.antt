-- The clocks in which a bus is free.
use Rattle.std.specs.Prelude.{ℕ, ◌+◌, ◌%◌, Bool, true, ◌&&◌, ◌==◌, nat_lt}

abbrev pub always : ℕ → Bool
always n = true

-- free for the first a of every a + b clocks, of which some are gone
abbrev pub in_turn : ℕ → ℕ → ℕ → ℕ → Bool
in_turn a b gone n = nat_lt ((gone + n) % (a + b)) a

-- a turn of no clocks at all
abbrev pub no_turn : ℕ → ℕ → Bool
no_turn a b = a == 0 && b == 0
