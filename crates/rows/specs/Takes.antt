-- What a row takes.
use Rattle.std.specs.Prelude.{ℕ, ◌+◌, ◌%◌, Bool, cond, not, ◌&&◌, ◌||◌, List, [], ◌∷◌, length, take, ◌==◌, nat_le, nat_lt}
use Rattle.rows.specs.declared.kinds.Position.{Position}
use Rattle.rows.specs.Lists.{upto, some}
use Rattle.rows.specs.Positions.{positions, stops, width}
use Rattle.rows.specs.declared.burst.BurstSize.{BurstSize}
use Rattle.rows.specs.declared.burst.BurstSize.TheVariants.{One, Two, Four, Eight}

-- N, the bytes of a burst
abbrev pub burst_bytes : BurstSize → ℕ
burst_bytes One = 1
burst_bytes Two = 2
burst_bytes Four = 4
burst_bytes Eight = 8

-- a row's positions, of the bytes from its first on: the first h, cut behind the first stop code
abbrev pub row_positions : (f : Bool) (h : ℕ) → List ℕ → List Position
row_positions f h bs = upto stops (take h (positions f bs))

-- how many bytes positions took
abbrev pub size : List Position → ℕ
size [] = 0
size (p ∷ ps) = width p + size ps

-- a stop code ended the row before it was full
abbrev pub cut_short : (h : ℕ) → List Position → Bool
cut_short h ps = nat_lt (length ps) h && some stops ps

-- one more byte is dropped behind a stop code that cut the row short, unless the stop code was its burst's last;
-- k bytes were taken before these positions
abbrev pub dropped : (n h k : ℕ) → List Position → ℕ
dropped n h k ps = cond (cut_short h ps && not ((k + size ps) % n == 0)) 1 0

-- how many bytes the row takes
abbrev pub count : (n h : ℕ) → List Position → ℕ
count n h ps = size ps + dropped n h 0 ps

-- the bytes suffice for the row
abbrev pub enough : (n h : ℕ) → List Position → List ℕ → Bool
enough n h ps bs = (nat_le h (length ps) || some stops ps) && nat_le (count n h ps) (length bs)
