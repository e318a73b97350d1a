-- A bus that is busy in spans of clocks.
use Rattle.std.specs.Prelude.{ℕ, ◌+◌, min, Bool, not, ◌&&◌, ◌||◌, List, length, nat_le, nat_lt}
use Rattle.std.specs.List.{list_any, list_all}
use Rattle.source.specs.declared.stalls.Span.{Span}

-- from the first clock on, for as many as the length
abbrev pub covers : Span → ℕ → Bool
covers s t = nat_le s.first t && nat_lt t (s.first + s.length)

-- some span has the clock
abbrev pub busy_in : List Span → ℕ → Bool
busy_in spans t = list_any (λ s. covers s t) spans

-- free in the n-th clock from a count, which stops at its largest
abbrev pub outside : List Span → ℕ → ℕ → Bool
outside spans count n = not (busy_in spans (min (count + n) 4294967295))

-- both figures are below the limit
abbrev pub small : Span → Bool
small s = nat_lt s.first 2147483648 && nat_lt s.length 2147483648

abbrev pub all_small : List Span → Bool
all_small spans = list_all small spans

-- too many spans, or one with a figure too large
abbrev pub bad_spans : List Span → Bool
bad_spans spans = nat_lt 256 (length spans) || not (all_small spans)
