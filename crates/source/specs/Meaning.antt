-- What a byte source means, and what begin and a clock make of it.
use Rattle.std.specs.Prelude.{ℕ, suc, Bool, cond, ◌&&◌, List, [], ◌∷◌, Some, None, Option}

-- the page, the bytes still to be handed out, and whether the bus is free at each coming clock, the next being clock 0
pub record Meaning : Type 0 where
  pub page : List ℕ
  pub rest : List ℕ
  pub free : ℕ → Bool

-- the first byte, if there is one
abbrev pub first_of : List ℕ → Option ℕ
first_of [] = None
first_of (b ∷ bs) = Some b

-- the bytes behind the first
abbrev pub behind_first : List ℕ → List ℕ
behind_first [] = []
behind_first (b ∷ bs) = bs

-- a byte is handed out only where it is wanted in a free clock
abbrev pub handed : Bool → Bool → List ℕ → Option ℕ
handed wanted free_now rest = cond (wanted && free_now) (first_of rest) None

-- and the rest shortens by what is handed out
abbrev pub left : Bool → Bool → List ℕ → List ℕ
left wanted free_now rest = cond (wanted && free_now) (behind_first rest) rest

-- begin makes the rest the whole page
abbrev pub begun : Meaning → Meaning
begun m = record { page = m.page; rest = m.page; free = m.free }

-- what a clock answers
abbrev pub answer : Meaning → Bool → Option ℕ
answer m wanted = handed wanted (m.free 0) m.rest

-- a clock on, what was true of clock n + 1 is true of clock n
abbrev pub later : (ℕ → Bool) → ℕ → Bool
later free n = free (suc n)

abbrev pub clocked : Meaning → Bool → Meaning
clocked m wanted = record { page = m.page; rest = left wanted (m.free 0) m.rest; free = later m.free }

-- a page that is still to be handed out whole
abbrev pub filled : List ℕ → (ℕ → Bool) → Meaning
filled page free = record { page = page; rest = page; free = free }
