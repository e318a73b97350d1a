-- Runs of clocks over any source.
use Rattle.std.specs.Prelude.{◌≡◌, ℕ, zero, suc, ◌+◌, ◌<◌, Bool, false, cond, List, [], ◌∷◌, length, take, drop, Some, None, Option, slice_index_or}
use Rattle.source.specs.Meaning.{Meaning, first_of}

-- how many of the first n clocks are free
abbrev pub frees : (ℕ → Bool) → ℕ → ℕ
frees free zero = 0
frees free (suc n) = cond (free n) (suc (frees free n)) (frees free n)

-- the bytes among some answers
abbrev pub bytes_in : List (Option ℕ) → List ℕ
bytes_in [] = []
bytes_in (None ∷ os) = bytes_in os
bytes_in (Some b ∷ os) = b ∷ bytes_in os

-- n clocks on, with no byte handed out
abbrev pub waited : ℕ → Meaning → Meaning
waited n m = record { page = m.page; rest = m.rest; free = λ k. m.free (n + k) }

-- what came in clocks that were wanted throughout, from m to m'
pub record Drained (m m' : Meaning) (came : List (Option ℕ)) : Type 0 where
  -- the front of the rest, one byte for each free clock while any are left
  pub front : bytes_in came ≡ take (frees m.free (length came)) m.rest
  -- each in its own free clock
  pub each : (k : ℕ) → k < length came → slice_index_or came k None ≡ cond (m.free k) (first_of (drop (frees m.free k) m.rest)) None
  pub busy : (k : ℕ) → k < length came → m.free k ≡ false → slice_index_or came k None ≡ None
  pub after : m' ≡ record { page = m.page; rest = drop (frees m.free (length came)) m.rest; free = λ k. m.free (length came + k) }
