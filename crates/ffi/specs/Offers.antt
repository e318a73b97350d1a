-- A byte that is offered for one clock.
use Rattle.std.specs.Prelude.{ℕ, Bool, true, false, cond, not, ◌&&◌, List, [], ◌∷◌, Some, None, Option}
use Rattle.source.specs.Meaning.{Meaning, filled}
use Rattle.source.specs.Buses.{always}
use Rattle.ffi.specs.declared.offered.Offered.{Offered}
use Rattle.mirror.specs.Codes.{flag}

abbrev pub bytes_in : Option ℕ → List ℕ
bytes_in None = []
bytes_in (Some b) = b ∷ []

-- a page of that byte, or of none, on a bus that is always free
abbrev pub offer_of : Offered → Meaning
offer_of o = record { page = bytes_in o.byte; rest = bytes_in o.left; free = always }

abbrev pub offer : Option ℕ → Meaning
offer o = filled (bytes_in o) always

-- there was a byte, and it has been handed out
abbrev pub empty : List ℕ → Bool
empty [] = true
empty (b ∷ bs) = false

abbrev pub gone : Meaning → Bool
gone m = not (empty m.page) && empty m.rest

-- a byte, if one is offered
abbrev pub offered : (offers byte : ℕ) → Option ℕ
offered offers b = cond (flag offers) (Some b) None
