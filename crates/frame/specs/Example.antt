-- The law's hypotheses are met: a frame with no late row, and one with a late row.
use Rattle.std.specs.Prelude.{◌≡◌, ℕ, zero, suc, Bool, List, [], ◌∷◌, nat_le}
use Rattle.source.specs.Meaning.{Meaning, filled}
use Rattle.video.specs.Composition.{Shape, composed}
use Rattle.frame.specs.declared.call.Call.{Call}
use Rattle.frame.specs.declared.call.Call.TheVariants.{Command, Parameter, Clock}
use Rattle.frame.specs.Ports.{new}
use Rattle.frame.specs.Timing.{total, in_time}
use Rattle.frame.specs.History.{Moment, after, over}
use Rattle.frame.specs.Law.{Ready, Quiet, Found, clocks}

-- two columns, two clocks of retrace, one line, one row, one row time of retrace
abbrev pub tiny : Shape
tiny = composed 0x01 0x00 0x00 0x40

-- two bytes on a bus that is free from a clock on
abbrev pub held_until : (clock : ℕ) → Meaning
held_until clock = filled (0x41 ∷ 0x42 ∷ []) (λ t. nat_le clock t)

-- what the firmware writes: Reset, its parameters, Start
abbrev pub start_up : Meaning → List Moment
start_up m =
    record { call = Command 0x00; found = m } ∷ record { call = Parameter 0x01; found = m } ∷ record { call = Parameter 0x00; found = m }
    ∷ record { call = Parameter 0x00; found = m } ∷ record { call = Parameter 0x40; found = m } ∷ record { call = Command 0x20; found = m } ∷ []

abbrev pub clock_calls : (n : ℕ) → List Call
clock_calls zero = []
clock_calls (suc n) = Clock ∷ clock_calls n

-- a whole frame of clocks behind the start_up
abbrev pub frame_over : Meaning → List Moment
frame_over m = over (clock_calls (total tiny)) (after (start_up m) new) m

-- every hypothesis of the law holds of that frame, and the one row is in time or not
pub record Met (clock : ℕ) (timely : Bool) : Type 0 where
  pub ready : Ready tiny (after (start_up (held_until clock)) new)
  pub quiet : Quiet (frame_over (held_until clock)) (after (start_up (held_until clock)) new)
  pub found : Found (held_until clock).page (held_until clock).free 0 [] (frame_over (held_until clock)) (after (start_up (held_until clock)) new)
  pub whole : clocks (frame_over (held_until clock)) ≡ total tiny
  pub row : in_time tiny (after (start_up (held_until clock)) new).control.bursts (held_until clock).page (held_until clock).free 1 ≡ timely
