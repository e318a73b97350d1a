-- What the lines play on, and what a request makes of it.
use Rattle.std.specs.Prelude.{ℕ, Bool, true, false, List, [], ◌∷◌, ◌++◌, replicate, Ok, Err, Result}
use Rattle.source.specs.Meaning.{Meaning, filled}
use Rattle.source.specs.Buses.{always}
use Rattle.frame.specs.declared.call.Call.{Call}
use Rattle.frame.specs.declared.call.Call.TheVariants.{Clock}
use Rattle.frame.specs.declared.call.Answer.{Answer}
use Rattle.frame.specs.declared.call.Answer.TheVariants.{Done}
use Rattle.frame.specs.Ports.{State}
use Rattle.frame.specs.Ports.{new as new_console}
use Rattle.frame.specs.History.{after, answers, over, source_after}
use Rattle.replay.specs.declared.faults.Fault.{Fault}
use Rattle.replay.specs.declared.requests.Request.{Request}
use Rattle.replay.specs.declared.requests.Request.TheVariants.{Single, Clocks, Page}

-- a console over a source whose bus is always free, the page so far, and whether it is closed
pub record Desk : Type 0 where
  pub console : State
  pub source : Meaning
  pub page : List ℕ
  pub closed : Bool

abbrev pub new_desk : Desk
new_desk = record { console = new_console; source = filled [] always; page = []; closed = false }

-- calls close the page
abbrev pub called : List Call → Desk → Desk
called cs d =
    record { console = after (over cs d.console d.source) d.console; source = source_after cs d.console d.source; page = d.page; closed = true }

abbrev pub replies : List Call → Desk → List Answer
replies cs d = answers (over cs d.console d.source) d.console

-- page bytes go to the page's end
abbrev pub added : List ℕ → Desk → Desk
added bytes d = record { console = d.console; source = filled (d.page ++ bytes) always; page = d.page ++ bytes; closed = d.closed }

-- what a request makes of the desk, and what is answered
abbrev pub performed : Request → Desk → Desk
performed (Single c) d = called (c ∷ []) d
performed (Clocks n) d = called (replicate n Clock) d
performed (Page bytes) d = added bytes d

abbrev pub answered : Request → Desk → List Answer
answered (Single c) d = replies (c ∷ []) d
answered (Clocks n) d = replies (replicate n Clock) d
answered (Page bytes) d = Done ∷ []

-- a faulty line alters nothing
abbrev pub followed : Result Request Fault → Desk → Desk
followed (Ok q) d = performed q d
followed (Err f) d = d

abbrev pub answers_to : Result Request Fault → Desk → List Answer
answers_to (Ok q) d = answered q d
answers_to (Err f) d = []
