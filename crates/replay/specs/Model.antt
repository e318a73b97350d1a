-- What the library's data stand for.
use Rattle.std.specs.Prelude.{ℕ, List, Some, None, Option, vec_items, is_some, option_map}
use Rattle.source.specs.Meaning.{Meaning, filled}
use Rattle.source.specs.Buses.{always}
use Rattle.source.specs.Held.{free_bus}
use Rattle.console.specs.Model.{state_of}
use Rattle.replay.specs.declared.machine.Machine.{Machine}
use Rattle.replay.specs.declared.player.Player.{Player}
use Rattle.replay.specs.Desk.{Desk}
use Rattle.replay.specs.Prints.{Stage}

-- while there is no bus the page is still to be handed out whole
abbrev pub source_of : Option Meaning → (page : List ℕ) → Meaning
source_of (Some bus) page = bus
source_of None page = filled page always

-- a bus is made when the page is closed
abbrev pub desk_of : Machine → Desk
desk_of m =
    record { console = state_of m.console; source = source_of (option_map free_bus m.bus) (vec_items m.page); page = vec_items m.page; closed = is_some m.bus }

abbrev pub stage_of : Player → Stage
stage_of p = record { desk = desk_of p.machine; number = p.number }

-- the characters of a line that has not ended
abbrev pub held_of : Player → List ℕ
held_of p = vec_items p.held
