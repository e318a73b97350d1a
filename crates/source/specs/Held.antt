-- The meaning of each source's own data.
use Rattle.std.specs.Prelude.{ℕ, Bool, List, drop, vec_items}
use Rattle.source.specs.declared.page.Page.{Page}
use Rattle.source.specs.declared.paged.PagedBus.{PagedBus}
use Rattle.source.specs.declared.timing.Always.{Always}
use Rattle.source.specs.declared.cycle.Cycle.{Cycle}
use Rattle.source.specs.declared.stalls.Stalls.{Stalls}
use Rattle.source.specs.Meaning.{Meaning}
use Rattle.source.specs.Buses.{always, in_turn}
use Rattle.source.specs.Stalling.{outside}

-- a page in memory is handed out from its index on
abbrev pub bytes_of : Page → List ℕ
bytes_of p = vec_items p.bytes

abbrev pub rest_of : Page → List ℕ
rest_of p = drop p.at (vec_items p.bytes)

-- the clocks in which a timing lets the bus be free
abbrev pub turns_of : Cycle → ℕ → Bool
turns_of c = in_turn c.free c.busy c.gone

abbrev pub gaps_of : Stalls → ℕ → Bool
gaps_of s = outside (vec_items s.spans) s.count

-- a page, with its bus free as the timing has it
abbrev pub paged : {T : Type 0} → (T → ℕ → Bool) → PagedBus T → Meaning
paged free s = record { page = bytes_of s.page; rest = rest_of s.page; free = free s.timing }

abbrev pub free_bus : PagedBus Always → Meaning
free_bus s = paged (λ _. always) s

abbrev pub turn_bus : PagedBus Cycle → Meaning
turn_bus s = paged turns_of s

abbrev pub span_bus : PagedBus Stalls → Meaning
span_bus s = paged gaps_of s
