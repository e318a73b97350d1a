-- A console as its firmware programmed it.
use Rattle.std.specs.Prelude.{◌≡◌, ℕ, ◌+◌, ◌<◌, ◌⊎◌, List, Some, None, Option}
use Rattle.refusal.specs.declared.Refusal.{Refusal}
use Rattle.refusal.specs.declared.Refusal.TheVariants.{OutOfMemory}
use Rattle.video.specs.Composition.{shape_of}
use Rattle.console.specs.Model.{state_of}
use Rattle.console.specs.Answers.{window_refused}
use Rattle.sheet.specs.declared.screen.Screen.{Screen}
use Rattle.sheet.specs.declared.stop.Stop.{Stop}

-- the composition beside the console is the console's
abbrev pub Composed : Screen → Type 0
Composed x = (state_of x.console).shape ≡ Some (shape_of x.composition)

-- why row j of a page is refused
abbrev pub row_refused : Screen → (page : List ℕ) → (row : ℕ) → Option Refusal
row_refused x page j = window_refused (state_of x.console).shape (state_of x.console).control.bursts.n page j

-- row j of a page is refused, or memory is wanting
abbrev pub RefusedRow : Screen → (page : List ℕ) → (row : ℕ) → Stop → Type 0
RefusedRow x page j e = ((e.row ≡ Some j) × (row_refused x page j ≡ Some e.refusal)) ⊎ (e.refusal ≡ OutOfMemory)

-- the same, and where row j is refused, nothing was written
abbrev pub StoppedRow : Screen → (page : List ℕ) → (row : ℕ) → Stop → (out out₂ : List ℕ) → Type 0
StoppedRow x page j e out out₂ = ((e.row ≡ Some j) × (row_refused x page j ≡ Some e.refusal) × (out₂ ≡ out)) ⊎ (e.refusal ≡ OutOfMemory)

abbrev pub memory_wanting : Stop
memory_wanting = record { row = None; refusal = OutOfMemory }

-- a listing stopped: a row of the screen is refused, and `above` says what was written of the rows above it; or memory is wanting
abbrev pub Stopped : Screen → (page : List ℕ) → (above : ℕ → List ℕ) → Stop → (out₂ : List ℕ) → Type 0
Stopped x page above e out₂ =
    ((i : ℕ) × (i < x.composition.rows) × (e.row ≡ Some (i + 1)) × (row_refused x page (i + 1) ≡ Some e.refusal) × (out₂ ≡ above i))
    ⊎ (e.refusal ≡ OutOfMemory)
