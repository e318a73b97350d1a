-- What the calls of a console answer.
use Rattle.std.specs.Prelude.{ℕ, List, Some, None, Ok, Err, Option, Result}
use Rattle.refusal.specs.declared.Refusal.{Refusal}
use Rattle.refusal.specs.declared.Refusal.TheVariants.{NoComposition}
use Rattle.video.specs.Composition.{Shape}
use Rattle.rows.specs.Refusals.{window_refusal, still_refusal}
use Rattle.rows.specs.Laws.{Windowed, Still}
use Rattle.frame.specs.Ports.{State}
use Rattle.frame.specs.Machine.{clock_word}

-- a call that is refused or gives nothing but its effect
abbrev pub answer : Option Refusal → Result (Unit {0}) Refusal
answer None = Ok tt
answer (Some e) = Err e

-- without a composition there is no row
abbrev pub window_refused : Option Shape → (n : ℕ) → List ℕ → (row : ℕ) → Option Refusal
window_refused None n page j = Some NoComposition
window_refused (Some c) n page j = window_refusal c n page j

abbrev pub still_refused : Option Shape → (n : ℕ) → List ℕ → (row size : ℕ) → Option Refusal
still_refused None n page j size = Some NoComposition
still_refused (Some c) n page j size = still_refusal c n page j size

-- P of the composition, which is there
abbrev pub With : Option Shape → (Shape → Type 0) → Type 0
With None P = ⊥
With (Some c) P = P c

-- the window of row j of a page, by a console's composition and latest burst size
abbrev pub WindowOf : State → List ℕ → (row place : ℕ) → List ℕ → Type 0
WindowOf s page j place part = With s.shape (λ c. Windowed c s.control.bursts.n page j place part)

-- the still of row j of a page, at a console's cursor and blink count, put into `out`, which became `out₂`
abbrev pub StillOf : State → List ℕ → (row : ℕ) → (out out₂ : List ℕ) → Type 0
StillOf s page j out out₂ = With s.shape (λ c. Still c s.control.bursts.n page s.cursor s.core.blink j out out₂)

-- the word of a clock, or a refusal
abbrev pub clock_answer : Option Shape → State → Result ℕ Refusal
clock_answer None s = Err NoComposition
clock_answer (Some c) s = Ok (clock_word c s)

-- without a composition no pen stroke is kept
abbrev pub stroke_refusal : Option Shape → Option Refusal
stroke_refusal None = Some NoComposition
stroke_refusal (Some c) = None
