-- Late rows.
use Rattle.std.proofs.Common.{◌≡◌, ℕ, ◌-◌, ltb, List, length, Some, Option, sym, refl, ap, ◌∙◌}
use Rattle.refusal.specs.declared.Refusal.{Refusal}
use Rattle.video.specs.Composition.{shape_of}
use Rattle.console.specs.Model.{state_of}
use Rattle.console.specs.Answers.{WindowOf, window_refused}
use Rattle.film.specs.declared.log.Log.{Log}
use Rattle.film.specs.Logs.{came_in}
use Rattle.film.specs.FrameRows.{page_ends, late_by, late_row}
use Rattle.sheet.specs.Screens.{Composed, row_refused}
use Rattle.sheet.specs.Stills.{bytes_of}
use Rattle.sheet.specs.declared.screen.Screen.{Screen}
use Rattle.sheet.proofs.Rows.{windowed}

pub late_granted : (x : Screen) (page : List ℕ) (g : Log) (j came place : ℕ) (part : List ℕ) → Composed x → WindowOf (state_of x.console) page j place part
    → came ≡ (came_in g (j - 1)).bytes → ltb came (length part) ≡ late_row x page g j
unfolding late_row
late_granted x page g j came place part e w q =
    let v = windowed (shape_of x.composition) (state_of x.console) page j place part e w in
    ap (λ (n : ℕ). ltb n (length part)) q
    ∙ (ap (λ (t : List ℕ). ltb (came_in g (j - 1)).bytes (length t)) v.takes
    ∙ ap (λ (o : Option Refusal). late_by o (came_in g (j - 1)).bytes (length (bytes_of x page j))) (sym v.granted))

pub late_refused : (x : Screen) (page : List ℕ) (g : Log) (j : ℕ) (r : Refusal) → Composed x → row_refused x page j ≡ Some r → page_ends r ≡ late_row x page g j
unfolding late_row
late_refused x page g j r e w =
    let v : window_refused (Some (shape_of x.composition)) (state_of x.console).control.bursts.n page j ≡ Some r = rw e at w in
    ap (λ (o : Option Refusal). late_by o (came_in g (j - 1)).bytes (length (bytes_of x page j))) (sym v)
