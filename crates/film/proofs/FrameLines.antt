-- The lines of a frame's rows.
use Rattle.std.proofs.Common.{◌≡◌, ℕ, zero, suc, ◌-◌, ◌<◌, List, ◌++◌, Option, refl, ap, ◌∙◌, arith}
use Rattle.film.specs.declared.film.Film.{Film}
use Rattle.film.specs.declared.log.Log.{Log}
use Rattle.frame.specs.Ports.{status_byte}
use Rattle.console.specs.Model.{state_of}
use Rattle.layout.specs.Closing.{frame_total}
use Rattle.film.specs.FrameRows.{first_late, with_wanted_row, with_frame_rows, frame_listing}

pub frame_rows_none : (f : Film) (g : Log) (late only : Option ℕ) (out : List ℕ) → out ≡ with_frame_rows f g late only out 0
unfolding with_frame_rows
frame_rows_none f g late only out = refl

-- the wanted of rows 1 to j, behind those above row j
pub frame_rows_more : (f : Film) (g : Log) (late only : Option ℕ) (out o o₂ : List ℕ) (j : ℕ) → 0 < j → o ≡ with_frame_rows f g late only out (j - 1)
    → o₂ ≡ with_wanted_row f g late only j o → o₂ ≡ with_frame_rows f g late only out j
unfolding with_frame_rows
frame_rows_more f g late only out o o₂ zero h e n = absurd (omega arith)
frame_rows_more f g late only out o o₂ (suc i) h e n =
    let d : suc i - 1 ≡ i = omega arith in
    n ∙ ap (with_wanted_row f g late only (suc i)) (e ∙ ap (with_frame_rows f g late only out) d)

pub frame_closed : (f : Film) (page : List ℕ) (g : Log) (late only : Option ℕ) (out o₁ o₂ : List ℕ) (status : ℕ) → late ≡ first_late f.screen page g
    → status ≡ status_byte (state_of f.console) → o₁ ≡ with_frame_rows f g late only out f.screen.composition.rows
    → o₂ ≡ o₁ ++ frame_total status f.played late → o₂ ≡ frame_listing f page g only out
frame_closed f page g late only out o₁ o₂ status l s e h = h ∙ rw (e, l, s) refl
