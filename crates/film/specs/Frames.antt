-- Frames that a console plays over a source.
use Rattle.std.specs.Prelude.{◌≡◌, ◌+◌, ◌-◌, ◌^◌, min, [], length, replicate, vec_items}
use Rattle.source.specs.Meaning.{Meaning}
use Rattle.video.specs.Composition.{shape_of}
use Rattle.frame.specs.declared.call.Call.TheVariants.{Clock}
use Rattle.console.specs.Model.{state_of}
use Rattle.console.specs.Playing.{Played}
use Rattle.film.specs.declared.film.Film.{Film}
use Rattle.sheet.specs.declared.screen.Screen.{Screen}
use Rattle.sheet.specs.Rasters.{frame_clocks}

-- a film of a screen, before its first frame
pub record NewFilm (x : Screen) (f : Film) : Type 0 where
  pub screen : f.screen ≡ x
  pub console : f.console ≡ x.console
  pub clocks : vec_items f.clocks ≡ replicate (frame_clocks (shape_of x.composition)) Clock
  pub answers : vec_items f.answers ≡ []
  pub played : f.played ≡ 0

-- a frame played over m: console, source and every answer are those of the rules
pub record Framed (f : Film) (m : Meaning) (f₂ : Film) (m₂ : Meaning) : Type 0 where
  pub screen : f₂.screen ≡ f.screen
  pub clocks : vec_items f₂.clocks ≡ vec_items f.clocks
  pub frame : Played (state_of f.console) m (vec_items f.clocks) [] (state_of f₂.console) m₂ (vec_items f₂.answers)
  pub played : f₂.played ≡ min (f.played + length (vec_items f.clocks)) (2 ^ 64 - 1)

-- memory was wanting: nothing was played, and there is no answer
pub record Unplayed (f f₂ : Film) : Type 0 where
  pub screen : f₂.screen ≡ f.screen
  pub console : f₂.console ≡ f.console
  pub answers : vec_items f₂.answers ≡ []
  pub played : f₂.played ≡ f.played
