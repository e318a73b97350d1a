-- Each case computes.
use Rattle.std.proofs.Common.{refl}
use Rattle.rows.specs.Page.{taking_at, row, effects, screen_over, row_cell}
use Rattle.frame.specs.Timing.{line_clocks, span, total, seek, first_free, opens, takes, late}
use Rattle.frame.proofs.law.worked_cases.Goals as goal

pub returns : goal.returns
unfolding taking_at row effects screen_over row_cell line_clocks span total seek first_free opens takes late
returns c =
    record {
      widest = refl;
      too_wide = refl;
      clocks = refl;
      first_byte = refl;
      second_byte = refl;
      third_byte = refl;
      fourth_byte = refl;
      timely = refl;
      tardy = refl;
      drops = refl;
      last_of_burst = refl;
      pairs = refl;
      shows = refl;
    }
