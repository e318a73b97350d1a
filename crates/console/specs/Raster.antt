-- What the library's raster stands for.
use Rattle.std.specs.Prelude.{◌≡◌, Some}
use Rattle.video.specs.Composition.{Shape}
use Rattle.video.specs.Picture.{scan_line}
use Rattle.rows.specs.Drawn.{AreOf}
use Rattle.rows.specs.Model.{buffer_of, shown_of}
use Rattle.frame.specs.Ports.{Core, bursts_of}
use Rattle.console.specs.declared.raster.Beam.{Beam}
use Rattle.console.specs.declared.raster.Raster.{Raster}

abbrev pub core_of : Raster → Core
core_of k =
    record {
      row = k.beam.row;
      line = k.beam.line;
      column = k.beam.column;
      blink = k.beam.blink;
      armed = k.armed;
      dark = k.dark;
      bursts = bursts_of k.burst;
      gap = k.gap;
      fill = buffer_of k.fill;
      shown = shown_of k.shown;
    }

-- a core with its counters moved to the beam
abbrev pub placed : Beam → Core → Core
placed b k =
    record {
      row = b.row;
      line = b.line;
      column = b.column;
      blink = b.blink;
      armed = k.armed;
      dark = k.dark;
      bursts = k.bursts;
      gap = k.gap;
      fill = k.fill;
      shown = k.shown;
    }

-- the looks of the row that is shown are at hand for the line
abbrev pub AtHand : Shape → Raster → Type 0
AtHand c k = AreOf k.looks (scan_line c k.beam.line k.beam.blink)
