-- Worked cases of the definitions.
use Rattle.std.specs.Prelude.{◌≡◌, ℕ, Bool, true, false, List, [], ◌∷◌, Some, None, nat_le}
use Rattle.refusal.specs.declared.Refusal.TheVariants.{TooManyColumns}
use Rattle.video.specs.Composition.{Shape, composed}
use Rattle.video.specs.Fields.{field_of}
use Rattle.video.specs.declared.format.CursorFormat.TheVariants.{Block}
use Rattle.video.specs.declared.cell.Cell.TheVariants.{Text}
use Rattle.rows.specs.Page.{row, row_cell}
use Rattle.frame.specs.declared.pending.Pending.TheVariants.{Reset1}
use Rattle.frame.specs.Ports.{new, waiting, parameter_refusal}
use Rattle.frame.specs.Timing.{total, takes, late}

-- 80 columns and 20 clocks of retrace, 10 lines, 25 rows and one row time of retrace, as Reset asks for it
abbrev pub full_screen : Shape
full_screen = composed 0x4F 0x18 0x89 0x49

-- h columns and 2 clocks of retrace, one line, one row and one row time of retrace
abbrev pub small : (f : Bool) (h : ℕ) → Shape
small f h = record { h = h; z = 2; l = 1; r = 1; v = 1; u = 0; f = f; offset = false; spaced = false; cursor = Block }

abbrev pub stopped_row : List ℕ
stopped_row = 0x41 ∷ 0xF1 ∷ 0x42 ∷ 0x43 ∷ []

abbrev pub transparent_row : List ℕ
transparent_row = 0x81 ∷ 0x41 ∷ 0x90 ∷ 0xF0 ∷ []

-- on a free bus, bursts of two with seven clocks between them
abbrev pub take_of : (k : ℕ) → ℕ
take_of k = takes (λ t. true) 26000 (record { n = 2; d = 7 }) 0 k

-- the one row of a small screen on a bus that is free from a clock on
abbrev pub late_from : (clock : ℕ) → Bool
late_from clock = late (small true 2) (record { n = 1; d = 0 }) (0x41 ∷ 0x42 ∷ []) (λ t. nat_le clock t) 1

pub record Worked : Type 0 where
  -- 80 columns are accepted and 81 refused
  pub widest : parameter_refusal (waiting Reset1 new) 0x4F ≡ None
  pub too_wide : parameter_refusal (waiting Reset1 new) 0x50 ≡ Some TooManyColumns
  pub clocks : total full_screen ≡ 26000
  -- bytes in clocks 0, 1, 9 and 10
  pub first_byte : take_of 0 ≡ 0
  pub second_byte : take_of 1 ≡ 1
  pub third_byte : take_of 2 ≡ 9
  pub fourth_byte : take_of 3 ≡ 10
  -- two bytes in a row time of four clocks: in time from clock 2 on, late from clock 3 on
  pub timely : late_from 2 ≡ false
  pub tardy : late_from 3 ≡ true
  -- a stop code takes one byte more unless it is its burst's last
  pub drops : (row (small true 4) 4 stopped_row 1).taken ≡ 3
  pub last_of_burst : (row (small true 4) 2 stopped_row 1).taken ≡ 2
  -- a transparent field code takes its character whatever it is, and shows its low seven bits
  pub pairs : (row (small false 2) 1 transparent_row 1).taken ≡ 4
  pub shows : row_cell (small false 2) 1 transparent_row 1 1 ≡ Text 0x70 (field_of 0x90)
