-- The rows of a page, and the page's picture of a row.
use Rattle.std.specs.Prelude.{ℕ, zero, suc, ◌+◌, ◌%◌, Bool, true, false, cond, ◌&&◌, ◌||◌, List, [], ◌++◌, take, drop, Some, None, Option, ◌==◌, nat_lt}
use Rattle.video.specs.Composition.{Shape, line_count}
use Rattle.video.specs.Fields.{no_field}
use Rattle.video.specs.Picture.{dark_word, cell_word}
use Rattle.video.specs.declared.field.Field.{Field}
use Rattle.video.specs.declared.cell.Cell.{Cell}
use Rattle.video.specs.declared.cell.Cell.TheVariants.{Dark}
use Rattle.rows.specs.declared.kinds.Position.{Position}
use Rattle.rows.specs.Lists.{some}
use Rattle.rows.specs.Positions.{ends_screen, stops_all}
use Rattle.rows.specs.Takes.{row_positions, count, enough}
use Rattle.rows.specs.Shows.{effective, field_behind, cell}

-- a row of a page: the index of its first byte, its positions, how many bytes it takes,
-- whether the page suffices for it and the rows above, whether it or a row above has an F3
pub record Row : Type 0 where
  pub place : ℕ
  pub positions : List Position
  pub taken : ℕ
  pub whole : Bool
  pub over : Bool

-- with spaced rows the even ones are blank
abbrev pub blank : Shape → (row : ℕ) → Bool
blank c j = c.spaced && j % 2 == 0

-- a row that takes nothing, below r
abbrev pub idle_below : Row → Row
idle_below r = record { place = r.place + r.taken; positions = []; taken = 0; whole = r.whole; over = r.over }

-- a row that takes, from a place on; `above` tells that the page suffices for the rows above
unfoldable pub taking_at : Shape → (n : ℕ) → (page : List ℕ) → (above : Bool) → (place : ℕ) → Row
taking_at c n page above from =
    record {
      place = from;
      positions = row_positions c.f c.h (drop from page);
      taken = count n c.h (row_positions c.f c.h (drop from page));
      whole = above && enough n c.h (row_positions c.f c.h (drop from page)) (drop from page);
      over = some stops_all (row_positions c.f c.h (drop from page));
    }

-- row j of a page by bursts of n bytes; row 0 stands above the first
unfoldable pub row : Shape → (n : ℕ) → (page : List ℕ) → (j : ℕ) → Row
row c n page zero = record { place = 0; positions = []; taken = 0; whole = true; over = false }
row c n page (suc j) =
    cond (blank c (suc j) || (row c n page j).over) (idle_below (row c n page j))
    (taking_at c n page (row c n page j).whole ((row c n page j).place + (row c n page j).taken))

-- the part of the page that row j takes
unfoldable pub window : Shape → (n : ℕ) → (page : List ℕ) → (j : ℕ) → List ℕ
window c n page j = take (row c n page j).taken (drop (row c n page j).place page)

-- the windows of rows 1 to j, end to end
unfoldable pub windows : Shape → (n : ℕ) → (page : List ℕ) → (j : ℕ) → List ℕ
windows c n page zero = []
windows c n page (suc j) = windows c n page j ++ window c n page (suc j)

-- the effective positions of rows 1 to j, in order
unfoldable pub effects : Shape → (n : ℕ) → (page : List ℕ) → (j : ℕ) → List Position
effects c n page zero = []
effects c n page (suc j) = effects c n page j ++ effective (row c n page (suc j)).positions

-- the field in force behind row j
abbrev pub row_field : Shape → (n : ℕ) → (page : List ℕ) → (j : ℕ) → Field
row_field c n page j = field_behind no_field (effects c n page j)

-- one of rows 1 to j has an F2 or F3
unfoldable pub screen_over : Shape → (n : ℕ) → (page : List ℕ) → (j : ℕ) → Bool
screen_over c n page zero = false
screen_over c n page (suc j) = screen_over c n page j || some ends_screen (row c n page (suc j)).positions

-- what column p of a row shows: dark below an F2 or F3
unfoldable pub row_cell : Shape → (n : ℕ) → (page : List ℕ) → (row p : ℕ) → Cell
row_cell c n page zero p = Dark
row_cell c n page (suc j) p = cond (screen_over c n page j) Dark (cell (row_field c n page j) (row c n page (suc j)).positions p)

-- the cursor, a column and a row that count from 0, stands in column p of a row
abbrev pub cursor_in : Option (ℕ × ℕ) → (row p : ℕ) → Bool
cursor_in None j p = false
cursor_in (Some q) j p = q.0 == p && q.1 + 1 == j

-- the page's picture of a row, at a line and a clock of it: H columns, then retrace
unfoldable pub picture : Shape → (n : ℕ) → (page : List ℕ) → (cursor : Option (ℕ × ℕ)) → (blink row line p : ℕ) → ℕ
picture c n page q k j line p =
    cond (nat_lt p c.h) (cell_word c line k (cursor_in q j p) (row_cell c n page j p)) (dark_word (line_count c line) true false)
