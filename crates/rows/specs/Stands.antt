-- Where a reader of a page stands behind row j.
use Rattle.std.specs.Prelude.{◌≡◌, ℕ, suc, ◌+◌, ◌≤◌, Bool, true, false, List, length, Some, None, Option}
use Rattle.video.specs.Composition.{Shape}
use Rattle.rows.specs.declared.state.RowBuffer.{RowBuffer}
use Rattle.rows.specs.declared.found.Found.{Found}
use Rattle.rows.specs.Buffer.{Shown, column_cell}
use Rattle.rows.specs.Model.{shown_of}
use Rattle.rows.specs.Page.{row, row_field, screen_over, row_cell}

-- what a row that was read leaves: where the next begins, an F3 so far, and what it shows
pub record Stands (c : Shape) (n : ℕ) (page : List ℕ) (j place : ℕ) (over : Bool) (s : Shown) : Type 0 where
  pub at : place ≡ (row c n page j).place + (row c n page j).taken
  pub whole : (row c n page j).whole ≡ true
  pub stop : over ≡ (row c n page j).over
  pub field : s.field ≡ row_field c n page j
  pub below : s.below ≡ screen_over c n page j

-- and its columns
abbrev pub Columns : Shape → (n : ℕ) → List ℕ → (j : ℕ) → Shown → Type 0
Columns c n page j s = (p : ℕ) → column_cell s p ≡ row_cell c n page (suc j) p

-- the same, of a row buffer
abbrev pub Behind : Shape → (n : ℕ) → List ℕ → (j place : ℕ) → RowBuffer → Type 0
Behind c n page j at b = Stands c n page j at b.take.over (shown_of b.show)

-- row j + 1 was found
pub record Finds (c : Shape) (n : ℕ) (page : List ℕ) (j place : ℕ) (b : RowBuffer) : Type 0 where
  pub at : (row c n page (suc j)).place ≡ place
  pub taken : (row c n page (suc j)).taken ≡ b.take.taken
  pub within : place + b.take.taken ≤ length page
  pub columns : Columns c n page j (shown_of b.show)

-- row j + 1 was read below row j; none where the page does not suffice
abbrev pub Next : Shape → (n : ℕ) → List ℕ → (j : ℕ) → Option Found → Type 0
Next c n page j None = (row c n page (suc j)).whole ≡ false
Next c n page j (Some x) = Behind c n page (suc j) (x.place + x.row.take.taken) x.row × Finds c n page j x.place x.row

abbrev pub Located : Shape → (n : ℕ) → List ℕ → (j : ℕ) → Option Found → Type 0
Located c n page j None = (row c n page (suc j)).whole ≡ false
Located c n page j (Some x) = ((row c n page (suc j)).whole ≡ true) × Finds c n page j x.place x.row
