-- What the looks of a row's columns are.
use Rattle.std.specs.Prelude.{◌≡◌, ℕ, ◌<◌, Some, None, Option, slice_index}
use Rattle.video.specs.Composition.{Shape}
use Rattle.video.specs.Picture.{scan_line, look}
use Rattle.video.specs.declared.scan.ScanLine.{ScanLine}
use Rattle.rows.specs.declared.looks.Looks.{Looks}
use Rattle.rows.specs.Buffer.{Shown, column_cell}

-- they have been worked out, and are those of a kind of line
abbrev pub AreOf : Option Looks → ScanLine → Type 0
AreOf None t = ⊥
AreOf (Some x) t = x.line ≡ t

-- they are those of the row on every line of the kind
abbrev pub Drawn : Looks → Shown → Type 0
Drawn x s = (c : Shape) (line k p : ℕ) → p < 80 → x.line ≡ scan_line c line k → slice_index x.columns p ≡ look c line k (column_cell s p)
