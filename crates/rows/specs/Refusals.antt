-- Why a window or a still of row j is refused; None where it is not. Of two reasons the smaller number counts.
use Rattle.std.specs.Prelude.{ℕ, ◌*◌, Bool, cond, ◌||◌, List, length, Some, None, Option, ◌==◌, nat_lt}
use Rattle.refusal.specs.declared.Refusal.{Refusal}
use Rattle.refusal.specs.declared.Refusal.TheVariants.{PageTooLong, NoSuchRow, BufferTooSmall, PageEnds}
use Rattle.video.specs.Composition.{Shape, width}
use Rattle.rows.specs.Page.{blank, row}

-- row 0, a row above R, a row left blank by spacing
abbrev pub no_such_row : Shape → (row : ℕ) → Bool
no_such_row c j = j == 0 || nat_lt c.r j || blank c j

-- what holds of a page and a row, before any other reason
abbrev pub row_refusal : Shape → List ℕ → (row : ℕ) → (other : Option Refusal) → Option Refusal
row_refusal c page j other = cond (nat_lt 16384 (length page)) (Some PageTooLong) (cond (no_such_row c j) (Some NoSuchRow) other)

-- the page ends before row j does
abbrev pub ends_refusal : Shape → (n : ℕ) → List ℕ → (row : ℕ) → Option Refusal
ends_refusal c n page j = cond (row c n page j).whole None (Some PageEnds)

abbrev pub window_refusal : Shape → (n : ℕ) → List ℕ → (row : ℕ) → Option Refusal
window_refusal c n page j = row_refusal c page j (ends_refusal c n page j)

-- a still into a buffer of `size` words
abbrev pub still_refusal : Shape → (n : ℕ) → List ℕ → (row size : ℕ) → Option Refusal
still_refusal c n page j size = row_refusal c page j (cond (nat_lt size (c.l * width c)) (Some BufferTooSmall) (ends_refusal c n page j))
