-- What a window and a still are, and the laws that hold of every page.
use Rattle.std.specs.Prelude.{◌≡◌, ℕ, suc, ◌+◌, ◌-◌, ◌*◌, ◌<◌, ◌≤◌, true, false, ◌||◌, List, [], ◌++◌, length, take, None, Option, slice_index}
use Rattle.video.specs.Composition.{Shape, width, line_count}
use Rattle.video.specs.Picture.{dark_word}
use Rattle.rows.specs.Page.{blank, row, row_field, screen_over, window, windows, picture}
use Rattle.rows.specs.Refusals.{window_refusal, still_refusal}

-- a blank row, and a row below one with an F3, takes nothing
abbrev pub EmptyRows : Shape → (n : ℕ) → List ℕ → Type 0
EmptyRows c n page = (j : ℕ) → (blank c (suc j) || (row c n page j).over) ≡ true → window c n page (suc j) ≡ []

-- the window of row j: its part of the page and its place; the windows of rows 1 to j, end to end, are the front of the page
pub record Windowed (c : Shape) (n : ℕ) (page : List ℕ) (j place : ℕ) (part : List ℕ) : Type 0 where
  pub granted : window_refusal c n page j ≡ None
  pub begins : place ≡ (row c n page j).place
  pub takes : part ≡ window c n page j
  pub joined : windows c n page j ≡ take (place + length part) page
  pub empty : EmptyRows c n page

-- no byte behind row j matters: another page with the same bytes up to the row's end has the same picture of it
abbrev pub AheadOnly : Shape → (n : ℕ) → List ℕ → Option (ℕ × ℕ) → (blink j : ℕ) → Type 0
AheadOnly c n page q k j =
    (pre xs ys : List ℕ) → page ≡ pre ++ xs → (row c n page j).place + (row c n page j).taken ≤ length pre
    → (line p : ℕ) → picture c n (pre ++ ys) q k j line p ≡ picture c n page q k j line p

-- no byte of another row is shown: another page that gives row j the same bytes has the same picture of it,
-- where the same field is in force behind the row above and the screen has ended there in both or in neither
abbrev pub OwnOnly : Shape → (n : ℕ) → List ℕ → Option (ℕ × ℕ) → (blink j : ℕ) → Type 0
OwnOnly c n page q k j =
    (other : List ℕ) → (row c n other j).whole ≡ true → window c n other j ≡ window c n page j
    → row_field c n other (j - 1) ≡ row_field c n page (j - 1) → screen_over c n other (j - 1) ≡ screen_over c n page (j - 1)
    → (line p : ℕ) → picture c n other q k j line p ≡ picture c n page q k j line p

-- a blank row is dark in every column
abbrev pub BlankDark : Shape → (n : ℕ) → List ℕ → Option (ℕ × ℕ) → (blink : ℕ) → Type 0
BlankDark c n page q k = (j line p : ℕ) → blank c j ≡ true → p < c.h → picture c n page q k j line p ≡ dark_word (line_count c line) false false

-- a still of row j, at a cursor and a blink count, put into `out`, which became `out₂`
pub record Still (c : Shape) (n : ℕ) (page : List ℕ) (q : Option (ℕ × ℕ)) (k j : ℕ) (out out₂ : List ℕ) : Type 0 where
  pub granted : still_refusal c n page j (length out) ≡ None
  pub size : length out₂ ≡ length out
  pub words : (line p : ℕ) → line < c.l → p < width c → slice_index out₂ (line * width c + p) ≡ picture c n page q k j line p
  pub kept : (i : ℕ) → c.l * width c ≤ i → slice_index out₂ i ≡ slice_index out i
  -- outside the character columns every word is dark
  pub margin : (line p : ℕ) → line < c.l → c.h ≤ p → p < width c → slice_index out₂ (line * width c + p) ≡ dark_word (line_count c line) true false
  pub ahead_only : AheadOnly c n page q k j
  pub own_only : OwnOnly c n page q k j
  pub blank_dark : BlankDark c n page q k
