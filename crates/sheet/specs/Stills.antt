-- The listing of a page by the stills of its rows.
use Rattle.std.specs.Prelude.{◌≡◌, ℕ, zero, suc, ◌+◌, ◌*◌, ◌/◌, ◌%◌, ◌≤◌, cond, List, ◌∷◌, ◌++◌, length, replicate, codes, ◌==◌}
use Rattle.video.specs.Composition.{Shape, shape_of, width}
use Rattle.rows.specs.Page.{blank, row, window, picture}
use Rattle.frame.specs.Ports.{State}
use Rattle.console.specs.Model.{state_of}
use Rattle.listing.specs.Looks.{columns_from}
use Rattle.listing.specs.Words.{word_lines}
use Rattle.layout.specs.Lines.{under, still_heading, still_figures, pictured}
use Rattle.layout.specs.Closing.{still_total}
use Rattle.sheet.specs.declared.screen.Screen.{Screen}
use Rattle.sheet.specs.declared.tally.Tally.{Tally}

-- the bytes of row j, and where they begin, by the latest burst size
abbrev pub bytes_of : Screen → (page : List ℕ) → (row : ℕ) → List ℕ
bytes_of x page j = window (shape_of x.composition) (state_of x.console).control.bursts.n page j

abbrev pub place_of : Screen → (page : List ℕ) → (row : ℕ) → ℕ
place_of x page j = (row (shape_of x.composition) (state_of x.console).control.bursts.n page j).place

-- the words of row j's still, line by line
abbrev pub words_of : Shape → State → (page : List ℕ) → (row : ℕ) → List ℕ
words_of c s page j =
    columns_from (λ i. picture c s.control.bursts.n page s.cursor s.core.blink j (i / width c) (i % width c)) 0 (c.l * width c)

unfoldable pub still_words : Screen → (page : List ℕ) → (row : ℕ) → List ℕ
still_words x page j = words_of (shape_of x.composition) (state_of x.console) page j

abbrev pub still_margin : List ℕ
still_margin = 10 ∷ replicate 19 32

-- what stands behind the figures of a row: its picture, if it takes bytes
abbrev pub row_rest : (taken : ℕ) → (picture : List ℕ) → List ℕ
row_rest n p = cond (n == 0) (codes "  (past the end of the screen)\n") p

-- the lines of a row that is not left blank by spacing
abbrev pub row_lines : Screen → (page : List ℕ) → (row : ℕ) → List ℕ
row_lines x page j =
    still_figures j (place_of x page j) (length (bytes_of x page j))
    ++ row_rest (length (bytes_of x page j)) (pictured still_margin (shape_of x.composition) (still_words x page j))

-- row j takes n bytes, and its lines were written behind `out`, which became `out₂`
pub record ListedRow (x : Screen) (page : List ℕ) (j n : ℕ) (out out₂ : List ℕ) : Type 0 where
  pub taken : n ≡ length (bytes_of x page j)
  pub few : n ≤ 16384
  pub lines : out₂ ≡ out ++ (under still_heading out ++ row_lines x page j)

-- a row left blank by spacing: no bytes, at the place where they would begin
abbrev pub blank_lines : (row place : ℕ) → List ℕ
blank_lines j place = still_figures j place 0 ++ codes "  (blank by spacing)\n"

-- one row more, of n bytes
abbrev pub counted : Tally → (taken : ℕ) → Tally
counted t n = record { shown = t.shown + cond (n == 0) 0 1; used = t.used + n }

abbrev pub counted_row : Screen → (page : List ℕ) → (row : ℕ) → Tally → Tally
counted_row x page j t = cond (blank (shape_of x.composition) j) t (counted t (length (bytes_of x page j)))

-- how many of rows 1 to j take bytes, and how many
unfoldable pub tally : Screen → (page : List ℕ) → (rows : ℕ) → Tally
tally x page zero = record { shown = 0; used = 0 }
tally x page (suc j) = counted_row x page (suc j) (tally x page j)

-- the lines of row j, where `used` bytes lie before it
abbrev pub lines_of : Screen → (page : List ℕ) → (row used : ℕ) → List ℕ
lines_of x page j used = cond (blank (shape_of x.composition) j) (blank_lines j used) (row_lines x page j)

abbrev pub with_row : Screen → (page : List ℕ) → (row used : ℕ) → (out : List ℕ) → List ℕ
with_row x page j used out = out ++ (under still_heading out ++ lines_of x page j used)

-- `out` with the lines of rows 1 to j behind it
unfoldable pub with_rows : Screen → (page out : List ℕ) → (rows : ℕ) → List ℕ
with_rows x page out zero = out
with_rows x page out (suc j) = with_row x page (suc j) (tally x page j).used (with_rows x page out j)

-- any row, before which `used` bytes lie: it takes n bytes, none if it is left blank, and its lines were written
pub record NextRow (x : Screen) (page : List ℕ) (j used n : ℕ) (out out₂ : List ℕ) : Type 0 where
  pub taken : n ≡ cond (blank (shape_of x.composition) j) 0 (length (bytes_of x page j))
  pub few : n ≤ 16384
  pub text : out₂ ≡ with_row x page j used out

-- `out` with the words of row j behind it, none of a row left blank by spacing
abbrev pub with_row_words : Screen → (page : List ℕ) → (row : ℕ) → (out : List ℕ) → List ℕ
with_row_words x page j out = cond (blank (shape_of x.composition) j) out (out ++ word_lines (still_words x page j))

-- `out` with the words of rows 1 to j behind it
unfoldable pub with_words : Screen → (page out : List ℕ) → (rows : ℕ) → List ℕ
with_words x page out zero = out
with_words x page out (suc j) = with_row_words x page (suc j) (with_words x page out j)

-- `out` with the closing line of a tally behind it
abbrev pub closed : Shape → (page : List ℕ) → Tally → (out : List ℕ) → List ℕ
closed c page t out = out ++ still_total t.shown c.r t.used (length page)

-- the listing of all rows
abbrev pub still_listing : Screen → (page out : List ℕ) → List ℕ
still_listing x page out = closed (shape_of x.composition) page (tally x page x.composition.rows) (with_rows x page out x.composition.rows)

-- the listing of row j alone
abbrev pub alone_listing : Screen → (page : List ℕ) → (row : ℕ) → (out : List ℕ) → List ℕ
alone_listing x page j out =
    closed (shape_of x.composition) page (counted (record { shown = 0; used = 0 }) (length (bytes_of x page j))) (out ++ (under still_heading out ++ row_lines x page j))
