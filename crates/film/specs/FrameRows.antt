-- The listing of a frame.
use Rattle.std.specs.Prelude.{ℕ, zero, suc, ◌-◌, ◌*◌, Bool, true, false, cond, List, ◌∷◌, ◌++◌, length, take, drop, replicate, Some, None, vec_items, Option, ◌==◌, nat_lt}
use Rattle.refusal.specs.declared.Refusal.{Refusal}
use Rattle.refusal.specs.declared.Refusal.TheVariants.{NoComposition, UnknownCommand, TooManyColumns, PageTooLong, BadBus, NoSuchRow, BufferTooSmall, PageEnds, OutOfMemory}
use Rattle.video.specs.Composition.{shape_of}
use Rattle.frame.specs.declared.call.Answer.{Answer}
use Rattle.frame.specs.declared.call.Answer.TheVariants.{Done, Byte, Word, Refused}
use Rattle.frame.specs.History.{words}
use Rattle.frame.specs.Ports.{status_byte}
use Rattle.console.specs.Model.{state_of}
use Rattle.console.specs.Answers.{window_refused}
use Rattle.layout.specs.Closing.{frame_total}
use Rattle.layout.specs.Lines.{under, frame_heading, frame_figures, pictured}
use Rattle.layout.specs.declared.fate.Fate.{Fate}
use Rattle.layout.specs.declared.fate.Fate.TheVariants.{Shown, Late, Dark, Blank}
use Rattle.film.specs.declared.film.Film.{Film}
use Rattle.film.specs.Logs.{came_in}
use Rattle.film.specs.declared.log.Log.{Log}
use Rattle.sheet.specs.Rasters.{row_clocks}
use Rattle.sheet.specs.Stills.{bytes_of}
use Rattle.sheet.specs.declared.screen.Screen.{Screen}

-- what the clocks of row j's time were answered
abbrev pub row_answers : Film → (row : ℕ) → List Answer
row_answers f j = take (row_clocks (shape_of f.screen.composition)) (drop (j * row_clocks (shape_of f.screen.composition)) (vec_items f.answers))

-- those of a row alone, or all
abbrev pub wanted_answers : Film → Option ℕ → List Answer
wanted_answers f None = vec_items f.answers
wanted_answers f (Some j) = row_answers f j

-- the word of an answer
abbrev pub word_of : Answer → Option ℕ
word_of Done = None
word_of (Byte b) = None
word_of (Word w) = Some w
word_of (Refused e) = None

abbrev pub page_ends : Refusal → Bool
page_ends NoComposition = false
page_ends UnknownCommand = false
page_ends TooManyColumns = false
page_ends PageTooLong = false
page_ends BadBus = false
page_ends NoSuchRow = false
page_ends BufferTooSmall = false
page_ends PageEnds = true
page_ends OutOfMemory = false

-- a row is late where fewer bytes came than it takes, or the page ends before it does
abbrev pub late_by : Option Refusal → (came takes : ℕ) → Bool
late_by None came takes = nat_lt came takes
late_by (Some e) came takes = page_ends e

unfoldable pub late_row : Screen → (page : List ℕ) → Log → (row : ℕ) → Bool
late_row x page g j =
    late_by (window_refused (Some (shape_of x.composition)) (state_of x.console).control.bursts.n page j) (came_in g (j - 1)).bytes (length (bytes_of x page j))

-- the first of n rows below row i that is late
abbrev pub first_from : (ℕ → Bool) → (i n : ℕ) → Option ℕ
first_from late i zero = None
first_from late i (suc n) = cond (late (suc i)) (Some (suc i)) (first_from late (suc i) n)

abbrev pub first_late : Screen → (page : List ℕ) → Log → Option ℕ
first_late x page g = first_from (late_row x page g) 0 x.composition.rows

-- a row that is not below a late one
abbrev pub fed : (bytes last : ℕ) → Fate
fed n last = cond (n == 0) Blank (Shown last)

-- the row where the frame goes dark decides the fate of those below it
abbrev pub fate_of : (row : ℕ) → (late : Option ℕ) → (bytes last : ℕ) → Fate
fate_of j None n last = fed n last
fate_of j (Some k) n last = cond (j == k) Late (cond (nat_lt k j) Dark (fed n last))

abbrev pub fate_in : Log → (late : Option ℕ) → (row : ℕ) → Fate
fate_in g late j = fate_of j late (came_in g (j - 1)).bytes (came_in g (j - 1)).last

abbrev pub frame_margin : List ℕ
frame_margin = 10 ∷ replicate 26 32

-- the lines of row j: due is the last clock before its row time
abbrev pub frame_lines : Film → (row : ℕ) → Fate → List ℕ
frame_lines f j fate =
    frame_figures j fate (j * row_clocks (shape_of f.screen.composition) - 1) ++ pictured frame_margin (shape_of f.screen.composition) (words (row_answers f j))

-- `out` with the lines of row j behind it
abbrev pub with_frame_row : Film → (row : ℕ) → Fate → (out : List ℕ) → List ℕ
with_frame_row f j fate out = out ++ (under frame_heading out ++ frame_lines f j fate)

abbrev pub wanted : Option ℕ → (row : ℕ) → Bool
wanted None j = true
wanted (Some k) j = k == j

-- `out` with those of row j behind it, if it is wanted
abbrev pub with_wanted_row : Film → Log → (late only : Option ℕ) → (row : ℕ) → (out : List ℕ) → List ℕ
with_wanted_row f g late only j out = cond (wanted only j) (with_frame_row f j (fate_in g late j) out) out

-- `out` with those of rows 1 to j behind it that are wanted
unfoldable pub with_frame_rows : Film → Log → (late only : Option ℕ) → (out : List ℕ) → (rows : ℕ) → List ℕ
with_frame_rows f g late only out zero = out
with_frame_rows f g late only out (suc j) = with_wanted_row f g late only (suc j) (with_frame_rows f g late only out j)

-- the listing of the last frame of a film, and of what came in it
abbrev pub frame_listing : Film → (page : List ℕ) → Log → (only : Option ℕ) → (out : List ℕ) → List ℕ
frame_listing f page g only out =
    with_frame_rows f g (first_late f.screen page g) only out f.screen.composition.rows
    ++ frame_total (status_byte (state_of f.console)) f.played (first_late f.screen page g)
