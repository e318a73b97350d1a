-- The lines of a row.
use Rattle.std.specs.Prelude.{ℕ, cond, List, [], ◌∷◌, ◌++◌, length, codes, ◌==◌}
use Rattle.video.specs.Composition.{Shape}
use Rattle.listing.specs.Looks.{row_text, row_marks}
use Rattle.layout.specs.Numbers.{right}
use Rattle.layout.specs.declared.fate.Fate.{Fate}
use Rattle.layout.specs.declared.fate.Fate.TheVariants.{Shown, Late, Dark, Blank}

-- a heading where nothing stands yet
abbrev pub under : (heading out : List ℕ) → List ℕ
under h [] = h
under h (c ∷ cs) = []

abbrev pub still_heading : List ℕ
still_heading = codes "row  place  bytes  text\n"

abbrev pub frame_heading : List ℕ
frame_heading = codes "row  state   last    due  text\n"

-- a row's number, the place of its first byte and the number of its bytes
abbrev pub still_figures : (row place taken : ℕ) → List ℕ
still_figures j place taken = right 3 j ++ (right 7 place ++ right 7 taken)

abbrev pub fate_word : Fate → List ℕ
fate_word (Shown last) = codes "  shown"
fate_word Late = codes "  late "
fate_word Dark = codes "  dark "
fate_word Blank = codes "  blank"

-- the clock of its last byte, and the last clock in which that is in time
abbrev pub fate_clocks : Fate → (due : ℕ) → List ℕ
fate_clocks (Shown last) due = right 7 last ++ right 7 due
fate_clocks Late due = codes "      -" ++ right 7 due
fate_clocks Dark due = codes "      -      -"
fate_clocks Blank due = codes "      -      -"

abbrev pub frame_figures : (row : ℕ) → Fate → (due : ℕ) → List ℕ
frame_figures j fate due = right 3 j ++ (fate_word fate ++ fate_clocks fate due)

-- c before a text, unless it is a space with nothing behind it
abbrev pub kept : ℕ → List ℕ → List ℕ
kept c [] = cond (c == 32) [] (c ∷ [])
kept c (d ∷ ds) = c ∷ d ∷ ds

-- without the spaces at its end
abbrev pub trim : List ℕ → List ℕ
trim [] = []
trim (c ∷ cs) = kept c (trim cs)

-- a text behind a lead, or neither where there is no text
abbrev pub behind : (lead text : List ℕ) → List ℕ
behind lead text = cond (length text == 0) [] lead ++ text

-- the text of a row behind two spaces, its marks behind a margin, and a line feed
abbrev pub pictured : (margin : List ℕ) → Shape → (words : List ℕ) → List ℕ
pictured margin c ws = behind (codes "  ") (trim (row_text c ws)) ++ (behind margin (trim (row_marks c ws)) ++ 10 ∷ [])
