-- The lines that close a listing.
use Rattle.std.specs.Prelude.{ℕ, ◌-◌, List, [], ◌++◌, Some, None, codes, Option}
use Rattle.layout.specs.Numbers.{right, hex}

abbrev pub counted : ℕ → (words : List ℕ) → List ℕ
counted n words = right 0 n ++ words

abbrev pub still_total : (shown rows used page : ℕ) → List ℕ
still_total shown rows used page =
    counted shown (codes " of ") ++ (counted rows (codes " rows shown, ") ++ (counted used (codes " of ")
    ++ (counted page (codes " bytes of the page used, ") ++ counted (page - used) (codes " left\n"))))

abbrev pub status_line : (status : ℕ) → (behind : List ℕ) → List ℕ
status_line s behind = codes "status " ++ (hex s ++ behind)

-- below the first late row everything is dark
abbrev pub late_words : Option ℕ → List ℕ
late_words None = codes "every row true\n"
late_words (Some j) = codes "dark from row "

abbrev pub late_row : Option ℕ → List ℕ
late_row None = []
late_row (Some j) = counted j (codes " on\n")

abbrev pub frame_total : (status played : ℕ) → (late : Option ℕ) → List ℕ
frame_total s n late = status_line s (codes ", ") ++ (counted n (codes " clocks played\n") ++ (late_words late ++ late_row late))
