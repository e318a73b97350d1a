-- Screen bytes as positions of a row.
use Rattle.std.specs.Prelude.{ℕ, ◌%◌, Bool, true, false, cond, not, ◌&&◌, List, [], ◌∷◌, ◌==◌, nat_le, nat_lt}
use Rattle.video.specs.Fields.{field_of}
use Rattle.rows.specs.declared.kinds.Special.{Special}
use Rattle.rows.specs.declared.kinds.Special.TheVariants.{EndRow, StopRow, EndScreen, StopScreen}
use Rattle.rows.specs.declared.kinds.Position.{Position}
use Rattle.rows.specs.declared.kinds.Position.TheVariants.{Letter, Attribute, Pair, Graphic, Control, Unused}

-- 80 to BF
abbrev pub field_code : ℕ → Bool
field_code b = nat_le 0x80 b && nat_lt b 0xC0

-- a byte that fills a position alone
abbrev pub read : ℕ → Position
read b =
    cond (nat_lt b 0x80) (Letter b)
    (cond (nat_lt b 0xC0) (Attribute (field_of b))
    (cond (nat_lt b 0xF0) (Graphic b)
    (cond (b == 0xF0) (Control EndRow)
    (cond (b == 0xF1) (Control StopRow)
    (cond (b == 0xF2) (Control EndScreen)
    (cond (b == 0xF3) (Control StopScreen) Unused))))))

-- the positions that bytes fill; where field codes are transparent, one and the byte behind it fill one position
abbrev pub positions : (f : Bool) → List ℕ → List Position
positions f [] = []
positions f (b ∷ []) = cond (not f && field_code b) [] (read b ∷ [])
positions f (b ∷ c ∷ cs) = cond (not f && field_code b) (Pair (field_of b) (c % 128) ∷ positions f cs) (read b ∷ positions f (c ∷ cs))

-- how many bytes a position took
abbrev pub width : Position → ℕ
width (Letter c) = 1
width (Attribute a) = 1
width (Pair a c) = 2
width (Graphic g) = 1
width (Control s) = 1
width Unused = 1

-- F1 and F3
abbrev pub stop_code : Special → Bool
stop_code EndRow = false
stop_code StopRow = true
stop_code EndScreen = false
stop_code StopScreen = true

-- F2 and F3
abbrev pub screen_code : Special → Bool
screen_code EndRow = false
screen_code StopRow = false
screen_code EndScreen = true
screen_code StopScreen = true

-- F0 to F3 end the row's display
abbrev pub ends : Position → Bool
ends (Letter c) = false
ends (Attribute a) = false
ends (Pair a c) = false
ends (Graphic g) = false
ends (Control s) = true
ends Unused = false

-- F1 and F3 stop the row's taking
abbrev pub stops : Position → Bool
stops (Letter c) = false
stops (Attribute a) = false
stops (Pair a c) = false
stops (Graphic g) = false
stops (Control s) = stop_code s
stops Unused = false

-- F2 and F3 end the screen's display
abbrev pub ends_screen : Position → Bool
ends_screen (Letter c) = false
ends_screen (Attribute a) = false
ends_screen (Pair a c) = false
ends_screen (Graphic g) = false
ends_screen (Control s) = screen_code s
ends_screen Unused = false

-- F3 stops the frame's taking
abbrev pub stops_all : Position → Bool
stops_all p = stops p && ends_screen p
