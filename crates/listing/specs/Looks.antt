-- How a column looks: what it shows, and how it is set off.
use Rattle.std.specs.Prelude.{◌≡◌, ℕ, zero, suc, ◌+◌, ◌-◌, ◌*◌, ◌/◌, ◌%◌, ◌<◌, ◌≤◌, Bool, true, false, cond, ◌&&◌, ◌||◌, List, [], ◌∷◌, length, take, ◌==◌, ◌≢◌, nat_le, slice_index, slice_index_or}
use Rattle.video.specs.Composition.{Shape, width}
use Rattle.video.specs.Fields.{has}
use Rattle.rows.specs.Lists.{some}
use Rattle.listing.specs.declared.glyph.Glyph.{Glyph}
use Rattle.listing.specs.declared.glyph.Glyph.TheVariants.{Blank, Upright, Level, Joint, Character}
use Rattle.listing.specs.declared.marks.Marks.{Marks}

-- in ASCII: a space, | - + for figures, a full stop for a character without print
abbrev pub glyph_byte : Glyph → ℕ
glyph_byte Blank = 32
glyph_byte Upright = 124
glyph_byte Level = 45
glyph_byte Joint = 43
glyph_byte (Character c) = cond (nat_le 0x20 c && nat_le c 0x7E) c 46

-- = reverse, _ underline, ! highlight, # more than one of them
abbrev pub mark_of : (reverse underline highlight : Bool) → ℕ
mark_of false false false = 32
mark_of true false false = 61
mark_of false true false = 95
mark_of false false true = 33
mark_of true true false = 35
mark_of true false true = 35
mark_of false true true = 35
mark_of true true true = 35

abbrev pub mark_byte : Marks → ℕ
mark_byte m = mark_of m.reverse m.underline m.highlight

-- the words whose video is not suppressed (bit 16)
abbrev pub lit_lines : List ℕ → List ℕ
lit_lines [] = []
lit_lines (w ∷ ws) = cond (has 0x10000 w) (lit_lines ws) (w ∷ lit_lines ws)

-- LA0 or LA1, bits 12 and 13
abbrev pub attributed : ℕ → Bool
attributed w = has 0x1000 w || has 0x2000 w

-- the figure of a graphic code
abbrev pub figure : (code : ℕ) → Glyph
figure g = cond (g == 8) Level (cond (g == 9) Upright Joint)

abbrev pub none : List ℕ → Bool
none [] = true
none (w ∷ ws) = false

-- what lit lines show: a figure where one has a line attribute, or where there is but one and it has light enable (bit 14);
-- else the character of the topmost
abbrev pub glyph_of : List ℕ → Glyph
glyph_of [] = Blank
glyph_of (w ∷ ws) = cond (some attributed (w ∷ ws)) (figure (w % 128 / 4 % 16)) (cond (some (has 0x4000) (w ∷ ws) && none ws) Level (Character (w % 128)))

abbrev pub is_character : Glyph → Bool
is_character Blank = false
is_character Upright = false
is_character Level = false
is_character Joint = false
is_character (Character c) = true

-- reverse video is bit 15, highlight bit 17; light enable underlines a character, and belongs to a figure
abbrev pub marks_of : List ℕ → Marks
marks_of ws = record { reverse = some (has 0x8000) ws; underline = is_character (glyph_of ws) && some (has 0x4000) ws; highlight = some (has 0x20000) ws }

-- the words of column p of a still, from its topmost line down: `lines` of them from line `from` on
abbrev pub lines_from : (from lines width p : ℕ) → List ℕ → List ℕ
lines_from from zero w p still = []
lines_from from (suc n) w p still = slice_index_or still (from * w + p) 0x10000 ∷ lines_from (suc from) n w p still

abbrev pub column_words : Shape → List ℕ → (p : ℕ) → List ℕ
column_words c still p = lines_from 0 c.l (width c) p still

abbrev pub glyph_at : Shape → List ℕ → (p : ℕ) → Glyph
glyph_at c still p = glyph_of (lit_lines (column_words c still p))

abbrev pub marks_at : Shape → List ℕ → (p : ℕ) → Marks
marks_at c still p = marks_of (lit_lines (column_words c still p))

-- what f says of n columns, from column p on
abbrev pub columns_from : (ℕ → ℕ) → (p n : ℕ) → List ℕ
columns_from f p zero = []
columns_from f p (suc n) = f p ∷ columns_from f (suc p) n

-- a row's text and its mark line, a character to a column
abbrev pub row_text : Shape → List ℕ → List ℕ
row_text c still = columns_from (λ p. glyph_byte (glyph_at c still p)) 0 c.h

abbrev pub row_marks : Shape → List ℕ → List ℕ
row_marks c still = columns_from (λ p. mark_byte (marks_at c still p)) 0 c.h

-- without the spaces at its end
pub record Trimmed (text part : List ℕ) : Type 0 where
  pub front : part ≡ take (length part) text
  pub spaces : (k : ℕ) → length part ≤ k → k < length text → slice_index text k ≡ 32
  pub visible : 0 < length part → slice_index text (length part - 1) ≢ 32
