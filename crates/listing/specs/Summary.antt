-- What is kept of the lit lines of a column.
use Rattle.std.specs.Prelude.{ℕ, ◌/◌, ◌%◌, is_some, Bool, false, cond, not, ◌&&◌, ◌||◌, List, [], ◌∷◌, Some, None, Option}
use Rattle.video.specs.Fields.{has}
use Rattle.rows.specs.Lists.{some}
use Rattle.listing.specs.Looks.{attributed, none, figure, is_character}
use Rattle.listing.specs.declared.glyph.Glyph.{Glyph}
use Rattle.listing.specs.declared.glyph.Glyph.TheVariants.{Blank, Level, Character}
use Rattle.listing.specs.declared.marks.Marks.{Marks}
use Rattle.listing.specs.declared.lit.Lit.{Lit}

abbrev pub several : List ℕ → Bool
several [] = false
several (w ∷ ws) = not (none ws)

abbrev pub top_code : List ℕ → Option ℕ
top_code [] = None
top_code (w ∷ ws) = Some (w % 128)

abbrev pub summary : List ℕ → Lit
summary ws =
    record {
      code = top_code ws;
      several = several ws;
      attributes = some attributed ws;
      light = some (has 0x4000) ws;
      reverse = some (has 0x8000) ws;
      highlight = some (has 0x20000) ws;
    }

-- with the word of one more line, above the others
abbrev pub above : ℕ → Lit → Lit
above w s =
    cond (has 0x10000 w) s
    (record {
      code = Some (w % 128);
      several = is_some s.code;
      attributes = attributed w || s.attributes;
      light = has 0x4000 w || s.light;
      reverse = has 0x8000 w || s.reverse;
      highlight = has 0x20000 w || s.highlight;
    })

-- a line alone or several, with the code of the topmost
abbrev pub glyph_coded : Option ℕ → Lit → Glyph
glyph_coded None s = Blank
glyph_coded (Some c) s = cond s.attributes (figure (c / 4 % 16)) (cond (s.light && not s.several) Level (Character c))

abbrev pub glyph_kept : Lit → Glyph
glyph_kept s = glyph_coded s.code s

abbrev pub marks_kept : Lit → Marks
marks_kept s = record { reverse = s.reverse; underline = is_character (glyph_kept s) && s.light; highlight = s.highlight }
