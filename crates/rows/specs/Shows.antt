-- What a position of a row shows.
use Rattle.std.specs.Prelude.{ℕ, suc, ◌%◌, cond, List, [], ◌∷◌, length, take, Some, None, Option, ◌==◌}
use Rattle.video.specs.declared.field.Field.{Field}
use Rattle.video.specs.declared.cell.Cell.{Cell}
use Rattle.video.specs.declared.cell.Cell.TheVariants.{Dark, Text, Symbol}
use Rattle.rows.specs.declared.kinds.Position.{Position}
use Rattle.rows.specs.declared.kinds.Position.TheVariants.{Letter, Attribute, Pair, Graphic, Control, Unused}
use Rattle.rows.specs.Lists.{at, last, before}
use Rattle.rows.specs.Positions.{ends}

-- the positions whose display effect is kept: those before the first of F0 to F3
abbrev pub effective : List Position → List Position
effective ps = before ends ps

-- the field codes among positions, in order
abbrev pub fields : List Position → List Field
fields [] = []
fields (Letter c ∷ ps) = fields ps
fields (Attribute a ∷ ps) = a ∷ fields ps
fields (Pair a c ∷ ps) = a ∷ fields ps
fields (Graphic g ∷ ps) = fields ps
fields (Control s ∷ ps) = fields ps
fields (Unused ∷ ps) = fields ps

-- the field in force behind positions: the last field code among them, or f, which was in force before them
abbrev pub field_behind : Field → List Position → Field
field_behind f ps = last f (fields ps)

-- the characters of transparent field codes, in order
abbrev pub characters : List Position → List ℕ
characters [] = []
characters (Letter c ∷ ps) = characters ps
characters (Attribute a ∷ ps) = characters ps
characters (Pair a c ∷ ps) = c ∷ characters ps
characters (Graphic g ∷ ps) = characters ps
characters (Control s ∷ ps) = characters ps
characters (Unused ∷ ps) = characters ps

-- of characters numbered from i on, those whose number has the same remainder by 16 as k
abbrev pub alike : (k i : ℕ) → List ℕ → List ℕ
alike k i [] = []
alike k i (c ∷ cs) = cond (i % 16 == k % 16) (c ∷ alike k (suc i) cs) (alike k (suc i) cs)

-- the field character memory has sixteen places: field character number k of the row is shown as the last one in its place
abbrev pub memory : List Position → (k : ℕ) → ℕ
memory ps k = last 0 (alike k 0 (characters ps))

-- a position in its field; m is what the field character memory has for it
abbrev pub shown : Field → (m : ℕ) → Position → Cell
shown f m (Letter c) = Text c f
shown f m (Attribute a) = Dark
shown f m (Pair a c) = Text m f
shown f m (Graphic g) = Symbol g f
shown f m (Control s) = Dark
shown f m Unused = Dark

-- dark where there is no position
abbrev pub shown_at : Option Position → Field → (m : ℕ) → Cell
shown_at None f m = Dark
shown_at (Some x) f m = shown f m x

-- what position p of a row shows, where f is the field in force behind the rows above:
-- its own kind, in the field of the last effective field code up to it
abbrev pub cell : Field → List Position → (p : ℕ) → Cell
cell f ps p = shown_at (at (effective ps) p) (field_behind f (take (suc p) (effective ps))) (memory ps (length (characters (take p ps))))
