-- A row buffer, byte by byte.
use Rattle.std.specs.Prelude.{ℕ, zero, suc, ◌-◌, ◌%◌, Bool, true, false, cond, not, ◌&&◌, ◌||◌, List, [], ◌∷◌, ◌++◌, length, replicate, Some, None, Option, ◌==◌, nat_le, slice_index, slice_set}
use Rattle.video.specs.Fields.{field_of, no_field}
use Rattle.video.specs.declared.field.Field.{Field}
use Rattle.video.specs.declared.cell.Cell.{Cell}
use Rattle.video.specs.declared.cell.Cell.TheVariants.{Dark, Text, Symbol}
use Rattle.rows.specs.declared.kinds.Position.{Position}
use Rattle.rows.specs.declared.kinds.Position.TheVariants.{Letter, Attribute, Pair, Graphic, Control, Unused}
use Rattle.rows.specs.declared.kinds.Phase.{Phase}
use Rattle.rows.specs.declared.kinds.Phase.TheVariants.{Ready, Second, Extra, Done}
use Rattle.rows.specs.declared.kinds.Column.{Column}
use Rattle.rows.specs.declared.kinds.Column.TheVariants.{Fixed, Memory}
use Rattle.rows.specs.Lists.{some}
use Rattle.rows.specs.Positions.{field_code, read, stops, ends, ends_screen, stops_all}

-- how far the taking of a row has come: positions still to fill, bytes taken, an F3 in this row or above it
pub record Taken : Type 0 where
  pub phase : Phase
  pub room : ℕ
  pub taken : ℕ
  pub over : Bool

abbrev pub done : Phase → Bool
done Ready = false
done (Second a) = false
done Extra = false
done Done = true

unfoldable pub full : Taken → Bool
full t = done t.phase || t.room == 0

-- the position that a byte fills, if it does
abbrev pub fills : (f : Bool) → Phase → ℕ → List Position
fills f Ready b = cond (not f && field_code b) [] (read b ∷ [])
fills f (Second a) b = Pair a (b % 128) ∷ []
fills f Extra b = []
fills f Done b = []

-- where the taking stands behind a byte that is its burst's last or fills the row, or neither
abbrev pub phase_after : (f last fills_row : Bool) → Phase → ℕ → Phase
phase_after f last filled Ready b = cond (not f && field_code b) (Second (field_of b)) (cond (stops (read b)) (cond (last || filled) Done Extra) Ready)
phase_after f last filled (Second a) b = Ready
phase_after f last filled Extra b = Done
phase_after f last filled Done b = Done

unfoldable pub took : (f : Bool) (n : ℕ) → Taken → ℕ → Taken
took f n t b =
    record {
      phase = phase_after f (suc t.taken % n == 0) (nat_le t.room 1) t.phase b;
      room = t.room - length (fills f t.phase b);
      taken = suc t.taken;
      over = t.over || some stops_all (fills f t.phase b);
    }

-- what a row will show: its columns, its field character memory and how many characters went into it, the field in force,
-- an F0 to F3 in this row, an F2 or F3 in it or above it, an F2 or F3 above it
pub record Shown : Type 0 where
  pub columns : List Column
  pub ring : List ℕ
  pub pairs : ℕ
  pub field : Field
  pub ended : Bool
  pub below : Bool
  pub hidden : Bool

-- the field behind a position
abbrev pub turned : Field → Position → Field
turned f (Letter c) = f
turned f (Attribute a) = a
turned f (Pair a c) = a
turned f (Graphic g) = f
turned f (Control s) = f
turned f Unused = f

-- the same where the row may have ended, and field codes have no effect then
abbrev pub in_force : (ended : Bool) → Field → Position → Field
in_force e f (Letter c) = f
in_force e f (Attribute a) = cond e f a
in_force e f (Pair a c) = cond e f a
in_force e f (Graphic g) = f
in_force e f (Control s) = f
in_force e f Unused = f

-- a column in the field f, where k field characters stand before it
abbrev pub column : Field → (k : ℕ) → Position → Column
column f k (Letter c) = Fixed (Text c f)
column f k (Attribute a) = Fixed Dark
column f k (Pair a c) = Memory k f
column f k (Graphic g) = Fixed (Symbol g f)
column f k (Control s) = Fixed Dark
column f k Unused = Fixed Dark

-- the field character memory behind a position, and the count
abbrev pub stored : List ℕ → ℕ → Position → List ℕ
stored r k (Letter c) = r
stored r k (Attribute a) = r
stored r k (Pair a c) = slice_set r (k % 16) c
stored r k (Graphic g) = r
stored r k (Control s) = r
stored r k Unused = r

abbrev pub counted : ℕ → Position → ℕ
counted k (Letter c) = k
counted k (Attribute a) = k
counted k (Pair a c) = suc k
counted k (Graphic g) = k
counted k (Control s) = k
counted k Unused = k

-- one position more; behind an F0 to F3 columns are dark and field codes without effect
unfoldable pub put : Shown → Position → Shown
put s p =
    record {
      columns = s.columns ++ (cond s.ended (Fixed Dark) (column (turned s.field p) s.pairs p) ∷ []);
      ring = stored s.ring s.pairs p;
      pairs = counted s.pairs p;
      field = in_force s.ended s.field p;
      ended = ends p || s.ended;
      below = ends_screen p || s.below;
      hidden = s.hidden;
    }

unfoldable pub puts : Shown → List Position → Shown
puts s [] = s
puts s (p ∷ ps) = puts (put s p) ps

pub record Buffer : Type 0 where
  pub take : Taken
  pub show : Shown

unfoldable pub eat : (f : Bool) (n : ℕ) → Buffer → ℕ → Buffer
eat f n b x = record { take = took f n b.take x; show = puts b.show (fills f b.take.phase x) }

-- a row with no position yet, where a field is in force, below an F2 or F3 or not
abbrev pub empty_row : Field → (hidden : Bool) → Shown
empty_row f hidden = record { columns = []; ring = replicate 16 0; pairs = 0; field = f; ended = false; below = hidden; hidden = hidden }

-- what stands above the first row
abbrev pub nothing : Shown
nothing = empty_row no_field false

abbrev pub top : Buffer
top = record { take = record { phase = Done; room = 0; taken = 0; over = false }; show = nothing }

-- a buffer for a row below one that left `over` and `above`; an idle row takes nothing
unfoldable pub fresh : (h : ℕ) (idle over : Bool) (above : Shown) → Buffer
fresh h idle over above =
    record {
      take = record { phase = cond (idle || over) Done Ready; room = h; taken = 0; over = over };
      show = empty_row above.field above.below;
    }

-- a row read to its end: how many bytes it took, what it leaves, the bytes behind it; none where the bytes do not suffice
pub record Reading : Type 0 where
  pub taken : ℕ
  pub over : Bool
  pub show : Shown
  pub left : List ℕ

abbrev pub ending : Buffer → List ℕ → Option Reading
ending b bs = Some (record { taken = b.take.taken; over = b.take.over; show = b.show; left = bs })

unfoldable pub reads : (f : Bool) (n : ℕ) → Buffer → List ℕ → Option Reading
reads f n b [] = elim (full b.take) [ true ↦ ending b [] | false ↦ None ]
reads f n b (x ∷ xs) = elim (full b.take) [ true ↦ ending b (x ∷ xs) | false ↦ reads f n (eat f n b x) xs ]

-- a column with the characters of the field character memory put in
abbrev pub resolved : List ℕ → Column → Cell
resolved r (Fixed c) = c
resolved r (Memory k f) = Text (slice_index r (k % 16)) f

-- column number p, dark where there is none
abbrev pub cell_of : List ℕ → List Column → ℕ → Cell
cell_of r [] p = Dark
cell_of r (s ∷ ss) zero = resolved r s
cell_of r (s ∷ ss) (suc p) = cell_of r ss p

-- what column p shows: nothing below an F2 or F3
abbrev pub column_cell : Shown → ℕ → Cell
column_cell s p = cond s.hidden Dark (cell_of s.ring s.columns p)
