-- The screen composition.
use Rattle.std.specs.Prelude.{ℕ, ◌+◌, ◌-◌, ◌*◌, ◌/◌, ◌%◌, ◌<◌, ◌≤◌, Bool, cond, ◌==◌, nat_le, ◌≡◌, true, false, Result, IfOk, MatchResult}
use Rattle.video.specs.declared.format.CursorFormat.{CursorFormat}
use Rattle.video.specs.declared.format.CursorFormat.TheVariants.{BlinkingBlock, BlinkingUnderline, Block, Underline}
use Rattle.video.specs.declared.composition.Composition.{Composition}
use Rattle.video.specs.declared.parameters.ResetParameters.{ResetParameters}
use Rattle.refusal.specs.declared.Refusal.{Refusal}
use Rattle.refusal.specs.declared.Refusal.TheVariants.{TooManyColumns}

-- h characters and z clocks of retrace to a line, l lines to a row, r rows and v row times of retrace to a frame;
-- underlines on line u; with f a field code has a position of its own
pub record Shape : Type 0 where
  pub h : ℕ
  pub z : ℕ
  pub l : ℕ
  pub r : ℕ
  pub v : ℕ
  pub u : ℕ
  pub f : Bool
  pub offset : Bool
  pub spaced : Bool
  pub cursor : CursorFormat

-- the ranges of every composition
pub record Proper (c : Shape) : Type 0 where
  pub h_range : (1 ≤ c.h) × (c.h ≤ 80)
  pub z_range : (2 ≤ c.z) × (c.z ≤ 32)
  pub l_range : (1 ≤ c.l) × (c.l ≤ 16)
  pub r_range : (1 ≤ c.r) × (c.r ≤ 64)
  pub v_range : (1 ≤ c.v) × (c.v ≤ 4)
  pub u_range : c.u < 16

abbrev pub cursor_format : ℕ → CursorFormat
cursor_format code = cond (code == 0) BlinkingBlock (cond (code == 1) BlinkingUnderline (cond (code == 2) Block Underline))

-- the first parameter asks for at most 80 characters
abbrev pub allowed : ℕ → Bool
allowed first = nat_le (first % 128) 79

-- what the four parameters of Reset say
abbrev pub composed : (first second third fourth : ℕ) → Shape
composed p q s t =
    record {
      spaced = nat_le 128 p;
      h = p % 128 + 1;
      v = q / 64 % 4 + 1;
      r = q % 64 + 1;
      u = s / 16 % 16;
      l = s % 16 + 1;
      offset = nat_le 128 t;
      f = (t / 64 % 2 == 1);
      cursor = cursor_format (t / 16 % 4);
      z = 2 * (t % 16) + 2;
    }

-- the composition that the library holds
abbrev pub shape_of : Composition → Shape
shape_of c =
    record {
      h = c.columns;
      z = c.retrace;
      l = c.lines;
      r = c.rows;
      v = c.vretrace;
      u = c.underline;
      f = c.opaque;
      offset = c.offset;
      spaced = c.spaced;
      cursor = c.cursor;
    }

-- what the library makes of the four parameters
pub record Composes (p : ResetParameters) (r : Result Composition Refusal) : Type 0 where
  pub composed : MatchResult r (λ c. (allowed p.first ≡ true) × (shape_of c ≡ composed p.first p.second p.third p.fourth)) (λ e. (allowed p.first ≡ false) × (e ≡ TooManyColumns))
  pub proper : IfOk r (λ c. Proper (shape_of c))

-- the clocks of a line
abbrev pub width : Shape → ℕ
width c = c.h + c.z

-- the line count that line number `line` of a row puts out
abbrev pub line_count : Shape → (line : ℕ) → ℕ
line_count c line = cond c.offset (cond (line == 0) (c.l - 1) (line - 1)) line
