-- The picture bits of a clock.
use Rattle.std.specs.Prelude.{ℕ, ◌+◌, ◌*◌, ◌/◌, ◌%◌, Bool, true, false, cond, not, ◌&&◌, ◌||◌, List, [], ◌∷◌, ◌==◌, nat_le, nat_lt, slice_index_or}
use Rattle.video.specs.Composition.{Shape, line_count}
use Rattle.video.specs.Fields.{has}
use Rattle.video.specs.declared.format.CursorFormat.{CursorFormat}
use Rattle.video.specs.declared.format.CursorFormat.TheVariants.{BlinkingBlock, BlinkingUnderline, Block, Underline}
use Rattle.video.specs.declared.field.Field.{Field}
use Rattle.video.specs.declared.mark.Mark.{Mark}
use Rattle.video.specs.declared.mark.Mark.TheVariants.{Plain, Vsp, Lten, La01, La10, La11}
use Rattle.video.specs.declared.scan.ScanLine.{ScanLine}
use Rattle.video.specs.declared.signals.Signals.{Signals}
use Rattle.video.specs.declared.cell.Cell.{Cell}
use Rattle.video.specs.declared.cell.Cell.TheVariants.{Dark, Text, Symbol}

-- the graphic codes 0 to 11: above the line U, on it, below it
abbrev pub marks : List (Mark × Mark × Mark)
marks =
    (Vsp, La10, La01) ∷ (Vsp, La11, La01) ∷ (La01, La10, Vsp) ∷ (La01, La11, Vsp)
    ∷ (Vsp, Lten, La01) ∷ (La01, La11, La01) ∷ (La01, La10, La01) ∷ (La01, Lten, Vsp)
    ∷ (Vsp, Lten, Vsp) ∷ (La01, La01, La01) ∷ (La01, Lten, La01) ∷ (Plain, Plain, Plain) ∷ []

abbrev pub mark : (u line code : ℕ) → Mark
mark u line code =
    cond (nat_lt line u) (slice_index_or marks code (Plain, Plain, Plain)).0
    (cond (line == u) (slice_index_or marks code (Plain, Plain, Plain)).1 (slice_index_or marks code (Plain, Plain, Plain)).2)

-- LA1, LA0, LTEN and VSP of a mark
abbrev pub marked : Mark → Bool × Bool × Bool × Bool
marked Plain = (false, false, false, false)
marked Vsp = (false, false, false, true)
marked Lten = (false, false, true, false)
marked La01 = (false, true, false, false)
marked La10 = (true, false, false, false)
marked La11 = (true, true, false, false)

-- a character in its field, at a blink count
abbrev pub text_signals : (u line blink cc : ℕ) → Field → Signals
text_signals u line k c f =
    record {
      cc = c;
      la1 = false;
      la0 = false;
      lten = f.underline && (line == u);
      rvv = f.reverse;
      vsp = f.blink && nat_le 16 k;
      hglt = f.highlight;
      gpa1 = f.gpa1;
      gpa0 = f.gpa0;
    }

-- a graphic byte: code in bits 5 to 2, blink in bit 1, highlight in bit 0
abbrev pub graphic_signals : (u line blink byte : ℕ) → Field → Signals
graphic_signals u line k b f =
    record {
      cc = b % 128;
      la1 = (marked (mark u line (b / 4 % 16))).0;
      la0 = (marked (mark u line (b / 4 % 16))).1;
      lten = (marked (mark u line (b / 4 % 16))).2;
      rvv = f.reverse;
      vsp = (marked (mark u line (b / 4 % 16))).3 || (has 2 b && nat_le 16 k);
      hglt = has 1 b;
      gpa1 = f.gpa1;
      gpa0 = f.gpa0;
    }

-- with U of 8 or more the first and the last line have VSP
abbrev pub blanked : (u lines line : ℕ) → Bool
blanked u n line = nat_le 8 u && (line == 0 || line + 1 == n)

abbrev pub cursor_acts : CursorFormat → (blink : ℕ) → Bool
cursor_acts BlinkingBlock k = nat_lt (k % 16) 8
cursor_acts BlinkingUnderline k = nat_lt (k % 16) 8
cursor_acts Block k = true
cursor_acts Underline k = true

abbrev pub is_block : CursorFormat → Bool
is_block BlinkingBlock = true
is_block BlinkingUnderline = false
is_block Block = true
is_block Underline = false

-- with the suppressed lines, and the cursor where it is `here`: a block inverts RVV, an underline sets LTEN on line U
abbrev pub finished : Shape → (line blink : ℕ) (here : Bool) → Signals → Signals
finished c line k here x =
    record {
      cc = x.cc;
      la1 = x.la1;
      la0 = x.la0;
      hglt = x.hglt;
      gpa1 = x.gpa1;
      gpa0 = x.gpa0;
      lten = x.lten || (here && cursor_acts c.cursor k && not (is_block c.cursor) && line == c.u);
      rvv = cond (here && cursor_acts c.cursor k && is_block c.cursor) (not x.rvv) x.rvv;
      vsp = x.vsp || blanked c.u c.l line;
    }

abbrev pub bit : Bool → ℕ
bit b = cond b 1 0

-- the word of a column: bits 0 to 6 CC, 8 to 11 the line count, then LA0, LA1, LTEN, RVV, VSP, HGLT, GPA0, GPA1
abbrev pub signals_word : (count : ℕ) → Signals → ℕ
signals_word n x =
    x.cc % 128 + 0x100 * n + 0x1000 * bit x.la0 + 0x2000 * bit x.la1 + 0x4000 * bit x.lten + 0x8000 * bit x.rvv
    + 0x10000 * bit x.vsp + 0x20000 * bit x.hglt + 0x40000 * bit x.gpa0 + 0x80000 * bit x.gpa1

-- dark: VSP, and every other bit off but the line count, HRTC (bit 20) and VRTC (bit 21)
abbrev pub dark_word : (count : ℕ) (hrtc vrtc : Bool) → ℕ
dark_word n hrtc vrtc = 0x100 * n + 0x10000 + 0x100000 * bit hrtc + 0x200000 * bit vrtc

-- the picture bits of a column, on a line, at a blink count
unfoldable pub cell_word : Shape → (line blink : ℕ) (here : Bool) → Cell → ℕ
cell_word c line k here Dark = dark_word (line_count c line) false false
cell_word c line k here (Text cc f) = signals_word (line_count c line) (finished c line k here (text_signals c.u line k cc f))
cell_word c line k here (Symbol b f) = signals_word (line_count c line) (finished c line k here (graphic_signals c.u line k b f))

-- the kind of a line, at a blink count: where it lies to line U, whether blinking characters are off, and whether it is suppressed throughout
abbrev pub scan_line : Shape → (line blink : ℕ) → ScanLine
scan_line c line k = record { above = nat_lt line c.u; on = (line == c.u); off = nat_le 16 k; blanked = blanked c.u c.l line }

-- what a column has where no cursor stands, but for the line count
unfoldable pub look : Shape → (line blink : ℕ) → Cell → ℕ
look c line k Dark = dark_word 0 false false
look c line k (Text cc f) = signals_word 0 (finished c line k false (text_signals c.u line k cc f))
look c line k (Symbol b f) = signals_word 0 (finished c line k false (graphic_signals c.u line k b f))
