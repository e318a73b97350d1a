-- A column's word: by its look, and how large it is.
use Rattle.std.proofs.Common.{◌≡◌, ℕ, ◌+◌, ◌*◌, ◌<◌, ◌≤◌, Bool, true, false, ap, arith}
use Rattle.video.specs.Composition.{Shape, line_count}
use Rattle.video.specs.Picture.{bit, scan_line, text_signals, graphic_signals, finished, signals_word, cell_word, look}
use Rattle.video.specs.declared.cell.Cell.{Cell}
use Rattle.video.specs.declared.cell.Cell.TheVariants.{Dark, Text, Symbol}
use Rattle.video.specs.declared.scan.ScanLine.{ScanLine}
use Rattle.video.specs.declared.signals.Signals.{Signals}

counted : (n : ℕ) (x : Signals) → signals_word n x ≡ 0x100 * n + signals_word 0 x
counted n x = omega arith

-- where no cursor stands, a column's word is its look with the line count
pub word_by_look : (c : Shape) (line k : ℕ) (x : Cell) → cell_word c line k false x ≡ 0x100 * line_count c line + look c line k x
unfolding cell_word look
word_by_look c line k Dark = omega arith
word_by_look c line k (Text cc f) = counted (line_count c line) (finished c line k false (text_signals c.u line k cc f))
word_by_look c line k (Symbol b f) = counted (line_count c line) (finished c line k false (graphic_signals c.u line k b f))

-- lines of one kind have the same looks
pub look_same : (c d : Shape) (line line₂ k k₂ : ℕ) (x : Cell) → scan_line c line k ≡ scan_line d line₂ k₂ → look c line k x ≡ look d line₂ k₂ x
unfolding look
look_same c d line line₂ k k₂ Dark e = cc
look_same c d line line₂ k k₂ (Text cc f) e =
    let on = ap (λ (t : ScanLine). t.on) e in
    let off = ap (λ (t : ScanLine). t.off) e in
    let blanked = ap (λ (t : ScanLine). t.blanked) e in
    rw (on, off, blanked)
look_same c d line line₂ k k₂ (Symbol b f) e =
    let above = ap (λ (t : ScanLine). t.above) e in
    let on = ap (λ (t : ScanLine). t.on) e in
    let off = ap (λ (t : ScanLine). t.off) e in
    let blanked = ap (λ (t : ScanLine). t.blanked) e in
    rw (above, on, off, blanked)

signals_small : (x : Signals) → signals_word 0 x < 0x100000
signals_small x =
    omega (arith, bit_small x.la0, bit_small x.la1, bit_small x.lten, bit_small x.rvv, bit_small x.vsp, bit_small x.hglt, bit_small x.gpa0, bit_small x.gpa1)
  where
    bit_small : (v : Bool) → bit v ≤ 1
    bit_small true = omega arith
    bit_small false = omega arith

-- without line count and cursor a word lies below bit 20
pub look_small : (c : Shape) (line k : ℕ) (x : Cell) → look c line k x < 0x100000
unfolding look
look_small c line k Dark = omega arith
look_small c line k (Text cc f) = signals_small (finished c line k false (text_signals c.u line k cc f))
look_small c line k (Symbol b f) = signals_small (finished c line k false (graphic_signals c.u line k b f))
