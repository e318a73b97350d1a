-- Clocks in which nothing begins and no byte is asked for.
use Rattle.std.specs.Prelude.{◌≡◌, ℕ, zero, suc, ◌+◌, ◌-◌, ◌*◌, ◌<◌, ◌≤◌, Bool, true, false, ◌&&◌, List, [], ◌∷◌, length, Option, ◌==◌, slice_index_or}
use Rattle.video.specs.Composition.{Shape, width}
use Rattle.video.specs.Picture.{bit, look}
use Rattle.rows.specs.Buffer.{Shown, column_cell}
use Rattle.rows.specs.Page.{cursor_in}
use Rattle.frame.specs.declared.call.Call.{Call}
use Rattle.frame.specs.declared.call.Call.TheVariants.{Command, Clock}
use Rattle.frame.specs.declared.call.Answer.{Answer}
use Rattle.frame.specs.declared.call.Answer.TheVariants.{Word}
use Rattle.frame.specs.Ports.{Core}
use Rattle.frame.specs.Machine.{underrun, lit, pictured}
use Rattle.console.specs.declared.raster.Raster.{Raster}
use Rattle.console.specs.Raster.{core_of, AtHand}

-- the core n such clocks on: the burst space runs out, and the counters go on in their line
abbrev pub idled : (n : ℕ) → Core → Core
idled n k =
    record {
      row = k.row;
      line = k.line;
      column = k.column + n;
      blink = k.blink;
      armed = k.armed;
      dark = k.dark;
      bursts = k.bursts;
      gap = k.gap - n;
      fill = k.fill;
      shown = k.shown;
    }

-- n clocks inside a line, none of them the first of a row time, in which the row that is taken asks for nothing
pub record Idle (c : Shape) (k : Core) (n : ℕ) : Type 0 where
  pub begun : 0 < n → (k.line == 0 && k.column == 0) ≡ false
  pub inside : k.column + n < width c
  pub unasked : underrun k ≡ true → n ≤ k.gap

-- they can be put out at once: dark, or columns whose looks are at hand, ahead of the cursor
abbrev pub Drawable : Shape → Option (ℕ × ℕ) → Raster → (n : ℕ) → Type 0
Drawable c q k n =
    lit c (core_of k) ≡ true → 0 < n → AtHand c k × ((p : ℕ) → k.beam.column ≤ p → p < k.beam.column + n → cursor_in q k.beam.row p ≡ false)

-- what n such clocks answer
abbrev pub idle_words : Shape → Option (ℕ × ℕ) → (irq : Bool) → (n : ℕ) → Core → List Answer
idle_words c q irq zero k = []
idle_words c q irq (suc n) k = Word (pictured c q k + 0x800000 * bit irq) ∷ idle_words c q irq n (idled 1 k)

-- the same of columns by their looks, from column p on, and of n words that are one and the same
abbrev pub looked : Shape → (line blink : ℕ) → Shown → (base n p : ℕ) → List Answer
looked c line k s base zero p = []
looked c line k s base (suc n) p = Word (look c line k (column_cell s p) + base) ∷ looked c line k s base n (p + 1)

abbrev pub repeated : (word n : ℕ) → List Answer
repeated w zero = []
repeated w (suc n) = Word w ∷ repeated w n

-- the first n of some calls are clocks
pub record Clocks (n : ℕ) (cs : List Call) : Type 0 where
  pub enough : n ≤ length cs
  pub each : (i : ℕ) → i < n → slice_index_or cs i (Command 0) ≡ Clock
