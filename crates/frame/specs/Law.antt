-- The law of a frame.
use Rattle.std.specs.Prelude.{◌≡◌, ℕ, zero, suc, ◌+◌, ◌*◌, ◌/◌, ◌%◌, ◌<◌, ◌≤◌, Bool, true, false, ◌&&◌, ◌||◌, List, [], ◌∷◌, length, Some, ◌==◌, nat_le, nat_lt, slice_index}
use Rattle.refusal.specs.declared.Refusal.{Refusal}
use Rattle.source.specs.Meaning.{Meaning}
use Rattle.video.specs.Composition.{Shape, line_count}
use Rattle.video.specs.Picture.{bit, dark_word}
use Rattle.rows.specs.Page.{picture}
use Rattle.frame.specs.declared.call.Call.{Call}
use Rattle.frame.specs.declared.call.Call.TheVariants.{Command, Parameter, Status, Read, Stroke, Clock}
use Rattle.frame.specs.Ports.{State, Core, new, command_refusal, parameter_refusal}
use Rattle.frame.specs.Timing.{in_time, requested}
use Rattle.frame.specs.History.{Moment, after, answers, words, call_state, call_source}

-- the first clock of row time 0 comes next
unfoldable pub at_start : Core → Bool
at_start k = k.row == 0 && (k.line == 0 && k.column == 0)

-- a console with the composition c that stands at the first clock of an armed frame
pub record Ready (c : Shape) (s : State) : Type 0 where
  pub composed : s.shape ≡ Some c
  pub first : at_start s.core ≡ true
  pub enabled : s.control.ve ≡ true

-- two consoles are alike in all that a frame's picture depends on
pub record Alike (s s₂ : State) : Type 0 where
  pub shape : s₂.shape ≡ s.shape
  pub cursor : s₂.cursor ≡ s.cursor
  pub core : s₂.core ≡ s.core
  pub video : s₂.control.ve ≡ s.control.ve
  pub bursts : s₂.control.bursts ≡ s.control.bursts

-- between the clocks nothing but calls that leave all of that as it was, as reads, pen strokes and refused writes do
abbrev pub QuietCall : Call → State → State → Type 0
QuietCall (Command b) s s₂ = Alike s s₂
QuietCall (Parameter b) s s₂ = Alike s s₂
QuietCall Status s s₂ = Alike s s₂
QuietCall Read s s₂ = Alike s s₂
QuietCall Stroke s s₂ = Alike s s₂
QuietCall Clock s s₂ = Unit {0}

abbrev pub Quiet : List Moment → State → Type 0
Quiet [] s = Unit {0}
Quiet (e ∷ es) s = QuietCall e.call s (call_state e.call s e.found) × Quiet es (call_state e.call s e.found)

abbrev pub clock_count : Call → ℕ
clock_count (Command b) = 0
clock_count (Parameter b) = 0
clock_count Status = 0
clock_count Read = 0
clock_count Stroke = 0
clock_count Clock = 1

abbrev pub clocks : List Moment → ℕ
clocks [] = 0
clocks (e ∷ es) = clock_count e.call + clocks es

-- what clock t of the frame finds: the bus as `free` says; the page at the first clock, and then the rest that the clock before left
abbrev pub FoundAt : (page : List ℕ) (free : ℕ → Bool) (t : ℕ) (rest : List ℕ) → Meaning → Type 0
FoundAt page free zero rest m = (m.free 0 ≡ free 0) × (m.page ≡ page)
FoundAt page free (suc t) rest m = (m.free 0 ≡ free (suc t)) × (m.rest ≡ rest)

abbrev pub FoundBy : Call → (page : List ℕ) (free : ℕ → Bool) (t : ℕ) (rest : List ℕ) → Meaning → Type 0
FoundBy (Command b) page free t rest m = Unit {0}
FoundBy (Parameter b) page free t rest m = Unit {0}
FoundBy Status page free t rest m = Unit {0}
FoundBy Read page free t rest m = Unit {0}
FoundBy Stroke page free t rest m = Unit {0}
FoundBy Clock page free t rest m = FoundAt page free t rest m

abbrev pub rest_by : Call → (rest : List ℕ) → Meaning → List ℕ
rest_by (Command b) rest m = rest
rest_by (Parameter b) rest m = rest
rest_by Status rest m = rest
rest_by Read rest m = rest
rest_by Stroke rest m = rest
rest_by Clock rest m = m.rest

abbrev pub Found : (page : List ℕ) (free : ℕ → Bool) (t : ℕ) (rest : List ℕ) → List Moment → State → Type 0
Found page free t rest [] s = Unit {0}
Found page free t rest (e ∷ es) s =
    FoundBy e.call page free t rest e.found
    × Found page free (clock_count e.call + t) (rest_by e.call rest (call_source e.call s e.found)) es (call_state e.call s e.found)

-- a clock's picture bits and its request line
unfoldable pub picture_bits : ℕ → ℕ
picture_bits w = w % 0x400000

unfoldable pub request_bit : ℕ → ℕ
request_bit w = w / 0x400000 % 2

-- the number of a clock in its frame, by row time, line and clock of the line
abbrev pub place : Shape → (j line p : ℕ) → ℕ
place c j line p = j * ((c.h + c.z) * c.l) + line * (c.h + c.z) + p

-- the clock's place is inside the frame's part that was played
abbrev pub Played : Shape → (clocks j line p : ℕ) → Type 0
Played c n j line p = (line < c.l) × (p < c.h + c.z) × (place c j line p < n)

-- two consoles that are to show the same picture of a page
pub record Equal (s s₂ : State) : Type 0 where
  pub shape : s₂.shape ≡ s.shape
  pub cursor : s₂.cursor ≡ s.cursor
  pub blink : s₂.core.blink ≡ s.core.blink
  pub bursts : s₂.control.bursts ≡ s.control.bursts

-- The law, of n clocks from the first clock of an armed frame of the console s on, over the page and the bus that these clocks found;
-- e is where they and the calls between them lead, and ws are the clocks' words. It holds of each number of clocks up to a whole frame
pub record Law (c : Shape) (s : State) (page : List ℕ) (free : ℕ → Bool) (n : ℕ) (e : State) (ws : List ℕ) : Type 0 where
  -- row time 0 begins again after exactly (H + Z) × L × (R + V) clocks, and not before
  pub lasts : n ≡ (c.h + c.z) * c.l * (c.r + c.v) → at_start e.core ≡ true
  pub not_before : 0 < n → n < (c.h + c.z) * c.l * (c.r + c.v) → at_start e.core ≡ false
  pub one_each : length ws ≡ n
  -- a row with no late row down to it shows the page's picture
  pub shows :
      (j line p : ℕ) → Played c n j line p → 1 ≤ j → j ≤ c.r → in_time c s.control.bursts page free j ≡ true
      → picture_bits (slice_index ws (place c j line p)) ≡ picture c s.control.bursts.n page s.cursor s.core.blink j line p
  -- a late row and every row below it are dark, and so is vertical retrace
  pub dark :
      (j line p : ℕ) → Played c n j line p → j ≤ c.r → in_time c s.control.bursts page free j ≡ false
      → picture_bits (slice_index ws (place c j line p)) ≡ dark_word (line_count c line) (nat_le c.h p) false
  pub retrace :
      (j line p : ℕ) → Played c n j line p → (j == 0 || nat_lt c.r j) ≡ true
      → picture_bits (slice_index ws (place c j line p)) ≡ dark_word (line_count c line) (nat_le c.h p) true
  -- the request line is on from the opening of a byte until it is taken, and at no other clock
  pub asks : (j line p : ℕ) → Played c n j line p → request_bit (slice_index ws (place c j line p)) ≡ bit (requested c s.control.bursts page free j (place c j line p))
  -- over a bus that is free wherever this one is in the frame, an equal console loses no row
  pub freer :
      (h₂ es₂ : List Moment) (free₂ : ℕ → Bool) → Ready c (after h₂ new) → Equal s (after h₂ new) → ((t : ℕ) → t < (c.h + c.z) * c.l * (c.r + c.v) → free t ≡ true → free₂ t ≡ true)
      → Quiet es₂ (after h₂ new) → Found page free₂ 0 [] es₂ (after h₂ new) → clocks es₂ ≤ (c.h + c.z) * c.l * (c.r + c.v)
      → (j : ℕ) → j ≤ c.r → in_time c s.control.bursts page free j ≡ true
      → (in_time c (after h₂ new).control.bursts page free₂ j ≡ true)
      × ((line p : ℕ) → 1 ≤ j → Played c n j line p → Played c (clocks es₂) j line p
      → picture_bits (slice_index ws (place c j line p)) ≡ picture_bits (slice_index (words (answers es₂ (after h₂ new))) (place c j line p)))

-- for every history from a new console that leads to the first clock of an armed frame, and every list of moments from there on
-- that stays inside the frame
abbrev pub FrameLaw : Type 0
FrameLaw =
    (c : Shape) (h es : List Moment) (page : List ℕ) (free : ℕ → Bool) → Ready c (after h new) → Quiet es (after h new)
    → Found page free 0 [] es (after h new) → clocks es ≤ (c.h + c.z) * c.l * (c.r + c.v)
    → Law c (after h new) page free (clocks es) (after es (after h new)) (words (answers es (after h new)))

-- the calls that leave a frame as it was: reads, pen strokes, and writes that are refused
pub record Harmless : Type 0 where
  pub status : (s : State) (m : Meaning) → Alike s (call_state Status s m)
  pub read : (s : State) (m : Meaning) → Alike s (call_state Read s m)
  pub stroke : (s : State) (m : Meaning) → Alike s (call_state Stroke s m)
  pub command : (s : State) (m : Meaning) (b : ℕ) (e : Refusal) → command_refusal b ≡ Some e → call_state (Command b) s m ≡ s
  pub parameter : (s : State) (m : Meaning) (b : ℕ) (e : Refusal) → parameter_refusal s b ≡ Some e → call_state (Parameter b) s m ≡ s
