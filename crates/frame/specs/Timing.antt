-- When the bytes of a row are asked for and taken, and when a row is late. Clocks are counted from the frame's first.
use Rattle.std.specs.Prelude.{ℕ, zero, suc, ◌+◌, ◌-◌, ◌*◌, ◌%◌, Bool, true, false, cond, not, ◌&&◌, ◌||◌, List, length, ◌==◌, nat_le, nat_lt}
use Rattle.video.specs.Composition.{Shape, width}
use Rattle.rows.specs.Page.{row}
use Rattle.frame.specs.Ports.{Bursts}

-- the clocks of a line, of a row time, and of a frame
unfoldable pub line_clocks : Shape → ℕ
line_clocks c = width c

unfoldable pub span : Shape → ℕ
span c = c.l * line_clocks c

unfoldable pub total : Shape → ℕ
total c = (c.r + c.v) * span c

-- the first free clock among `m` from `o` on, or `o + m` where none of them is free
unfoldable pub seek : (ℕ → Bool) → (m o : ℕ) → ℕ
seek free zero o = o
seek free (suc m) o = elim (free o) [ true ↦ o | false ↦ seek free m (suc o) ]

-- the first free clock not before o; at or after `end` where none before `end` is free
unfoldable pub first_free : (ℕ → Bool) → (end o : ℕ) → ℕ
first_free free end o = seek free (end - o) o

-- what passes behind byte number k of a row: the burst space where a burst ends
abbrev pub pause : Bursts → (k : ℕ) → ℕ
pause b k = cond (k % b.n == 0) b.d 0

-- of a row whose row time begins at the clock `base`: from when on the byte behind k others is asked for
unfoldable pub opens : (ℕ → Bool) → (end : ℕ) → Bursts → (base k : ℕ) → ℕ
opens free end b base zero = base
opens free end b base (suc k) = suc (first_free free end (opens free end b base k)) + pause b (suc k)

-- and when it is taken: in the first free clock from there on
unfoldable pub takes : (ℕ → Bool) → (end : ℕ) → Bursts → (base k : ℕ) → ℕ
takes free end b base k = first_free free end (opens free end b base k)

-- the last of `count` bytes is not taken before the clock `stop`
abbrev pub overdue : (ℕ → Bool) → (end : ℕ) → Bursts → (base stop count : ℕ) → Bool
overdue free end b base stop zero = false
overdue free end b base stop (suc k) = nat_le stop (takes free end b base k)

-- row j is late: the page ends before it does, or its last byte is not taken inside row time j - 1
unfoldable pub late : Shape → Bursts → (page : List ℕ) → (ℕ → Bool) → (j : ℕ) → Bool
late c b page free zero = false
late c b page free (suc i) =
    not (row c b.n page (suc i)).whole || overdue free (total c) b (i * span c) (suc i * span c) (row c b.n page (suc i)).taken

-- none of rows 1 to j is late
unfoldable pub in_time : Shape → Bursts → (page : List ℕ) → (ℕ → Bool) → (j : ℕ) → Bool
in_time c b page free zero = true
in_time c b page free (suc i) = in_time c b page free i && not (late c b page free (suc i))

-- at the clock t one of the first k bytes is asked for: from its opening until it is taken
abbrev pub asked : (ℕ → Bool) → (end : ℕ) → Bursts → (base t k : ℕ) → Bool
asked free end b base t zero = false
asked free end b base t (suc k) = asked free end b base t k || (nat_le (opens free end b base k) t && nat_le t (takes free end b base k))

-- the same of all bytes of a row; where the page ends, the byte that it lacks is asked for until the row time's end
abbrev pub asked_of : (ℕ → Bool) → (end : ℕ) → Bursts → (base t : ℕ) → (whole : Bool) → (count there : ℕ) → Bool
asked_of free end b base t true count there = asked free end b base t count
asked_of free end b base t false count there = asked free end b base t there || nat_le (opens free end b base there) t

-- at the clock t of row time j the request line is on: none of the rows down to row j is late, and row j + 1 asks for a byte
unfoldable pub requested : Shape → Bursts → (page : List ℕ) → (ℕ → Bool) → (j t : ℕ) → Bool
requested c b page free j t =
    nat_lt j c.r && (in_time c b page free j
    && asked_of free (total c) b (j * span c) t (row c b.n page (suc j)).whole (row c b.n page (suc j)).taken (length page - (row c b.n page (suc j)).place))
