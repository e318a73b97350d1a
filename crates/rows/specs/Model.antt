-- What the library's row buffer stands for.
use Rattle.std.specs.Prelude.{ℕ, List, [], ◌∷◌, take, drop, Some, None, Option}
use Rattle.rows.specs.declared.kinds.Position.{Position}
use Rattle.rows.specs.declared.state.Taking.{Taking}
use Rattle.rows.specs.declared.state.Showing.{Showing}
use Rattle.rows.specs.declared.state.RowBuffer.{RowBuffer}
use Rattle.rows.specs.Buffer.{Taken, Shown, Buffer, Reading}

abbrev pub taken_of : Taking → Taken
taken_of t = record { phase = t.phase; room = t.room; taken = t.taken; over = t.over }

abbrev pub shown_of : Showing → Shown
shown_of s = record { columns = take s.len s.columns; ring = s.ring; pairs = s.pairs; field = s.field; ended = s.ended; below = s.below; hidden = s.hidden }

abbrev pub buffer_of : RowBuffer → Buffer
buffer_of b = record { take = taken_of b.take; show = shown_of b.show }

abbrev pub listed : Option Position → List Position
listed None = []
listed (Some p) = p ∷ []

-- a row that was fed from `part`
abbrev pub read_of : Option RowBuffer → List ℕ → Option Reading
read_of None part = None
read_of (Some b) part = Some (record { taken = b.take.taken; over = b.take.over; show = shown_of b.show; left = drop b.take.taken part })

abbrev pub bytes : Option RowBuffer → ℕ
bytes None = 0
bytes (Some b) = b.take.taken
