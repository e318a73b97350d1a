use Rattle.std.proofs.Common.{◌≡◌, ◌-◌, vec_items}
use Rattle.film.specs.FrameRows.{with_frame_rows}
use Rattle.film.proofs.film.Film.put_listing.Given as goal

-- the wanted of the rows above are written
abbrev pub invariant-loop-row : goal.invariant-loop-row
invariant-loop-row l = vec_items l.out ≡ with_frame_rows l.self l.log l.late l.only (vec_items l.initial.out) (l.row - 1)
