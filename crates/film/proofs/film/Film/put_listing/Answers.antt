use Rattle.std.proofs.Common.{◌≡◌, ◌+◌, ◌-◌, vec_items, ap, sym, ◌∙◌, arith}
use Rattle.film.specs.FrameRows.{with_wanted_row, with_frame_rows}
use Rattle.film.proofs.FrameLines.{frame_rows_none, frame_rows_more, frame_closed}
use Rattle.film.proofs.film.Film.put_listing.Goals as goal
use Rattle.film.proofs.film.Film.put_listing.Goals.{else-loop-row-test, then-loop-row-test+else-row-row-end, then-wanted+in_ok-put_row, else-wanted}

pub loop-row-init : goal.loop-row-init
loop-row-init c = frame_rows_none c.args.self.now c.args.log.now c.first_late-late.result c.args.only (vec_items c.args.out.now)

pub loop-row-preserved : goal.loop-row-preserved
loop-row-preserved c =
    let n : vec_items c.if-wanted.out ≡ with_wanted_row c.args.self.now c.args.log.now c.first_late-late.result c.args.only c.loop-row.row (vec_items c.loop-row.out) =
    elim c.if-wanted.branch [ then-wanted+in_ok-put_row w ↦ grind arith | else-wanted w ↦ grind arith ] in
    let u : c.loop-row.row + 1 - 1 ≡ c.loop-row.row = omega arith in
    frame_rows_more c.args.self.now c.args.log.now c.first_late-late.result c.args.only (vec_items c.args.out.now) (vec_items c.loop-row.out) (vec_items c.if-wanted.out)
    c.loop-row.row (omega arith) c.loop-row.invariant n
    ∙ ap (with_frame_rows c.args.self.now c.args.log.now c.first_late-late.result c.args.only (vec_items c.args.out.now)) (sym u)

pub returns : goal.returns
returns c = λ h.
    let n : vec_items c.loop-row-test.out ≡ with_frame_rows c.args.self.now c.args.log.now c.first_late-late.result c.args.only (vec_items c.args.out.now) c.args.self.now.screen.composition.rows =
    elim c.loop-row-test.branch [
      | else-loop-row-test w ↦ absurd (let b = c.args.self.now.screen.composition.rows_range in omega arith)
      | then-loop-row-test+else-row-row-end w ↦
          let m : vec_items w.if-wanted.out ≡ with_wanted_row c.args.self.now c.args.log.now c.first_late-late.result c.args.only c.loop-row.row (vec_items c.loop-row.out) =
          elim w.if-wanted.branch [ then-wanted+in_ok-put_row v ↦ grind arith | else-wanted v ↦ grind arith ] in
          let u : c.loop-row.row ≡ c.args.self.now.screen.composition.rows = omega arith in
          ap (λ x. vec_items x) w.out-is
          ∙ (frame_rows_more c.args.self.now c.args.log.now c.first_late-late.result c.args.only (vec_items c.args.out.now) (vec_items c.loop-row.out) (vec_items w.if-wanted.out)
          c.loop-row.row (omega arith) c.loop-row.invariant m
          ∙ ap (with_frame_rows c.args.self.now c.args.log.now c.first_late-late.result c.args.only (vec_items c.args.out.now)) u)
    ] in
    frame_closed c.args.self.now c.args.page.now c.args.log.now c.first_late-late.result c.args.only (vec_items c.args.out.now) (vec_items c.loop-row-test.out)
    (vec_items c.put_frame_total.new.out) c.status.result (c.first_late-late.ensures h) c.status.ensures n c.in_ok-put_frame_total.ensures
