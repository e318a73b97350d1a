use Rattle.std.proofs.Common.{◌≡◌, ◌+◌, ◌-◌, vec_items, ap, sym, ◌∙◌, arith, rules}
use Rattle.std.proofs.lemmas.Result.{err_from_is_err_and}
use Rattle.sheet.specs.Stills.{tally, with_rows}
use Rattle.sheet.proofs.Rows.{rows_none, rows_more, stopped}
use Rattle.sheet.proofs.still.Stills.put_rows.Goals as goal

pub loop-row-init : goal.loop-row-init
loop-row-init c =
    let n = rows_none c.args.self.now.screen.now c.args.self.now.page.now (vec_items c.args.out.now) in
    let d : c.default-tally.result ≡ record { shown = 0; used = 0 } = search rules in
    rw d (omega arith, omega arith, λ h. n)

pub returns-in_err-taken : goal.returns-in_err-taken
returns-in_err-taken c = λ h.
    let p = err_from_is_err_and c.from_residual.result c.from_residual.ensures.1 in
    rw (p.1, p.2)
    (stopped c.args.self.now.screen.now c.args.self.now.page.now (with_rows c.args.self.now.screen.now c.args.self.now.page.now (vec_items c.args.out.now)) c.loop-row.row
    c.in_err-taken.field-0.0 (vec_items c.loop-row.out) (vec_items c.put_any_row.new.out) (omega arith) (omega arith) (c.loop-row.invariant.2 h).1 (c.in_err-taken.ensures.listed h))

pub loop-row-preserved : goal.loop-row-preserved
loop-row-preserved c =
    let i = c.loop-row.invariant in
    let f = c.in_ok-taken.ensures.few in
    let u : c.loop-row.row + 1 - 1 ≡ c.loop-row.row = omega arith in
    rw c.with-tally.ensures (
      search rules,
      omega (arith, f, i.1),
      λ h.
          let m =
          rows_more c.args.self.now.screen.now c.args.self.now.page.now (vec_items c.args.out.now) (vec_items c.loop-row.out) (vec_items c.put_any_row.new.out)
          c.loop-row.row c.in_ok-taken.taken c.loop-row.tally (omega arith) (i.2 h).0 (i.2 h).1 (c.in_ok-taken.ensures.listed h) in (
            m.0 ∙ ap (tally c.args.self.now.screen.now c.args.self.now.page.now) (sym u),
            m.1 ∙ ap (with_rows c.args.self.now.screen.now c.args.self.now.page.now (vec_items c.args.out.now)) (sym u),
          ),
    )

pub returns-in_ok-taken : goal.returns-in_ok-taken
returns-in_ok-taken c = λ h.
    let i = c.loop-row.invariant in
    let m =
    rows_more c.args.self.now.screen.now c.args.self.now.page.now (vec_items c.args.out.now) (vec_items c.loop-row.out) (vec_items c.put_any_row.new.out)
    c.loop-row.row c.in_ok-taken.taken c.loop-row.tally (omega arith) (i.2 h).0 (i.2 h).1 (c.in_ok-taken.ensures.listed h) in
    let u : c.loop-row.row ≡ c.args.self.now.screen.now.composition.rows = omega arith in (
      c.with-tally.ensures ∙ (m.0 ∙ ap (tally c.args.self.now.screen.now c.args.self.now.page.now) u),
      m.1 ∙ ap (with_rows c.args.self.now.screen.now c.args.self.now.page.now (vec_items c.args.out.now)) u,
    )
