use Rattle.std.proofs.Common.{◌≡◌, ◌+◌, ◌-◌, vec_items, ap, sym, ◌∙◌, arith, rules}
use Rattle.sheet.specs.Stills.{with_row_words, with_words}
use Rattle.sheet.proofs.Rows.{words_none, words_more}
use Rattle.sheet.proofs.still.Stills.put_words.Goals as goal
use Rattle.sheet.proofs.still.Stills.put_words.Goals.{then-not-blank+in_ok-put_row_words, else-not-blank}

pub loop-row-init : goal.loop-row-init
loop-row-init c = λ h. words_none c.args.self.now.screen.now c.args.self.now.page.now (vec_items c.args.out.now)

pub loop-row-preserved : goal.loop-row-preserved
loop-row-preserved c = λ h.
    let n : vec_items c.if-not-blank.out ≡ with_row_words c.args.self.now.screen.now c.args.self.now.page.now c.loop-row.row (vec_items c.loop-row.out) =
    elim c.if-not-blank.branch [ then-not-blank+in_ok-put_row_words w ↦ search rules | else-not-blank w ↦ grind arith ] in
    let u : c.loop-row.row + 1 - 1 ≡ c.loop-row.row = omega arith in
    words_more c.args.self.now.screen.now c.args.self.now.page.now (vec_items c.args.out.now) (vec_items c.loop-row.out) (vec_items c.if-not-blank.out)
    c.loop-row.row (omega arith) (c.loop-row.invariant h) n ∙ ap (with_words c.args.self.now.screen.now c.args.self.now.page.now (vec_items c.args.out.now)) (sym u)

pub returns-after-not-blank : goal.returns-after-not-blank
returns-after-not-blank c = λ h.
    let n : vec_items c.if-not-blank.out ≡ with_row_words c.args.self.now.screen.now c.args.self.now.page.now c.loop-row.row (vec_items c.loop-row.out) =
    elim c.if-not-blank.branch [ then-not-blank+in_ok-put_row_words w ↦ grind arith | else-not-blank w ↦ search rules ] in
    let u : c.loop-row.row ≡ c.args.self.now.screen.now.composition.rows = omega arith in
    words_more c.args.self.now.screen.now c.args.self.now.page.now (vec_items c.args.out.now) (vec_items c.loop-row.out) (vec_items c.if-not-blank.out)
    c.loop-row.row (omega arith) (c.loop-row.invariant h) n ∙ ap (with_words c.args.self.now.screen.now c.args.self.now.page.now (vec_items c.args.out.now)) u
