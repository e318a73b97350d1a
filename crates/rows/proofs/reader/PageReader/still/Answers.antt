-- The row that was found, line by line, is the row's still.
use Rattle.std.proofs.Common.{◌≡◌, ℕ, ◌*◌, ◌≤◌, false, cond, ltb, length, Some, refl, ◌∙◌, arith}
use Rattle.std.proofs.lemmas.Bool.Decides.{nat_tests}
use Rattle.refusal.specs.declared.Refusal.TheVariants.{BufferTooSmall}
use Rattle.video.specs.Composition.{shape_of, width}
use Rattle.rows.specs.Takes.{burst_bytes}
use Rattle.rows.specs.Refusals.{ends_refusal}
use Rattle.rows.proofs.Granted.{stilled}
use Rattle.rows.proofs.reader.PageReader.still.Goals as goal

pub returns : goal.returns
returns c =
    let s = c.args.self.now in
    let n : ℕ = burst_bytes s.burst in
    let f = c.in-Some.ensures in
    let w : c.from-width.result ≡ width (shape_of s.composition) = c.from-width.ensures ∙ c.width.ensures in
    let m : c.from.result ≡ s.composition.lines = c.from.ensures in
    let large : ltb (length c.args.out.now) (s.composition.lines * width (shape_of s.composition)) ≡ false = let h : s.composition.lines * width (shape_of s.composition) ≤ length c.args.out.now = rw (← w, ← m) c.if-out-from.false in grind (arith, nat_tests) in
    stilled (shape_of s.composition) n s.page.now c.args.cursor c.args.blink c.args.row c.args.out.now c.lines.new.out c.in_ok-check.ensures.there.0
    (c.in_ok-check.ensures.refused (cond (ltb (length c.args.out.now) (s.composition.lines * width (shape_of s.composition))) (Some BufferTooSmall) (ends_refusal (shape_of s.composition) n s.page.now c.args.row)) ∙ (rw large refl))
    f.0 c.lines.ensures.size (c.lines.ensures.words n s.page.now f.1) c.lines.ensures.rest
