use Rattle.std.proofs.Common.{◌≡◌, ℕ, suc, ◌+◌, ◌-◌, ◌*◌, ◌≤◌, length, take, drop, refl, ◌∙◌, arith, length-drop}
use lib.Seq.{length-take-le}
use Rattle.video.specs.Composition.{shape_of, width}
use Rattle.rows.specs.Page.{picture}
use Rattle.rows.proofs.Writes.{line_fits, line_size, line_more, line_rest}
use Rattle.rows.proofs.drawing.Drawing.lines.Goals as goal

pub loop-line-preserved : goal.loop-line-preserved
loop-line-preserved c =
    let s = c.args.self.now in
    let l = c.loop-line in
    let i = l.invariant in
    let m : ℕ = s.composition.lines in
    let w : ℕ = width (shape_of s.composition) in
    let a : ℕ = c.from.result * c.from-width.result in
    let k : ℕ = a + c.from-width.result - a in
    let wide : c.from-width.result ≡ w = c.from-width.ensures ∙ c.width.ensures in
    let at : a ≡ l.line * w = rw (wide, c.from.ensures) refl in
    let many : k ≡ w = omega arith in
    let room : m * w ≤ length l.out = omega (arith, c.requires) in
    let part : length (take k (drop a l.out)) ≡ w = length-take-le k (drop a l.out) (omega (arith, length-drop a l.out, line_fits l.line m w (length l.out) c.loop-line-test.true room)) ∙ many in
    let size : length c.line.new.out ≡ w = c.line.ensures.size ∙ part in (
      line_size l.out c.line.new.out a k w l.line m at many c.loop-line-test.true room size ∙ i.0,
      λ n page f. line_more l.out c.line.new.out a k w l.line m at many c.loop-line-test.true room size
          (λ (q p : ℕ). picture (shape_of s.composition) n page s.cursor s.blink (suc s.above) q p) (i.1 n page f) (λ p b. c.line.ensures.words n page f p (rw part b)),
      λ q h. line_rest l.out c.line.new.out a k w l.line m at many c.loop-line-test.true room size q h ∙ i.2 q h,
    )
