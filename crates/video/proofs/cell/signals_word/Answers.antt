use Rattle.std.proofs.Common.{◌∙◌, arith}
use Rattle.video.proofs.Bits.{bit_of}
use Rattle.video.proofs.cell.signals_word.Goals as goal

pub returns-clause-is : goal.returns-clause-is
returns-clause-is c =
    let x = c.args.x in
    let la0 = c.from-3.ensures ∙ bit_of x.la0 in
    let la1 = c.from-4.ensures ∙ bit_of x.la1 in
    let lten = c.from-5.ensures ∙ bit_of x.lten in
    let rvv = c.from-6.ensures ∙ bit_of x.rvv in
    let vsp = c.from-7.ensures ∙ bit_of x.vsp in
    let hglt = c.from-8.ensures ∙ bit_of x.hglt in
    let gpa0 = c.from-9.ensures ∙ bit_of x.gpa0 in
    let gpa1 = c.from-10.ensures ∙ bit_of x.gpa1 in
    omega (arith, c.from.ensures, c.from-2.ensures)
