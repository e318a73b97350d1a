use Rattle.std.proofs.Common.{arith}
use Rattle.std.proofs.lemmas.Bool.Decides.{nat_tests}
use Rattle.source.proofs.Scan.{small_more, small_done}
use Rattle.source.proofs.stalls.all_small.Goals as goal

pub returns-then-not-is_small : goal.returns-then-not-is_small
returns-then-not-is_small c =
    let m = small_more c.args.spans.now c.loop-span.span-index c.loop-span-test.true in
    let i = c.loop-span.invariant in
    let e = c.if-not-is_small.ensures in grind (arith, nat_tests)

pub loop-span-preserved : goal.loop-span-preserved
loop-span-preserved c =
    let m = small_more c.args.spans.now c.loop-span.span-index c.loop-span-test.true in
    let i = c.loop-span.invariant in
    let e = c.if-not-is_small.ensures in grind (arith, nat_tests)

pub returns : goal.returns
returns c = let m = small_done c.args.spans.now c.loop-span.span-index c.loop-span-test.false in cc (m, c.loop-span.invariant)
