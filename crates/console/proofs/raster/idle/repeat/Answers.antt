-- Each turn puts one word more.
use Rattle.std.proofs.Common.{List, [], ◌∷◌, ◌++◌, vec_items, ap, ◌∙◌, arith}
use Rattle.frame.specs.declared.call.Answer.{Answer}
use Rattle.frame.specs.declared.call.Answer.TheVariants.{Word}
use Rattle.console.proofs.Idles.{repeated_more}
use Rattle.console.proofs.raster.idle.repeat.Goals as goal

pub loop-preserved : goal.loop-preserved
loop-preserved c =
    let i = c.loop.invariant in
    let e = c.push_reserved.ensures in (
      e.items ∙ ap (λ (l : List Answer). l ++ Word c.args.word ∷ []) i.0 ∙ repeated_more c.args.word c.loop.counter (vec_items c.args.answers.now),
      (let a = i.1.0 in let b = e.len in omega arith, e.capacity ∙ i.1.1),
    )
