use Rattle.layout.proofs.Aligned.{aligned}
use Rattle.layout.proofs.numbers.put_right.Goals as goal

pub returns : goal.returns
returns c = rw (c.laid_out.ensures, aligned) at c.put.ensures
