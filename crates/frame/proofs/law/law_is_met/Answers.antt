use Rattle.frame.proofs.Examples.{timely, tardy}
use Rattle.frame.proofs.law.law_is_met.Goals as goal

pub returns : goal.returns
returns c = (timely, tardy)
