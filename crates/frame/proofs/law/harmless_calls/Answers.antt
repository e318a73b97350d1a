use Rattle.frame.proofs.Harmless.{harmless}
use Rattle.frame.proofs.law.harmless_calls.Goals as goal

pub returns : goal.returns
returns c = harmless
