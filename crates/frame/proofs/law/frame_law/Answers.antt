use Rattle.frame.proofs.Lawful.{frame_law}
use Rattle.frame.proofs.law.frame_law.Goals as goal

pub returns : goal.returns
returns c = frame_law
