use Rattle.vc_program.proofs.Reduction.{decide}
use Rattle.vc_program.proofs.searches_decide.Goals as goal

pub returns : goal.returns
returns c = decide
