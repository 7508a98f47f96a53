use Rattle.vc_program.proofs.Commuting.{commute}
use Rattle.vc_program.proofs.steps_commute.Goals as goal

pub returns : goal.returns
returns c = commute
