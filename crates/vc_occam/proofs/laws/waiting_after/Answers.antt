use Rattle.vc_occam.proofs.StepWaits.{waits_after}
use Rattle.vc_occam.proofs.laws.waiting_after.Goals as goal

pub returns : goal.returns
returns c = waits_after
