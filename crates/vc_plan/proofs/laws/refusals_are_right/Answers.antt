use Rattle.vc_plan.proofs.Refutations.{right}
use Rattle.vc_plan.proofs.laws.refusals_are_right.Goals as goal

pub returns : goal.returns
returns c = right
