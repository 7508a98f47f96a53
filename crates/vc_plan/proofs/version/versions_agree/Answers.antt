use Rattle.vc_plan.proofs.Versions.{agree}
use Rattle.vc_plan.proofs.version.versions_agree.Goals as goal

pub returns : goal.returns
returns c = agree
