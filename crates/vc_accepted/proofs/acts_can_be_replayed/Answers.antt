use Rattle.vc_accepted.proofs.LawfulRuns.{replayed}
use Rattle.vc_accepted.proofs.acts_can_be_replayed.Goals as goal

pub returns : goal.returns
returns c = replayed
