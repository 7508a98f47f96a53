use Rattle.vc_placement.proofs.Main.{one_accepted}
use Rattle.vc_placement.proofs.one_node_is_accepted.Goals as goal

pub returns : goal.returns
returns c = one_accepted
