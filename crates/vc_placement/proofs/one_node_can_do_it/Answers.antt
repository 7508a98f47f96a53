use Rattle.vc_placement.proofs.OneNode.{one_node_can}
use Rattle.vc_placement.proofs.one_node_can_do_it.Goals as goal

pub returns : goal.returns
returns c = one_node_can
