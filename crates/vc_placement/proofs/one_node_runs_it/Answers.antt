use Rattle.vc_placement.proofs.OneNodeRuns.{one_node_runs}
use Rattle.vc_placement.proofs.one_node_runs_it.Goals as goal

pub returns : goal.returns
returns c = one_node_runs
