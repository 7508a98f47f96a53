use Rattle.vc_free.proofs.Converse.{network_runs}
use Rattle.vc_free.proofs.the_network_runs_it.Goals as goal

pub returns : goal.returns
returns c = network_runs
