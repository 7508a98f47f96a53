use Rattle.vc_placement.proofs.Linearizability.{linearizes}
use Rattle.vc_placement.proofs.every_history_linearizes.Goals as goal

pub returns : goal.returns
returns c = linearizes
