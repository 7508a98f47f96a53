use Rattle.vc_accepted.proofs.InputsFirst.{nothing_swapped}
use Rattle.vc_accepted.proofs.nothing_unsent_is_swapped.Goals as goal

pub returns : goal.returns
returns c = nothing_swapped
