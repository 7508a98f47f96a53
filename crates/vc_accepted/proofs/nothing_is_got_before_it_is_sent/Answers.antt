use Rattle.vc_accepted.proofs.Causality.{nothing_unsent}
use Rattle.vc_accepted.proofs.nothing_is_got_before_it_is_sent.Goals as goal

pub returns : goal.returns
returns c = nothing_unsent
