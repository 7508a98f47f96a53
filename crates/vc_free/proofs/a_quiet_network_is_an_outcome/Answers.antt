use Rattle.vc_free.proofs.NeverStuck.{quiet_networks_are_outcomes}
use Rattle.vc_free.proofs.a_quiet_network_is_an_outcome.Goals as goal

pub returns : goal.returns
returns c = quiet_networks_are_outcomes
