use Rattle.vc_free.proofs.Quiet.{quiet_networks}
use Rattle.vc_free.proofs.a_quiet_free_network_is_quiet.Goals as goal

pub returns : goal.returns
returns c = quiet_networks
