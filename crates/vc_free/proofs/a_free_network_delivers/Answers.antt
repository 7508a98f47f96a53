use Rattle.vc_free.proofs.Main.{delivers}
use Rattle.vc_free.proofs.a_free_network_delivers.Goals as goal

pub returns : goal.returns
returns c = delivers
