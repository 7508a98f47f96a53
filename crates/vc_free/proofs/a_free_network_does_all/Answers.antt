use Rattle.vc_free.proofs.Atomics.{do_all}
use Rattle.vc_free.proofs.a_free_network_does_all.Goals as goal

pub returns : goal.returns
returns c = do_all
