use Rattle.vc_free.proofs.NeverStuck.{free_placements_never_stop}
use Rattle.vc_free.proofs.free_placements_never_stop.Goals as goal

pub returns : goal.returns
returns c = free_placements_never_stop
