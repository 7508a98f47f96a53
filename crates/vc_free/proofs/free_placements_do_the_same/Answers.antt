use Rattle.vc_free.proofs.Placements.{do_the_same}
use Rattle.vc_free.proofs.free_placements_do_the_same.Goals as goal

pub returns : goal.returns
returns c = do_the_same
