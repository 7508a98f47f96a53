use Rattle.vc_placement.proofs.Networks.{invisible}
use Rattle.vc_placement.proofs.placement_is_invisible.Goals as goal

pub returns : goal.returns
returns c = invisible
