use Rattle.vc_placement.proofs.Main.{only_sizes}
use Rattle.vc_placement.proofs.only_sizes_refuse_it.Goals as goal

pub returns : goal.returns
returns c = only_sizes
