use Rattle.vc_core.proofs.Bits.{none_set}
use Rattle.vc_core.proofs.fronts.Fronts.new.Goals as goal

pub returns-clause-none : goal.returns-clause-none
returns-clause-none c = none_set c.no_links.result c.no_links.ensures
