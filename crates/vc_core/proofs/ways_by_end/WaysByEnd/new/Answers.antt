use Rattle.vc_core.proofs.ByEnd.{none_at}
use Rattle.vc_core.proofs.ways_by_end.WaysByEnd.new.Goals as goal

pub returns-clause-empty : goal.returns-clause-empty
returns-clause-empty c = none_at c.args.ends.items c.in_ok-lines.lines.items c.in_ok-lines.ensures.empty
