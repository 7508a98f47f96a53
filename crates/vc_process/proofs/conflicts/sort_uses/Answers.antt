use Rattle.vc_process.proofs.Ranks.{ascending}
use Rattle.vc_process.proofs.conflicts.sort_uses.Goals as goal

pub returns-clause-ascending : goal.returns-clause-ascending
returns-clause-ascending c = ascending c.sort_unstable.new.self.items c.sort_unstable.ensures.sorted
