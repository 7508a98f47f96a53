use Rattle.vc_program.proofs.Reduction.{bounds}
use Rattle.vc_program.proofs.ranks_bound_schedules.Goals as goal

pub returns : goal.returns
returns c = bounds
