use Rattle.vc_free.proofs.ByMoves.{schedules_are_lists}
use Rattle.vc_free.proofs.schedules_are_lists.Goals as goal

pub returns : goal.returns
returns c = schedules_are_lists
