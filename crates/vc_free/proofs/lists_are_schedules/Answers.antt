use Rattle.vc_free.proofs.Schedules.{lists_are_schedules}
use Rattle.vc_free.proofs.lists_are_schedules.Goals as goal

pub returns : goal.returns
returns c = lists_are_schedules
