use Rattle.std.proofs.Common.{take}
use Rattle.vc_plan.specs.Deletions.{DeleteAlike}
use Rattle.vc_plan.proofs.searched_plan.each_once.Given as goal

abbrev pub invariant-loop-link : goal.invariant-loop-link
invariant-loop-link l = DeleteAlike l.once (take l.link-index l.links)
