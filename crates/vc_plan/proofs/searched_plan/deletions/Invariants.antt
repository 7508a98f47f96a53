use Rattle.std.proofs.Common.{take}
use Rattle.vc_plan.specs.Deletions.{AreDeletions}
use Rattle.vc_plan.proofs.searched_plan.deletions.Given as goal

abbrev pub invariant-loop-plan : goal.invariant-loop-plan
invariant-loop-plan l = AreDeletions (take l.plan-index l.switches) l.lists.items
