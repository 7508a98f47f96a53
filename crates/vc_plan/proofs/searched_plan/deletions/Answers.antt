use Rattle.vc_plan.proofs.Deletions.{next-deletions}
use Rattle.vc_plan.proofs.searched_plan.deletions.Goals as goal

pub loop-plan-preserved : goal.loop-plan-preserved
loop-plan-preserved c =
    next-deletions c.args.switches.now c.loop-plan.plan-index c.plan-item.result c.loop-plan.lists.items c.push.new.self.items c.in_ok-once.once c.loop-plan-test.true c.plan-item.is
    c.in_ok-push.ensures.items (rw c.as_slice.ensures at c.in_ok-once.ensures) c.loop-plan.invariant
