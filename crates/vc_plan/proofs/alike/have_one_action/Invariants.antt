use Rattle.std.proofs.Common.{◌≡◌, ℕ, ◌<◌, Some, slice_get}
use Rattle.vc_labels.specs.Interval.{action_for}
use Rattle.vc_plan.specs.declared.switch_plan.SwitchPlan.{SwitchPlan}
use Rattle.vc_plan.proofs.alike.have_one_action.Given as goal

abbrev pub invariant-loop-plan : goal.invariant-loop-plan
invariant-loop-plan l =
    (k : ℕ) (plan : SwitchPlan) → k < l.plan-index → slice_get l.switches k ≡ Some plan → action_for plan.rows l.x ≡ action_for plan.rows l.y
