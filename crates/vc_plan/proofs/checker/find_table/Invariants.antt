use Rattle.std.proofs.Common.{◌≡◌, ℕ, ◌<◌, Some}
use Rattle.vc_plan.specs.declared.switch_plan.SwitchPlan.{SwitchPlan}
use Rattle.vc_plan.specs.Wires.{switch_at}
use Rattle.vc_plan.specs.Accepted.{IsLawfulSwitch}
use Rattle.vc_plan.proofs.checker.find_table.Given as goal

abbrev pub invariant-loop-n : goal.invariant-loop-n
invariant-loop-n l =
    (k : ℕ) (plan : SwitchPlan) → k < l.n → switch_at l.net k ≡ Some plan
    → IsLawfulSwitch l.net k plan
