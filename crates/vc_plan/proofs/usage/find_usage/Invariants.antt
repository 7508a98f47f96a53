use Rattle.std.proofs.Common.{◌≡◌, ℕ, ◌<◌, Some}
use Rattle.std.specs.Prelude.{slice_get}
use Rattle.vc_process.specs.Lawful.{Lawfully}
use Rattle.vc_process.specs.Numbering.{written}
use Rattle.vc_plan.specs.declared.node_plan.NodePlan.{NodePlan}
use Rattle.vc_plan.proofs.usage.find_usage.Given as goal

abbrev pub invariant-loop-n : goal.invariant-loop-n
invariant-loop-n l =
    (k : ℕ) (node : NodePlan) → k < l.n → slice_get l.plan.nodes k ≡ Some node
    → Lawfully (written node.process)
