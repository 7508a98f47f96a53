use Rattle.std.proofs.Common.{◌≡◌, take}
use Rattle.vc_plan.specs.OneNode.{all_vars}
use Rattle.vc_plan.proofs.one_node.variables.Given as goal

abbrev pub invariant-loop-node : goal.invariant-loop-node
invariant-loop-node l = l.vars ≡ all_vars (take l.node-index l.node-items)
