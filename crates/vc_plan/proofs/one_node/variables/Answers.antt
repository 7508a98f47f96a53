use Rattle.std.proofs.Common.{◌++◌, ◌∙◌, ap}
use Rattle.vc_plan.proofs.OneNode.{all_more}
use Rattle.vc_plan.proofs.one_node.variables.Goals as goal

pub loop-node-preserved : goal.loop-node-preserved
loop-node-preserved c =
    c.in_ok-push_variables.ensures ∙ ap (λ z. z ++ c.node-item.result.vars) c.loop-node.invariant ∙ all_more c.as_slice-node-items.result.now c.loop-node.node-index c.node-item.result c.loop-node-test.true c.node-item.is
