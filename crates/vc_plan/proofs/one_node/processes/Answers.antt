use Rattle.std.proofs.Common.{◌+◌, ◌∙◌, ap, length, arith}
use Rattle.vc_plan.specs.OneNode.{all_vars}
use Rattle.vc_plan.proofs.OneNode.{vars_within, vars_next, processes_next, sites_next}
use Rattle.vc_plan.proofs.one_node.processes.Goals as goal

pub overflow_cast-by : goal.overflow_cast-by
overflow_cast-by c =
    let w = vars_within c.as_slice-node-items.result.now c.loop-node.node-index in
    let e = ap (λ z. length (all_vars z)) c.as_slice-node-items.ensures in
    let i = c.loop-node.invariant.0 in
    let r = c.requires in
    omega arith

pub overflow_add-by : goal.overflow_add-by
overflow_add-by c =
    let w = vars_within c.as_slice-node-items.result.now (c.loop-node.node-index + 1) in
    let e = ap (λ z. length (all_vars z)) c.as_slice-node-items.ensures in
    let i = vars_next c.as_slice-node-items.result.now c.loop-node.node-index c.loop-node.by c.node-item.result c.loop-node-test.true c.node-item.is c.loop-node.invariant.0 in
    let l = c.len-by.ensures in
    let r = c.requires in
    omega arith

pub loop-node-preserved : goal.loop-node-preserved
loop-node-preserved c =
    let w = vars_within c.as_slice-node-items.result.now (c.loop-node.node-index + 1) in
    let e = ap (λ z. length (all_vars z)) c.as_slice-node-items.ensures in
    let i = vars_next c.as_slice-node-items.result.now c.loop-node.node-index c.loop-node.by c.node-item.result c.loop-node-test.true c.node-item.is c.loop-node.invariant.0 in
    let r = c.requires in (
      ap (λ z. c.loop-node.by + z) c.len-by.ensures ∙ i,
      processes_next c.as_slice-node-items.result.now c.loop-node.node-index c.loop-node.by c.node-item.result c.loop-node.parts c.push.new.self c.in_ok-part.part c.loop-node-test.true c.node-item.is c.loop-node.invariant.0 (omega arith) c.in_ok-part.ensures c.in_ok-push.ensures.ok c.loop-node.invariant.1,
      sites_next c.as_slice-node-items.result.now c.loop-node.node-index c.node-item.result c.loop-node.parts c.push.new.self c.in_ok-part.part c.loop-node-test.true c.node-item.is c.in_ok-part.ensures.0 c.in_ok-push.ensures.ok c.loop-node.invariant.2,
    )
