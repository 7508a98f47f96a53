use Rattle.std.proofs.Common.{◌≡◌, map, take, length}
use Rattle.vc_process.specs.InOrder.{number}
use Rattle.vc_process.specs.Numbering.{part_sites}
use Rattle.vc_plan.specs.OneNode.{all_sites, all_vars, AreTogether}
use Rattle.vc_plan.proofs.one_node.processes.Given as goal

abbrev pub invariant-loop-node : goal.invariant-loop-node
invariant-loop-node l =
    let before = take l.node-index l.node-items in
    (l.by ≡ length (all_vars before)) × AreTogether before l.parts
    × (part_sites (map number l.parts) ≡ all_sites before)
