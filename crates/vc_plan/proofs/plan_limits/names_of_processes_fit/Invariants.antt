use Rattle.std.proofs.Common.{◌≡◌, drop}
use Rattle.std.specs.List.{list_all}
use Rattle.vc_plan.specs.Limits.{process_names}
use Rattle.vc_plan.proofs.plan_limits.names_of_processes_fit.Given as goal

abbrev pub invariant-loop-node : goal.invariant-loop-node
invariant-loop-node l =
    list_all (process_names l.plan) (drop l.node-index l.nodes)
    ≡ list_all (process_names l.plan) l.nodes
