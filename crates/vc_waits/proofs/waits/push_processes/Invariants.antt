use Rattle.std.proofs.Common.{◌≡◌, ◌++◌, drop}
use Rattle.std.specs.List.{enumerate_from, flat_map}
use Rattle.vc_core.specs.State.{shown, state_of}
use Rattle.vc_waits.specs.Waits.{node_lines}
use Rattle.vc_waits.proofs.waits.push_processes.Given as goal

abbrev pub invariant-loop-n : goal.invariant-loop-n
invariant-loop-n l =
    l.out.items ++ flat_map (node_lines l.plan (shown (state_of l.network))) (enumerate_from l.n (drop l.n l.plan.nodes)) ≡ l.fn.out.items ++ flat_map (node_lines l.plan (shown (state_of l.network))) (enumerate_from 0 l.plan.nodes)
