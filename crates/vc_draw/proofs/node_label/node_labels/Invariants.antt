use Rattle.std.proofs.Common.{◌≡◌, ◌++◌, drop, map}
use Rattle.std.specs.List.{enumerate_from}
use Rattle.vc_core.specs.State.{shown, state_of}
use Rattle.vc_draw.specs.State.{node_label}
use Rattle.vc_draw.proofs.node_label.node_labels.Given as goal

abbrev pub invariant-loop-n : goal.invariant-loop-n
invariant-loop-n l = l.labels ++ map (node_label l.plan (shown (state_of l.network))) (enumerate_from l.n (drop l.n l.plan.nodes)) ≡ map (node_label l.plan (shown (state_of l.network))) (enumerate_from 0 l.plan.nodes)
