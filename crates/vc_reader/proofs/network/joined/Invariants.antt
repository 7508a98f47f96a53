use Rattle.std.proofs.Common.{◌≡◌, ◌++◌}
use Rattle.std.specs.Vec.Iter.{into_iter_items, into_iter_len}
use Rattle.vc_reader.specs.NetworkText.{node_plans}
use Rattle.vc_reader.proofs.network.joined.Given as goal

abbrev pub invariant-loop-head : goal.invariant-loop-head
invariant-loop-head l =
    l.nodes ++ node_plans (into_iter_items l.heads) (into_iter_items l.processes) ≡ node_plans l.fn.heads l.fn.processes

abbrev pub decreases-loop-head : goal.decreases-loop-head
decreases-loop-head l = into_iter_len l.heads
