use Rattle.std.proofs.Common.{◌≡◌, ◌++◌, drop}
use Rattle.std.specs.List.{enumerate_from, flat_map}
use Rattle.vc_draw.specs.Graph.{node_line}
use Rattle.vc_draw.proofs.graph.push_nodes.Given as goal

abbrev pub invariant-loop-n : goal.invariant-loop-n
invariant-loop-n l =
    l.out.items ++ flat_map (node_line l.labels) (enumerate_from l.n (drop l.n l.nodes)) ≡ l.fn.out.items ++ flat_map (node_line l.labels) (enumerate_from 0 l.nodes)
