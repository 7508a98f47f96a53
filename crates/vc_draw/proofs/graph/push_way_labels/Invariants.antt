use Rattle.std.proofs.Common.{◌≡◌, ◌++◌, drop}
use Rattle.std.specs.List.{enumerate_from, flat_map}
use Rattle.vc_draw.specs.Graph.{way_label_at}
use Rattle.vc_draw.proofs.graph.push_way_labels.Given as goal

abbrev pub invariant-loop-number : goal.invariant-loop-number
invariant-loop-number l =
    l.out.items ++ flat_map (way_label_at l.n l.labels) (enumerate_from l.number (drop l.number l.channels)) ≡ l.fn.out.items ++ flat_map (way_label_at l.n l.labels) (enumerate_from 0 l.channels)
