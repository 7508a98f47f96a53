use Rattle.std.proofs.Common.{◌≡◌, ◌++◌, drop}
use Rattle.std.specs.List.{enumerate_from, flat_map}
use Rattle.vc_explore_text.specs.ExploredJson.{port_item}
use Rattle.vc_explore_text.proofs.json.push_ports.Given as goal

abbrev pub invariant-loop-n : goal.invariant-loop-n
invariant-loop-n l =
    l.out.items ++ flat_map (port_item l.plan) (enumerate_from l.n (drop l.n l.ports)) ≡ l.fn.out.items ++ flat_map (port_item l.plan) (enumerate_from 0 l.ports)
