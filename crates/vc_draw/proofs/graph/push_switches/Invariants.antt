use Rattle.std.proofs.Common.{◌≡◌, ◌++◌, [], take}
use Rattle.std.specs.List.{flat_map}
use Rattle.vc_draw.specs.Graph.{place_line}
use Rattle.vc_draw.proofs.graph.push_switches.Given as goal

abbrev pub invariant-loop-switch : goal.invariant-loop-switch
invariant-loop-switch l = l.out.items ≡ l.fn.out.items ++ flat_map (λ switch. place_line switch.name []) (take l.switch-index l.switches)
