use Rattle.std.proofs.Common.{◌≡◌, ◌++◌, take}
use Rattle.std.specs.List.{flat_map}
use Rattle.vc_text.specs.FaultLine.{hop_text}
use Rattle.vc_text.proofs.plan_text.push_hops.Given as goal

abbrev pub invariant-loop-hop : goal.invariant-loop-hop
invariant-loop-hop l = l.out.items ≡ l.fn.out.items ++ flat_map (hop_text l.plan) (take l.hop-index l.hops)
