use Rattle.std.proofs.Common.{◌≡◌, ◌++◌, length}
use Rattle.vc_explain.specs.Walk.{hops_text}
use Rattle.vc_explain.proofs.walk.push_hops.Given as goal

abbrev pub invariant-loop-hop : goal.invariant-loop-hop
invariant-loop-hop l =
    l.out.items ++ hops_text l.plan l.fault l.left l.before.items ≡ l.fn.out.items ++ hops_text l.plan l.fault l.fault.hops l.headers

abbrev pub decreases-loop-hop : goal.decreases-loop-hop
decreases-loop-hop l = length l.left
