use Rattle.std.proofs.Common.{◌≡◌, None, drop}
use Rattle.vc_explain.specs.Details.{last_keeper}
use Rattle.vc_explain.proofs.detail.last_keeper.Given as goal

abbrev pub invariant-loop-hop : goal.invariant-loop-hop
invariant-loop-hop l = last_keeper l.plan l.found (drop l.hop-index l.hops) ≡ last_keeper l.plan None l.hops
