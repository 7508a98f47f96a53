use Rattle.std.proofs.Common.{◌≡◌, ◌++◌, drop}
use Rattle.vc_accepted.specs.NodeEnds.{ends_among}
use Rattle.vc_actor.specs.Private.Begin.{on_link}
use Rattle.vc_actor.proofs.plan_actors.ends_of.Given as goal

abbrev pub invariant-loop-i : goal.invariant-loop-i
invariant-loop-i l = l.ends.items ++ ends_among (on_link l.ways) l.number l.i (drop l.i l.plan.vlinks) ≡ ends_among (on_link l.ways) l.number 0 l.plan.vlinks
