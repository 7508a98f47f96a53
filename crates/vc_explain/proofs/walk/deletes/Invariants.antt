use Rattle.std.proofs.Common.{◌≡◌, drop}
use Rattle.vc_plan.specs.Hops.{deletes}
use Rattle.vc_explain.proofs.walk.deletes.Given as goal

abbrev pub invariant-loop-other : goal.invariant-loop-other
invariant-loop-other l = deletes (drop l.other-index l.links) l.link ≡ deletes l.links l.link
