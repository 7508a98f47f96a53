use Rattle.std.proofs.Common.{◌≡◌, take}
use Rattle.vc_actor.specs.Private.Begin.{ranges_given}
use Rattle.vc_actor.proofs.plan_switches.ranges_of.Given as goal

abbrev pub invariant-loop-range : goal.invariant-loop-range
invariant-loop-range l = l.given ≡ ranges_given (take l.range-index l.ranges)
