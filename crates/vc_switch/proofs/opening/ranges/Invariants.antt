use Rattle.std.proofs.Common.{◌≡◌}
use Rattle.vc_switch.specs.Private.Opening.{listed}
use Rattle.vc_switch.specs.Opening.{range_given}
use Rattle.vc_switch.proofs.opening.ranges.Given as goal

abbrev pub invariant-loop-link : goal.invariant-loop-link
invariant-loop-link l = l.ranges.items ≡ listed (range_given l.random) l.link
