use Rattle.std.proofs.Common.{◌≡◌}
use Rattle.vc_switch.specs.Private.Opening.{listed}
use Rattle.vc_switch.specs.Opening.{deletes}
use Rattle.vc_switch.proofs.opening.deletions.Given as goal

abbrev pub invariant-loop-link : goal.invariant-loop-link
invariant-loop-link l = l.all.items ≡ listed (deletes l.delete) l.link
