use Rattle.std.proofs.Common.{◌≡◌, drop}
use Rattle.vc_switch.specs.Opening.{deletes}
use Rattle.vc_switch.proofs.opening.does_delete.Given as goal

abbrev pub invariant-loop-other : goal.invariant-loop-other
invariant-loop-other l = deletes (drop l.other-index l.delete) l.link ≡ deletes l.delete l.link
