use Rattle.std.proofs.Common.{◌≡◌, ◌+◌, length}
use Rattle.vc_switch.specs.Front.{front_of}
use Rattle.vc_switch.proofs.Fronts.{moved}
use Rattle.vc_switch.proofs.front.find_front.Given as goal

abbrev pub invariant-loop-rest : goal.invariant-loop-rest
invariant-loop-rest l = (front_of l.table l.body ≡ moved l.at (front_of l.table l.rest)) × (l.at + length l.rest ≡ length l.body)

abbrev pub decreases-loop-rest : goal.decreases-loop-rest
decreases-loop-rest l = length l.rest
