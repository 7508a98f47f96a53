use Rattle.std.proofs.Common.{◌≡◌, drop}
use Rattle.vc_switch.specs.Opening.{range_given}
use Rattle.vc_switch.proofs.opening.range_of.Given as goal

abbrev pub invariant-loop-input : goal.invariant-loop-input
invariant-loop-input l = range_given (drop l.input-index l.random) l.link ≡ range_given l.random l.link
