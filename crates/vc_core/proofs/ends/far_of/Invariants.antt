use Rattle.std.proofs.Common.{◌≡◌, map, take}
use Rattle.vc_core.specs.Private.Wiring.{far_end_of}
use Rattle.vc_core.proofs.ends.far_of.Given as goal

abbrev pub invariant-loop-way : goal.invariant-loop-way
invariant-loop-way l = l.far.items ≡ map (far_end_of l.fn.ends) (take l.way-index l.fn.out)
