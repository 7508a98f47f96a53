use Rattle.std.proofs.Common.{◌≡◌, map, take}
use Rattle.vc_occam.specs.Opening.{empty_of}
use Rattle.vc_occam.proofs.variables.empty_variables.Given as goal

abbrev pub invariant-loop-kind : goal.invariant-loop-kind
invariant-loop-kind l = l.vars.items ≡ map empty_of (take l.kind-index l.kinds)
