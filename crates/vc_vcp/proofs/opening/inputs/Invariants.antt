use Rattle.std.proofs.Common.{◌≡◌, ◌++◌, drop}
use Rattle.vc_vcp.specs.Private.Opening.{opened_inputs}
use Rattle.vc_vcp.proofs.opening.inputs.Given as goal

abbrev pub invariant-loop-end : goal.invariant-loop-end
invariant-loop-end l = l.inputs.items ++ opened_inputs (drop l.end-index l.ends) ≡ opened_inputs l.ends
