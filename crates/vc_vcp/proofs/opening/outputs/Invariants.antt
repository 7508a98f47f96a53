use Rattle.std.proofs.Common.{◌≡◌, ◌++◌, drop}
use Rattle.vc_vcp.specs.Private.Opening.{opened_outputs}
use Rattle.vc_vcp.proofs.opening.outputs.Given as goal

abbrev pub invariant-loop-end : goal.invariant-loop-end
invariant-loop-end l = l.outputs.items ++ opened_outputs (drop l.end-index l.ends) ≡ opened_outputs l.ends
