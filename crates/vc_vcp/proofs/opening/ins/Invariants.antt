use Rattle.std.proofs.Common.{◌≡◌}
use Rattle.std.proofs.Math.ListN.{replicate}
use Rattle.vc_vcp.specs.Private.Opening.{new_in}
use Rattle.vc_vcp.proofs.opening.ins.Given as goal

abbrev pub invariant-loop : goal.invariant-loop
invariant-loop l = l.ins.items ≡ replicate l.counter (new_in l.limit)
