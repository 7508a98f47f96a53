use Rattle.std.proofs.Common.{◌≡◌, length, take}
use Rattle.vc_core.specs.Private.Wiring.{ends_of}
use Rattle.vc_core.proofs.ends.ends_of.Given as goal

abbrev pub invariant-loop-wire : goal.invariant-loop-wire
invariant-loop-wire l = l.ends.items ≡ ends_of (length l.plan.nodes) (take l.wire-index l.plan.wires)
