use Rattle.std.proofs.Common.{◌≡◌, ◌++◌, drop}
use Rattle.std.specs.List.{enumerate_from, flat_map}
use Rattle.vc_explain.specs.Offenders.{of_wire}
use Rattle.vc_explain.proofs.offender.wires_at.Given as goal

abbrev pub invariant-loop-n : goal.invariant-loop-n
invariant-loop-n l = l.found.items ++ flat_map (of_wire l.port) (enumerate_from l.n (drop l.n l.wires)) ≡ flat_map (of_wire l.port) (enumerate_from 0 l.wires)
