use Rattle.std.proofs.Common.{◌≡◌, ◌++◌, drop}
use Rattle.std.specs.List.{enumerate_from, flat_map}
use Rattle.vc_explain.specs.Offenders.{of_vlink}
use Rattle.vc_explain.proofs.offender.ends_at.Given as goal

abbrev pub invariant-loop-n : goal.invariant-loop-n
invariant-loop-n l =
    l.found.items ++ flat_map (of_vlink l.node l.block) (enumerate_from l.n (drop l.n l.vlinks)) ≡ flat_map (of_vlink l.node l.block) (enumerate_from 0 l.vlinks)
