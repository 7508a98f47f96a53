use Rattle.std.proofs.Common.{◌≡◌, drop}
use Rattle.vc_plan.specs.Check.{way_twice, way_twice_from}
use Rattle.vc_plan.proofs.checker.find_way_twice.Given as goal

abbrev pub invariant-loop-n : goal.invariant-loop-n
invariant-loop-n l = way_twice_from l.n l.seen.items (drop l.n l.channels) ≡ way_twice l.channels
