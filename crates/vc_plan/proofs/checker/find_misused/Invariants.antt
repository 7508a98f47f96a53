use Rattle.std.proofs.Common.{◌≡◌, drop}
use Rattle.vc_plan.specs.Check.{misused_from}
use Rattle.vc_plan.proofs.checker.find_misused.Given as goal

abbrev pub invariant-loop-n : goal.invariant-loop-n
invariant-loop-n l = misused_from l.plan l.n (drop l.n l.nodes) ≡ misused_from l.plan 0 l.nodes
