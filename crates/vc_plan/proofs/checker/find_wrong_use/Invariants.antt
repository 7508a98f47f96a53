use Rattle.std.proofs.Common.{◌≡◌, drop}
use Rattle.vc_plan.specs.Check.{wrong_use}
use Rattle.vc_plan.proofs.checker.find_wrong_use.Given as goal

abbrev pub invariant-loop-used : goal.invariant-loop-used
invariant-loop-used l =
    wrong_use l.plan l.node (drop l.used-index l.uses) ≡ wrong_use l.plan l.node l.uses
