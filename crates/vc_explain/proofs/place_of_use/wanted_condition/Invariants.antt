use Rattle.vc_process.specs.Private.InOrder.{number_branch}
use Rattle.vc_explain.proofs.Own.{in_conditions}
use Rattle.vc_explain.proofs.Sought.{Sought}
use Rattle.vc_explain.proofs.place_of_use.wanted_condition.Given as goal

abbrev pub invariant-loop-k : goal.invariant-loop-k
invariant-loop-k l = Sought number_branch (in_conditions l.wanted l.at) l.branch-items l.k
