use Rattle.vc_process.specs.Private.InOrder.{number_guard}
use Rattle.vc_explain.proofs.Own.{in_inputs}
use Rattle.vc_explain.proofs.Sought.{Sought}
use Rattle.vc_explain.proofs.place_of_use.wanted_guard.Given as goal

abbrev pub invariant-loop-k : goal.invariant-loop-k
invariant-loop-k l = Sought number_guard (in_inputs l.wanted l.kinds l.at) l.guard-items l.k
