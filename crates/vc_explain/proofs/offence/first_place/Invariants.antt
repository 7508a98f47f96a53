use Rattle.vc_process.specs.InOrder.{number}
use Rattle.vc_explain.proofs.Own.{in_one}
use Rattle.vc_explain.proofs.Sought.{Sought}
use Rattle.vc_explain.proofs.offence.first_place.Given as goal

abbrev pub invariant-loop-k : goal.invariant-loop-k
invariant-loop-k l = Sought number (in_one l.wanted l.at) l.part-items l.k
