use Rattle.vc_process.specs.InOrder.{number}
use Rattle.vc_explain.proofs.Own.{beside_one}
use Rattle.vc_explain.proofs.Sought.{Sought}
use Rattle.vc_explain.proofs.offence.place_beside.Given as goal

abbrev pub invariant-loop-k : goal.invariant-loop-k
invariant-loop-k l = Sought number (beside_one l.wanted l.part l.at) l.other-items l.k
