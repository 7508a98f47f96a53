use Rattle.std.specs.List.{AllZip}
use Rattle.vc_threads.specs.Wires.{InLooked}
use Rattle.vc_threads.specs.Private.Least.{IsFound, IsLeast}
use Rattle.vc_threads.proofs.worker_state.find_in.Given as goal

abbrev pub invariant-loop-k : goal.invariant-loop-k
invariant-loop-k l =
    AllZip InLooked l.fn.ins l.ins
    × IsFound l.fn.actor l.ins l.k l.place l.least
    × IsLeast l.fn.actor l.ins l.k l.least
