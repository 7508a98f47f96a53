use Rattle.vc_threads.specs.Close.{NoneStopped}
use Rattle.vc_threads.specs.Private.Close.{stop_at}
use Rattle.vc_threads.proofs.report.first_stop.Given as goal

abbrev pub invariant-loop-k : goal.invariant-loop-k
invariant-loop-k g l = NoneStopped l.k (stop_at l.runs) l.stop
