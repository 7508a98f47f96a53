use Rattle.vc_threads.proofs.Fronts.{IsFirst}
use Rattle.vc_threads.proofs.merged_runs.first_of.Given as goal

abbrev pub invariant-loop-k : goal.invariant-loop-k
invariant-loop-k l = IsFirst l.runs l.fronts l.k l.first
