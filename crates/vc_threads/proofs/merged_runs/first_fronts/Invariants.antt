use Rattle.std.proofs.Common.{◌≡◌, map, take}
use Rattle.vc_threads.specs.Private.MergedRuns.{front_of}
use Rattle.vc_threads.proofs.merged_runs.first_fronts.Given as goal

abbrev pub invariant-loop-run : goal.invariant-loop-run
invariant-loop-run l = l.fronts.items ≡ map (λ r. front_of r 0) (take l.run-index l.runs)
