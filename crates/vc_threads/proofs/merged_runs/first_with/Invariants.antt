use Rattle.std.proofs.Common.{ℕ, ◌<◌, ◌≤◌}
use Rattle.vc_threads.specs.Private.MergedRuns.{IsNext}
use Rattle.vc_threads.proofs.merged_runs.first_with.Given as goal

abbrev pub invariant-loop-k : goal.invariant-loop-k
invariant-loop-k l = (j : ℕ) → l.from ≤ j → j < l.k → IsNext l.fronts j l.stamp → ⊥
