use Rattle.std.proofs.Common.{ℕ, ◌<◌}
use Rattle.vc_threads.specs.Private.MergedRuns.{id_at}
use Rattle.vc_threads.proofs.merged_runs.are_in_order.Given as goal

abbrev pub invariant-loop-k : goal.invariant-loop-k
invariant-loop-k l = (i j : ℕ) → i < j → j < l.k → id_at l.runs i < id_at l.runs j
