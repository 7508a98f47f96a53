use Rattle.std.proofs.Common.{◌≡◌, ◌≤◌, ℕ, List, Some, length, slice_get}
use Rattle.vc_actor.specs.declared.act.Act.{Act}
use Rattle.vc_stats.specs.Counts.{AreCounts, most_events}
use Rattle.vc_stats.specs.Private.ActCounts.{CountsActs, all_events}
use Rattle.vc_stats.specs.declared.counted_acts.CountedActs.{CountedActs}
use Rattle.vc_stats.proofs.counted_acts.counts_of.Given as goal

abbrev pub invariant-loop-log : goal.invariant-loop-log
invariant-loop-log l =
    (acts : ℕ → List (ℕ × Act)) → ((k : ℕ) (log : CountedActs) → slice_get l.logs k ≡ Some log → CountsActs log k (acts k)) → ((k : ℕ) → length (acts k) ≤ most_events) → AreCounts l.all (all_events acts l.log-index)
