use Rattle.std.proofs.Common.{◌≡◌, ◌++◌, List, length, map}
use Rattle.std.specs.List.{AllByRecursion, AllZip}
use Rattle.vc_network.specs.Merge.{Made, IsMerge, AreDistinct, RunRises, run_of}
use Rattle.vc_actor.specs.declared.act.Act.{Act}
use Rattle.vc_threads.specs.MergedRuns.{numbered, made_event}
use Rattle.vc_threads.specs.Private.MergedRuns.{HavePassed}
use Rattle.vc_threads.proofs.Fronts.{StandsAt, left_of}
use Rattle.vc_threads.proofs.MergeSteps.{acts_left}
use Rattle.vc_threads.proofs.merged_runs.merge.Given as goal

abbrev pub invariant-loop-k : goal.invariant-loop-k
invariant-loop-k l = record {
  count : length l.fronts.items ≡ length l.fn.runs;
  fronts : AllZip StandsAt l.fn.runs l.fronts.items;
  distinct : AreDistinct (left_of l.fn.runs l.fronts.items);
  rising : AllByRecursion RunRises (left_of l.fn.runs l.fronts.items);
  passed : HavePassed l.fronts.items l.in_order l.from l.stamp;
  woven : (more : List (Made Act)) → IsMerge (run_of (left_of l.fn.runs l.fronts.items)) more → (merged : List (Made Act)) × IsMerge (run_of (map numbered l.fn.runs)) merged × (l.events.items ++ map made_event more ≡ map made_event merged);
}

abbrev pub decreases-loop-k : goal.decreases-loop-k
decreases-loop-k l = acts_left (left_of l.fn.runs l.fronts.items)
