use Rattle.std.proofs.Common.{length}
use Rattle.vc_plan.proofs.plan_limits.+links_all_differ.Given as goal

abbrev pub decreases-links_all_differ : goal.decreases-links_all_differ
decreases-links_all_differ l = length l.ranges.now
