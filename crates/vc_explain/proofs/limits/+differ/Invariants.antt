use Rattle.std.proofs.Common.{length}
use Rattle.vc_explain.proofs.limits.+differ.Given as goal

abbrev pub decreases-differ : goal.decreases-differ
decreases-differ l = length l.ranges.now
