use Rattle.std.proofs.Common.{length}
use Rattle.vc_plan.proofs.alike.+are_alike.Given as goal

abbrev pub decreases-are_alike : goal.decreases-are_alike
decreases-are_alike l = length l.one.now
