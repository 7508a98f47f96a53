use Rattle.std.proofs.Common.{length}
use Rattle.vc_occam.proofs.meetings.clear.Given as goal

abbrev pub decreases-loop-found : goal.decreases-loop-found
decreases-loop-found l = length l.found
