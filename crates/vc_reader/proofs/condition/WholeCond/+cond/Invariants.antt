use Rattle.std.proofs.Common.{◌+◌, ◌*◌}
use Rattle.vc_reader.proofs.condition.WholeCond.+cond.Given as goal

abbrev pub decreases-cond : goal.decreases-cond
decreases-cond l = 5 * l.depth

abbrev pub decreases-part : goal.decreases-part
decreases-part l = 5 * l.depth + 1

abbrev pub decreases-both : goal.decreases-both
decreases-both l = 5 * l.depth + 2

abbrev pub decreases-either : goal.decreases-either
decreases-either l = 5 * l.depth + 2

abbrev pub decreases-not : goal.decreases-not
decreases-not l = 5 * l.depth + 2

abbrev pub decreases-worded : goal.decreases-worded
decreases-worded l = 5 * l.depth + 3

abbrev pub decreases-step : goal.decreases-step
decreases-step l = 5 * l.depth + 4
