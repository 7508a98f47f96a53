use Rattle.std.proofs.Common.{◌+◌, ◌*◌}
use Rattle.vc_reader.proofs.expression.WholeExpr.+expr.Given as goal

abbrev pub decreases-expr : goal.decreases-expr
decreases-expr l = 5 * l.depth

abbrev pub decreases-part : goal.decreases-part
decreases-part l = 5 * l.depth + 1

abbrev pub decreases-operation : goal.decreases-operation
decreases-operation l = 5 * l.depth + 2

abbrev pub decreases-worded : goal.decreases-worded
decreases-worded l = 5 * l.depth + 3

abbrev pub decreases-step : goal.decreases-step
decreases-step l = 5 * l.depth + 4
