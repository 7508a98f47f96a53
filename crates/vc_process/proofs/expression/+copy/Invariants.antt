use Rattle.std.proofs.Common.{◌+◌, ◌*◌}
use Rattle.vc_process.proofs.expression.+copy.Given as goal

abbrev pub decreases-Expr::copy : goal.decreases-Expr::copy
decreases-Expr::copy l = 2 * goal.size-Expr::copy l

abbrev pub decreases-copy_boxed : goal.decreases-copy_boxed
decreases-copy_boxed l = 2 * goal.size-copy_boxed l + 1
