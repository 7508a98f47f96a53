use Rattle.std.proofs.Common.{◌+◌, ◌*◌, max}
use Rattle.vc_process.proofs.condition.Cond.TheLaws.{the_size}
use Rattle.vc_process.proofs.condition.+copy.Given as goal

abbrev pub decreases-Cond::copy : goal.decreases-Cond::copy
decreases-Cond::copy l = 3 * goal.size-Cond::copy l

abbrev pub decreases-copy_both : goal.decreases-copy_both
decreases-copy_both l = 3 * max (the_size l.left.now) (the_size l.right.now) + 2

abbrev pub decreases-copy_boxed : goal.decreases-copy_boxed
decreases-copy_boxed l = 3 * goal.size-copy_boxed l + 1
