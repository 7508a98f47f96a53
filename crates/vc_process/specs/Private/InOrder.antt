-- Processes, branches and guards that are yet to be numbered.
use Rattle.vc_process.specs.declared.process.Branch.{Branch}
use Rattle.vc_process.specs.declared.process.Guard.{Guard}
use Rattle.vc_process.specs.declared.process.Process.TheFolds.{fold-Branch, fold-Guard}
use Rattle.vc_process.specs.Numbering.{Numbered, NumberedBranch, NumberedGuard, numbered}
use Rattle.vc_process.specs.InOrder.{branch_layer, guard_layer}

-- a branch that is yet to be numbered, and a guard
unfoldable pub number_branch : Branch → NumberedBranch
number_branch = fold-Branch Numbered NumberedBranch NumberedGuard numbered branch_layer guard_layer

unfoldable pub number_guard : Guard → NumberedGuard
number_guard = fold-Guard Numbered NumberedBranch NumberedGuard numbered branch_layer guard_layer
