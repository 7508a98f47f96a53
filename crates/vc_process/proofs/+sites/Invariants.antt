use Rattle.vc_process.specs.InOrder.{number}
use Rattle.vc_process.specs.Private.InOrder.{number_branch, number_guard}
use Rattle.vc_process.specs.Numbering.{branch_sites, guard_sites, part_sites}
use Rattle.vc_process.proofs.Counts.{Found}
use Rattle.vc_process.proofs.+sites.Given as goal

abbrev pub invariant-written::sites_of-loop-part : goal.invariant-written::sites_of-loop-part
invariant-written::sites_of-loop-part l = Found number part_sites l.part-items l.most l.part-index l.found

abbrev pub invariant-written::sites_of_branches-loop-branch : goal.invariant-written::sites_of_branches-loop-branch
invariant-written::sites_of_branches-loop-branch l = Found number_branch branch_sites l.branch-items l.most l.branch-index l.found

abbrev pub invariant-written::sites_of_guards-loop-guard : goal.invariant-written::sites_of_guards-loop-guard
invariant-written::sites_of_guards-loop-guard l = Found number_guard guard_sites l.guard-items l.most l.guard-index l.found
