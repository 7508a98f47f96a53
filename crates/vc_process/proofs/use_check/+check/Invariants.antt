use Rattle.vc_process.specs.InOrder.{number}
use Rattle.vc_process.specs.Private.InOrder.{number_branch, number_guard}
use Rattle.vc_process.proofs.Judgements.{Comes, parts_so, parts_first, branches_so, branches_first, guards_so, guards_first}
use Rattle.vc_process.proofs.use_check.+check.Given as goal

abbrev pub invariant-check_all-loop-part : goal.invariant-check_all-loop-part
invariant-check_all-loop-part l = Comes number parts_so parts_first l.part-items l.part-index

abbrev pub invariant-check_branches-loop-branch : goal.invariant-check_branches-loop-branch
invariant-check_branches-loop-branch l = Comes number_branch branches_so branches_first l.branch-items l.branch-index

abbrev pub invariant-check_guards-loop-guard : goal.invariant-check_guards-loop-guard
invariant-check_guards-loop-guard l = Comes number_guard guards_so guards_first l.guard-items l.guard-index
