use Rattle.vc_process.specs.Private.Questions.{asking}
use Rattle.vc_process.specs.InOrder.{number}
use Rattle.vc_process.specs.Private.InOrder.{number_branch, number_guard}
use Rattle.vc_process.proofs.Everywhere.{all_parts, all_branches, all_guards}
use Rattle.vc_process.proofs.Walks.{Reaches}
use Rattle.vc_process.proofs.asked.Asked.+everywhere.Given as goal

abbrev pub invariant-in_branches-loop-branch : goal.invariant-in_branches-loop-branch
invariant-in_branches-loop-branch l = Reaches number_branch (all_branches (asking l.self l.kinds)) l.branch-items l.branch-index

abbrev pub invariant-in_guards-loop-guard : goal.invariant-in_guards-loop-guard
invariant-in_guards-loop-guard l = Reaches number_guard (all_guards (asking l.self l.kinds)) l.guard-items l.guard-index

abbrev pub invariant-in_parts-loop-part : goal.invariant-in_parts-loop-part
invariant-in_parts-loop-part l = Reaches number (all_parts (asking l.self l.kinds)) l.part-items l.part-index
