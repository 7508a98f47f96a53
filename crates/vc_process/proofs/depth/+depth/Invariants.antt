use Rattle.vc_process.specs.InOrder.{number}
use Rattle.vc_process.specs.Private.InOrder.{number_branch, number_guard}
use Rattle.vc_process.proofs.Deep.{all_parts, all_branches, all_guards}
use Rattle.vc_process.proofs.Walks.{Reaches}
use Rattle.vc_process.proofs.depth.+depth.Given as goal

abbrev pub invariant-parts_within-loop-part : goal.invariant-parts_within-loop-part
invariant-parts_within-loop-part l = Reaches number (all_parts l.depth) l.part-items l.part-index

abbrev pub invariant-branches_within-loop-branch : goal.invariant-branches_within-loop-branch
invariant-branches_within-loop-branch l = Reaches number_branch (all_branches l.depth) l.branch-items l.branch-index

abbrev pub invariant-guards_within-loop-guard : goal.invariant-guards_within-loop-guard
invariant-guards_within-loop-guard l = Reaches number_guard (all_guards l.depth) l.guard-items l.guard-index
