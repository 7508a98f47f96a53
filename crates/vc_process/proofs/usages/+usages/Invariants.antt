use Rattle.std.proofs.Common.{◌+◌, ◌*◌}
use Rattle.vc_process.specs.InOrder.{number}
use Rattle.vc_process.specs.Private.InOrder.{number_branch, number_guard}
use Rattle.vc_process.proofs.UseLists.{all_parts, all_branches, all_guards}
use Rattle.vc_process.proofs.Walks.{Adds}
use Rattle.vc_process.proofs.process.Process.TheLaws.{the_size}
use Rattle.vc_process.proofs.usages.+usages.Given as goal

abbrev pub invariant-push_parts-loop-part : goal.invariant-push_parts-loop-part
invariant-push_parts-loop-part l = Adds number all_parts l.part-items l.initial.uses l.part-index l.uses

abbrev pub invariant-push_branches-loop-branch : goal.invariant-push_branches-loop-branch
invariant-push_branches-loop-branch l = Adds number_branch all_branches l.branch-items l.initial.uses l.branch-index l.uses

abbrev pub invariant-push_guards-loop-guard : goal.invariant-push_guards-loop-guard
invariant-push_guards-loop-guard l = Adds number_guard all_guards l.guard-items l.initial.uses l.guard-index l.uses

abbrev pub decreases-push_usages : goal.decreases-push_usages
decreases-push_usages l = 2 * goal.size-push_usages l

abbrev pub decreases-push_parts : goal.decreases-push_parts
decreases-push_parts l = 2 * goal.size-push_parts l + 1

abbrev pub decreases-push_branches : goal.decreases-push_branches
decreases-push_branches l = 2 * goal.size-push_branches l + 1

abbrev pub decreases-push_guards : goal.decreases-push_guards
decreases-push_guards l = 2 * goal.size-push_guards l + 1

abbrev pub decreases-push_guarded : goal.decreases-push_guarded
decreases-push_guarded l = 2 * goal.size-push_guarded l

abbrev pub decreases-push_conditional : goal.decreases-push_conditional
decreases-push_conditional l = 2 * the_size l.body.now + 1
