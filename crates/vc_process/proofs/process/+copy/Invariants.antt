use Rattle.std.proofs.Common.{◌≡◌, ◌+◌, ◌*◌, take}
use Rattle.vc_process.proofs.process.Process.TheLaws.{the_size}
use Rattle.vc_process.proofs.process.+copy.Given as goal

abbrev pub invariant-copy_parts-loop-part : goal.invariant-copy_parts-loop-part
invariant-copy_parts-loop-part l = l.copies ≡ take l.part-index l.part-items

abbrev pub invariant-copy_branches-loop-branch : goal.invariant-copy_branches-loop-branch
invariant-copy_branches-loop-branch l = l.copies ≡ take l.branch-index l.branch-items

abbrev pub invariant-copy_guards-loop-guard : goal.invariant-copy_guards-loop-guard
invariant-copy_guards-loop-guard l = l.copies ≡ take l.guard-index l.guard-items

abbrev pub decreases-copy_body : goal.decreases-copy_body
decreases-copy_body l = 2 * goal.size-copy_body l + 1

abbrev pub decreases-copy_guards : goal.decreases-copy_guards
decreases-copy_guards l = 2 * goal.size-copy_guards l + 1

abbrev pub decreases-copy_parts : goal.decreases-copy_parts
decreases-copy_parts l = 2 * goal.size-copy_parts l + 1

abbrev pub decreases-copy_process : goal.decreases-copy_process
decreases-copy_process l = 2 * goal.size-copy_process l

abbrev pub decreases-copy_branches : goal.decreases-copy_branches
decreases-copy_branches l = 2 * goal.size-copy_branches l + 1

abbrev pub decreases-copy_conditional : goal.decreases-copy_conditional
decreases-copy_conditional l = 2 * the_size l.body.now + 1

abbrev pub decreases-copy_guard : goal.decreases-copy_guard
decreases-copy_guard l = 2 * goal.size-copy_guard l
