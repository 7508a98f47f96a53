use Rattle.std.proofs.Common.{◌+◌, ◌*◌, take}
use Rattle.vc_process.proofs.process.Process.TheLaws.{the_size}
use Rattle.vc_process.specs.Private.MovedVariables.{AreMoved, AreMovedBranches, AreMovedGuards}
use Rattle.vc_process.proofs.renaming.+moved.Given as goal

abbrev pub invariant-moved_parts-loop-part : goal.invariant-moved_parts-loop-part
invariant-moved_parts-loop-part l = AreMoved l.by (take l.part-index l.part-items) l.copies

abbrev pub invariant-moved_branches-loop-branch : goal.invariant-moved_branches-loop-branch
invariant-moved_branches-loop-branch l =
    AreMovedBranches l.by (take l.branch-index l.branch-items) l.copies

abbrev pub invariant-moved_guards-loop-guard : goal.invariant-moved_guards-loop-guard
invariant-moved_guards-loop-guard l =
    AreMovedGuards l.by (take l.guard-index l.guard-items) l.copies

abbrev pub decreases-moved_body : goal.decreases-moved_body
decreases-moved_body l = 2 * goal.size-moved_body l + 1

abbrev pub decreases-moved_guards : goal.decreases-moved_guards
decreases-moved_guards l = 2 * goal.size-moved_guards l + 1

abbrev pub decreases-moved_parts : goal.decreases-moved_parts
decreases-moved_parts l = 2 * goal.size-moved_parts l + 1

abbrev pub decreases-moved_process : goal.decreases-moved_process
decreases-moved_process l = 2 * goal.size-moved_process l

abbrev pub decreases-moved_branches : goal.decreases-moved_branches
decreases-moved_branches l = 2 * goal.size-moved_branches l + 1

abbrev pub decreases-moved_conditional : goal.decreases-moved_conditional
decreases-moved_conditional l = 2 * the_size l.body.now + 1

abbrev pub decreases-moved_guard : goal.decreases-moved_guard
decreases-moved_guard l = 2 * goal.size-moved_guard l
