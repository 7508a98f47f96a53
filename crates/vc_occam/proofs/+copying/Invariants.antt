use Rattle.std.proofs.Common.{◌≡◌, ◌+◌, ◌*◌, map, take}
use Rattle.vc_occam.specs.Private.Frames.{seen_branch, seen_guard, seen_task, views}
use Rattle.vc_occam.proofs.+copying.Given as goal

abbrev pub invariant-copies::copy_parts-loop-part : goal.invariant-copies::copy_parts-loop-part
invariant-copies::copy_parts-loop-part l = views l.copies.items ≡ views (take l.part-index l.parts)

abbrev pub invariant-copies::copy_tasks-loop-task : goal.invariant-copies::copy_tasks-loop-task
invariant-copies::copy_tasks-loop-task l = map seen_task l.copies.items ≡ map seen_task (take l.task-index l.tasks)

abbrev pub invariant-copies::copy_branches-loop-branch : goal.invariant-copies::copy_branches-loop-branch
invariant-copies::copy_branches-loop-branch l = map seen_branch l.copies.items ≡ map seen_branch (take l.branch-index l.branches)

abbrev pub invariant-copies::copy_guards-loop-guard : goal.invariant-copies::copy_guards-loop-guard
invariant-copies::copy_guards-loop-guard l = map seen_guard l.copies.items ≡ map seen_guard (take l.guard-index l.guards)

abbrev pub decreases-frame::Frame::copy : goal.decreases-frame::Frame::copy
decreases-frame::Frame::copy l = 4 * goal.size-frame::Frame::copy l

abbrev pub decreases-copies::Task+Frame::copy : goal.decreases-copies::Task+Frame::copy
decreases-copies::Task+Frame::copy l = 4 * goal.size-copies::Task+Frame::copy l + 1

abbrev pub decreases-copies::copy_parts : goal.decreases-copies::copy_parts
decreases-copies::copy_parts l = 4 * goal.size-copies::copy_parts l + 2

abbrev pub decreases-copies::copy_tasks : goal.decreases-copies::copy_tasks
decreases-copies::copy_tasks l = 4 * goal.size-copies::copy_tasks l + 2

abbrev pub decreases-copies::copy_branches : goal.decreases-copies::copy_branches
decreases-copies::copy_branches l = 4 * goal.size-copies::copy_branches l + 2

abbrev pub decreases-copies::copy_guards : goal.decreases-copies::copy_guards
decreases-copies::copy_guards l = 4 * goal.size-copies::copy_guards l + 2

abbrev pub decreases-copies::Construct+Frame::copy : goal.decreases-copies::Construct+Frame::copy
decreases-copies::Construct+Frame::copy l = 4 * goal.size-copies::Construct+Frame::copy l + 3
