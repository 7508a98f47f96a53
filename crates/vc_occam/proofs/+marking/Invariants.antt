use Rattle.std.proofs.Common.{drop}
use Rattle.vc_occam.specs.Private.Frames.{task_views}
use Rattle.vc_occam.proofs.KeyMarks.{MarksTo}
use Rattle.vc_occam.proofs.+marking.Given as goal

abbrev pub invariant-frame::Frame::push_marks-loop-task :
    goal.invariant-frame::Frame::push_marks-loop-task
invariant-frame::Frame::push_marks-loop-task l =
    MarksTo l.initial.marks.items l.marks.items (task_views (drop l.task-index l.task-items)) (task_views l.task-items)
