use Rattle.std.proofs.Common.{◌≡◌, ◌+◌, ◌*◌}
use Rattle.vc_occam.specs.Private.Frames.{task_views}
use Rattle.vc_occam.proofs.Starts.{begun_to}
use Rattle.vc_occam.proofs.frame.+start.Given as goal

abbrev pub invariant-Par+Frame::start-loop-place : goal.invariant-Par+Frame::start-loop-place
invariant-Par+Frame::start-loop-place l =
    goal.unvisited-Par+Frame::start-loop-place l × (task_views l.self.tasks.items ≡ begun_to l.place (task_views l.initial.self.tasks.items))

abbrev pub decreases-Frame::start : goal.decreases-Frame::start
decreases-Frame::start l = 4 * goal.size-Frame::start l

abbrev pub decreases-Task+Frame::start : goal.decreases-Task+Frame::start
decreases-Task+Frame::start l = 4 * goal.size-Task+Frame::start l + 1

abbrev pub decreases-Seq+Frame::start : goal.decreases-Seq+Frame::start
decreases-Seq+Frame::start l = 4 * goal.size-Seq+Frame::start l + 2

abbrev pub decreases-Par+Frame::start : goal.decreases-Par+Frame::start
decreases-Par+Frame::start l = 4 * goal.size-Par+Frame::start l + 2

abbrev pub decreases-Construct+Frame::start : goal.decreases-Construct+Frame::start
decreases-Construct+Frame::start l = 4 * goal.size-Construct+Frame::start l + 3
