use Rattle.std.proofs.Common.{◌≡◌, drop}
use Rattle.vc_occam.specs.Frames.{besides}
use Rattle.vc_occam.specs.Private.Frames.{first_waits, task_views}
use Rattle.vc_occam.specs.States.{waiting}
use Rattle.vc_occam.proofs.+waits.Given as goal

abbrev pub invariant-frame::Frame::waits_on-loop-task : goal.invariant-frame::Frame::waits_on-loop-task
invariant-frame::Frame::waits_on-loop-task l =
    first_waits l.wanted (waiting (besides (task_views (drop l.task-index l.task-items)))) ≡ first_waits l.wanted (waiting (besides (task_views l.task-items)))
