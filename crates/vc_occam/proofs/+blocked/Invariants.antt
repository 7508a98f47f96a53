use Rattle.std.proofs.Common.{◌≡◌, ◌++◌, drop}
use Rattle.vc_occam.specs.BlockedParts.{blocked}
use Rattle.vc_occam.specs.Frames.{besides}
use Rattle.vc_occam.specs.Private.Frames.{task_views}
use Rattle.vc_process.specs.Terms.{store}
use Rattle.vc_occam.proofs.+blocked.Given as goal

abbrev pub invariant-frame::Frame::push_blocked-loop-task : goal.invariant-frame::Frame::push_blocked-loop-task
invariant-frame::Frame::push_blocked-loop-task l =
    l.found ++ blocked (besides (task_views (drop l.task-index l.task-items))) (store l.vars) ≡ l.initial.found ++ blocked (besides (task_views l.task-items)) (store l.vars)
