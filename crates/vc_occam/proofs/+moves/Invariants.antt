use Rattle.std.proofs.Common.{◌≡◌, ◌++◌, drop}
use Rattle.vc_occam.specs.First.{own}
use Rattle.vc_occam.specs.Frames.{besides}
use Rattle.vc_occam.specs.Private.Frames.{task_views}
use Rattle.vc_process.specs.Terms.{store}
use Rattle.vc_occam.proofs.+moves.Given as goal

abbrev pub invariant-frame::Frame::push_moves-loop-task : goal.invariant-frame::Frame::push_moves-loop-task
invariant-frame::Frame::push_moves-loop-task l =
    l.found ++ own (besides (task_views (drop l.task-index l.task-items))) (store l.vars) ≡ l.initial.found ++ own (besides (task_views l.task-items)) (store l.vars)
