use Rattle.std.proofs.Common.{◌≡◌, drop}
use Rattle.vc_occam.specs.First.{own}
use Rattle.vc_occam.specs.Frames.{besides}
use Rattle.vc_occam.specs.MoveSites.{from_site}
use Rattle.vc_occam.specs.Private.Frames.{task_views}
use Rattle.vc_process.specs.Terms.{store}
use Rattle.vc_occam.proofs.+first.Given as goal

abbrev pub invariant-frame::Frame::first_from-loop-place : goal.invariant-frame::Frame::first_from-loop-place
invariant-frame::Frame::first_from-loop-place l =
    from_site l.site (own (besides (task_views (drop l.place l.tasks))) (store l.vars)) ≡ from_site l.site (own (besides (task_views l.tasks)) (store l.vars))
