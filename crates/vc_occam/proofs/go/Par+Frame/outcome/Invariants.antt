use Rattle.std.proofs.Common.{◌≡◌, ◌-◌, drop, length}
use Rattle.vc_occam.specs.Frames.{besides}
use Rattle.vc_occam.specs.Private.Frames.{task_views}
use Rattle.vc_occam.specs.Remains.{Done}
use Rattle.vc_occam.proofs.go.Par+Frame.outcome.Given as goal

abbrev pub invariant-loop-behind : goal.invariant-loop-behind
invariant-loop-behind l = besides (drop (length l.self.tasks.items - l.behind) (task_views l.self.tasks.items)) ≡ Done
