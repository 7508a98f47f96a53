use Rattle.std.proofs.Common.{◌≡◌, ◌+◌, ◌*◌, ◌-◌, ◌<◌, length}
use Rattle.vc_occam.specs.Frames.{view}
use Rattle.vc_occam.specs.Private.StepsInARow.{Stepped}
use Rattle.vc_process.specs.Terms.{store}
use Rattle.vc_occam.proofs.StepsInARow.{weight}
use Rattle.vc_occam.proofs.frame.Frame.+steps.Given as goal

abbrev pub invariant-make_steps-loop-outcome : goal.invariant-make_steps-loop-outcome
invariant-make_steps-loop-outcome l =
    (l.steps.left < l.fn.steps.left)
    × Stepped l.fn.site (l.fn.steps.left - l.steps.left) l.steps.last (view l.fn.self) (store l.fn.vars.items) l.outcome (view l.self) (store l.vars.items)
    × (length l.vars.items ≡ length l.fn.vars.items)

abbrev pub decreases-make_steps-loop-outcome : goal.decreases-make_steps-loop-outcome
decreases-make_steps-loop-outcome l = l.steps.left

abbrev pub decreases-make_steps : goal.decreases-make_steps
decreases-make_steps l = 2 * weight (view l.self.now).plan + 1

abbrev pub decreases-make_steps_within : goal.decreases-make_steps_within
decreases-make_steps_within l = 2 * weight (view l.self.now).plan
