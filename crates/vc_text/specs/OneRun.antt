-- A seed has one run.
use Rattle.std.specs.Prelude.{◌≡◌, ℕ, List, length, take}
use Rattle.vc_plan.specs.declared.plan.Plan.{Plan}
use Rattle.vc_core.specs.PossibleEvents.{NetworkState}
use Rattle.vc_core.specs.declared.close.Close.{Close}
use Rattle.vc_core.specs.declared.event.Event.{Event}
use Rattle.vc_text.specs.RunText.{IsRunWithin}
use Rattle.vc_text.specs.declared.schedule.Schedule.TheVariants.{Random}

-- two runs of a plan by one seed make the same events, as far as the shorter one goes
abbrev pub SeedsHaveOneRun : Type 0
SeedsHaveOneRun = (p : Plan) (seed most limit : ℕ) (es fs : List Event) (x y : NetworkState) (close end : Close)
    → IsRunWithin p (Random seed) most es x close → IsRunWithin p (Random seed) limit fs y end → take (length fs) es ≡ take (length es) fs
