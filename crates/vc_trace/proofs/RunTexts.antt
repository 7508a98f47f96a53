-- What was written of a traced run.
use Rattle.std.proofs.Common.{ℕ, Bool, ◌++◌, refl, List}
use Rattle.vc_core.specs.PossibleEvents.{NetworkState}
use Rattle.vc_core.specs.declared.close.Close.{Close}
use Rattle.vc_core.specs.declared.event.Event.{Event}
use Rattle.vc_plan.specs.declared.plan.Plan.{Plan as Network}
use Rattle.vc_text.specs.Tail.{IsTail}
use Rattle.vc_trace.specs.EventText.{events_text}
use Rattle.vc_trace.specs.TraceText.{IsTracedText}

-- the events' text, and then the rest
pub traced : (why : Bool) (plan : Network) (events : List Event) (x : NetworkState) (close : Close) (tail : List ℕ) → IsTail why plan events x close tail → IsTracedText why plan events x close (events_text plan events ++ tail)
traced why plan events x close tail is = (tail, is, refl)
