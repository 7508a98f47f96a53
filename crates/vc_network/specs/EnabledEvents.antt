-- Which events a state has.
use Rattle.vc_network.specs.Actors.{Network, Alike, ActBy}
use Rattle.vc_tokens.specs.Tokens.{Token}
use Rattle.vc_switch.specs.Waiting.{Waiting}
use Rattle.vc_network.specs.Plan.{Plan, IsAccepted}
use Rattle.vc_network.specs.Processes.{StepRelation, IsDeterminate}
use Rattle.vc_network.specs.Network.{Act, Actor, Happens}

-- some step is there by the event
abbrev pub IsEnabled : {P : Type 0} → Plan → Waiting → StepRelation P → Network (Actor P) Token → ActBy Act → Type 0
IsEnabled {P} plan waiting Does old e = (new : Network (Actor P) Token) × Happens plan waiting Does old e new

-- an event leads to one state only
abbrev pub EventsAreOne : {P : Type 0} → Plan → Waiting → StepRelation P → Type 0
EventsAreOne {P} plan waiting Does =
    IsAccepted plan → IsDeterminate Does → (old new new' : Network (Actor P) Token) (e : ActBy Act) → Happens plan waiting Does old e new → Happens plan waiting Does old e new' → Alike new new'
