-- A run under way.
use Rattle.std.specs.Prelude.{◌≡◌, ◌⊎◌, ℕ, ◌+◌, ◌-◌, ◌^◌, Bool, true, false, List, [], length}
use Rattle.vc_core.specs.Replay.{Reached}
use Rattle.vc_core.specs.State.{State, state_of}
use Rattle.vc_core.specs.Private.Turns.{IsAtRest}
use Rattle.vc_core.specs.declared.event.Event.{Event}
use Rattle.vc_plan.specs.declared.plan.Plan.{Plan}
use Rattle.vc_text.specs.Private.Quiet.{AreQuiet}
use Rattle.vc_text.specs.Private.Generators.{HaveGiven}
use Rattle.vc_text.specs.RunText.{HasStopped}
use Rattle.vc_text.specs.declared.schedule.Schedule.{Schedule}
use Rattle.vc_text.specs.declared.schedule.Schedule.TheVariants.{InTurn}
use Rattle.vc_text.specs.declared.simulation.Progress.{Progress}
use Rattle.vc_text.specs.declared.simulation.Simulation.{Simulation}

-- these events led from the opening state to where the run is, as many as it counts, and the words of their takes are those that the
-- generators gave
pub record HasRun (p : Plan) (events : List Event) (run : Simulation) : Type 0 where
  pub reached : Reached p events (state_of run.network)
  pub many : length events ≡ run.made
  pub words : HaveGiven p events run.generators

-- the same as far as a run is that goes on; and of the actors that are not awake none has an event
pub record HasRunSoFar (p : Plan) (events : List Event) (run : Simulation) (far : Progress) : Type 0 where
  pub reached : Reached p events (state_of run.network)
  pub many : length events ≡ far.made
  pub words : HaveGiven p events run.generators
  pub quiet : AreQuiet p (state_of run.network) far.awake

-- after so many events, where all may have one
abbrev pub all_awake : ℕ → Progress
all_awake made = record { made = made; awake = 2 ^ 64 - 1 }

-- these events were taken, and led to where the run is
abbrev pub HasTaken : {K : Type 0} → (K → Plan → List Event → State → Type 0) → K → Plan → List Event → Simulation → Type 0
HasTaken holds taken p events run = holds taken p events (state_of run.network)

-- whatever events led to the old run and were taken, some lead to the new one and were taken
abbrev pub LeadsOn : {K : Type 0} → (K → K → Plan → List Event → State → Type 0) → Simulation → K → Simulation → K → Type 0
LeadsOn {K} holds old taken new taken' =
    (from : K) (p : Plan) (events : List Event) → HasTaken (holds from) taken p events old → HasRun p events old
    → (events' : List Event) × HasTaken (holds from) taken' p events' new × HasRun p events' new

-- the same of a run that goes on
abbrev pub LeadsOnSoFar : {K : Type 0} → (K → K → Plan → List Event → State → Type 0) → Simulation → K → Progress → Simulation → K → Progress → Type 0
LeadsOnSoFar {K} holds old taken far new taken' far' =
    (from : K) (p : Plan) (events : List Event) → HasTaken (holds from) taken p events old → HasRunSoFar p events old far
    → (events' : List Event) × HasTaken (holds from) taken' p events' new × HasRunSoFar p events' new far'

-- whatever events led to the old run and were taken, some lead to where it stopped
abbrev pub Stops : {K : Type 0} → (K → K → Plan → List Event → State → Type 0) → (K → K → Plan → List Event → Type 0) → ℕ → Simulation → K → Progress → K → Type 0
Stops {K} holds left limit old taken far taken' =
    (from : K) (p : Plan) (events : List Event) → HasTaken (holds from) taken p events old → HasRunSoFar p events old far
    → HasStopped (holds from) (left from) taken' p InTurn limit

-- the same of a run from the opening state on
abbrev pub StopsBy : {K : Type 0} → Schedule → (K → K → Plan → List Event → State → Type 0) → (K → K → Plan → List Event → Type 0) → ℕ → Simulation → K → K → Type 0
StopsBy {K} schedule holds left limit old taken taken' =
    (from : K) (p : Plan) → HasTaken (holds from) taken p [] old → HasRun p [] old → HasStopped (holds from) (left from) taken' p schedule limit

-- so many events were made, or none can happen any more, for whatever events led to the old run and were taken
abbrev pub RunsOut : {K : Type 0} → (K → K → Plan → List Event → State → Type 0) → ℕ → Simulation → K → Simulation → Type 0
RunsOut {K} holds limit old taken new =
    (from : K) (p : Plan) (events : List Event) → HasTaken (holds from) taken p events old → HasRun p events old → (new.made ≡ limit) ⊎ IsAtRest p (state_of new.network)

abbrev pub RunsOutSoFar : {K : Type 0} → (K → K → Plan → List Event → State → Type 0) → ℕ → Simulation → K → Progress → Simulation → Progress → Type 0
RunsOutSoFar {K} holds limit old taken far new far' =
    (from : K) (p : Plan) (events : List Event) → HasTaken (holds from) taken p events old → HasRunSoFar p events old far → (far'.made ≡ limit) ⊎ IsAtRest p (state_of new.network)

-- how many events there are after one more, or none
abbrev pub counted : Bool → ℕ → ℕ
counted true made = made + 1
counted false made = made
