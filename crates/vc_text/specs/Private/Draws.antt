-- A run under way whose events are drawn.
use Rattle.std.specs.Prelude.{◌≡◌, ℕ, List, [], Option, Some, None}
use Rattle.rand_pcg.specs.Lcg.{Lcg}
use Rattle.vc_network.specs.Network.{begins}
use Rattle.vc_plan.specs.declared.plan.Plan.{Plan}
use Rattle.vc_accepted.specs.Begin.{begin_of}
use Rattle.vc_accepted.specs.NetworkOf.{network_of}
use Rattle.vc_actor.specs.declared.act.Act.{Act}
use Rattle.vc_actor.specs.declared.act.Act.TheVariants.{Proc, Take, Put, Route, Fct, Pass}
use Rattle.vc_core.specs.Choices.{AreActs, AreReady}
use Rattle.vc_core.specs.PossibleEvents.{NetworkState}
use Rattle.vc_core.specs.State.{State, shown, state_of, IsNetworkOf}
use Rattle.vc_core.specs.declared.event.Event.{Event}
use Rattle.vc_text.specs.Schedules.{AreDrawn, IsInOrder, Picks, drawer}
use Rattle.vc_text.specs.Private.Generators.{DrawsFor}
use Rattle.vc_text.specs.Private.Simulation.{HasRun, HasTaken}
use Rattle.vc_text.specs.declared.generators.Generators.{Generators}
use Rattle.vc_text.specs.RunText.{HasStopped}
use Rattle.vc_text.specs.declared.schedule.Schedule.{Schedule}
use Rattle.vc_text.specs.declared.schedule.Schedule.TheVariants.{Random}
use Rattle.vc_text.specs.declared.simulation.Simulation.{Simulation}

-- it is the network of some plan
abbrev pub IsOfPlan : State → Type 0
IsOfPlan s = (p : Plan) × IsNetworkOf p s

-- an actor of those that have an event is drawn, or none has one
abbrev pub DrawsActor : Plan → NetworkState → Lcg → Lcg → Option ℕ → Type 0
DrawsActor p x g next None = AreReady p x [] × (next ≡ g)
DrawsActor p x g next (Some k) = (ready : List ℕ) × AreReady p x ready × Picks g ready k next

-- an act of those that an actor can make is drawn
abbrev pub DrawsAct : Plan → NetworkState → ℕ → Lcg → Lcg → Act → Type 0
DrawsAct p x k g next act = (acts : List Act) × AreActs p x k acts × Picks g acts act next

-- a take has the next word of its actor, and no other generator went on
abbrev pub GivesWord : Generators → ℕ → Act → Generators → Type 0
GivesWord old k (Take link word) new = DrawsFor old k word new
GivesWord old k (Proc made) new = new ≡ old
GivesWord old k (Put link) new = new ≡ old
GivesWord old k (Route input output) new = new ≡ old
GivesWord old k (Fct link) new = new ≡ old
GivesWord old k (Pass link) new = new ≡ old

-- these events led to where the run is, and each was drawn
pub record HasDrawn (p : Plan) (seed : ℕ) (events : List Event) (run : Simulation) (last : Lcg) : Type 0 where
  pub runs : HasRun p events run
  pub drawn : AreDrawn p (drawer seed) (begins (network_of p) (begin_of p)) events (shown (state_of run.network)) last

-- whatever events were drawn so, some more are
abbrev pub DrawsOn : {K : Type 0} → ℕ → (K → K → Plan → List Event → State → Type 0) → Simulation → K → Lcg → Simulation → K → Lcg → Type 0
DrawsOn {K} seed holds old taken g new taken' next =
    (from : K) (p : Plan) (events : List Event) → HasTaken (holds from) taken p events old → HasDrawn p seed events old g
    → (events' : List Event) × HasTaken (holds from) taken' p events' new × HasDrawn p seed events' new next

-- or the run stops there
abbrev pub StopsDrawing : {K : Type 0} → ℕ → (K → K → Plan → List Event → State → Type 0) → (K → K → Plan → List Event → Type 0) → ℕ → Simulation → K → Lcg → K → Type 0
StopsDrawing {K} seed holds left limit old taken g taken' =
    (from : K) (p : Plan) (events : List Event) → HasTaken (holds from) taken p events old → HasDrawn p seed events old g
    → HasStopped (holds from) (left from) taken' p (Random seed) limit

-- from the opening state on some events lead to the new run, and are in the schedule's order
abbrev pub RunsBy : {K : Type 0} → Schedule → (K → K → Plan → List Event → State → Type 0) → Simulation → K → Simulation → K → Type 0
RunsBy {K} schedule holds old taken new taken' =
    (from : K) (p : Plan) → HasTaken (holds from) taken p [] old → HasRun p [] old
    → (events : List Event) × HasTaken (holds from) taken' p events new × HasRun p events new × IsInOrder p schedule events (shown (state_of new.network))
