-- Each event of an accepted network keeps its meaning, or is one move of the program.
use Rattle.std.specs.Prelude.{ℕ, ◌≤◌, List, length}
use Rattle.vc_accepted.specs.Begin.{begin_of}
use Rattle.vc_accepted.specs.NetworkOf.{network_of}
use Rattle.vc_accepted.specs.Process.{does}
use Rattle.vc_core.specs.PossibleEvents.{NetworkState}
use Rattle.vc_meaning.specs.Meaning.{Means}
use Rattle.vc_network.specs.Actors.{ActBy}
use Rattle.vc_network.specs.Network.{Act, begins, Happens, HappenAll}
use Rattle.vc_network.specs.Still.{IsNoMove}
use Rattle.vc_plan.specs.Accepted.{IsAccepted}
use Rattle.vc_plan.specs.declared.plan.Plan.{Plan}
use Rattle.vc_program.specs.Program.{Program, program_of, Move, Makes, Reaches}
use Rattle.vc_switch.specs.Waiting.{Waiting}

-- the opening state of the network means that of the program
abbrev pub OpeningMeans : Type 0
OpeningMeans = (p : Plan) → IsAccepted p → Means p (begins (network_of p) (begin_of p)) (program_of p)

-- what an event leads to means what its state meant, or what one move leads to, if it is a move of a process
pub data KeepsMeaning (p : Plan) (s : Program) (act : Act) (y : NetworkState) : Type 0 where
  keeps : Means p y s → KeepsMeaning p s act y
  moves : (IsNoMove act → ⊥) → (m : Move) (t : Program) → Makes p s m t → Means p y t → KeepsMeaning p s act y

-- so it is with each event, wherever a run of an accepted network has come, under either waiting rule, if the state means one that a schedule
-- leads to
abbrev pub EventsKeepMeaning : Type 0
EventsKeepMeaning =
    (p : Plan) (waiting : Waiting) (es : List (ActBy Act)) (x y : NetworkState) (e : ActBy Act) (ms : List Move) (s : Program) → IsAccepted p
    → HappenAll (network_of p) waiting does (begins (network_of p) (begin_of p)) es x → Happens (network_of p) waiting does x e y → Reaches p ms s → Means p x s
    → KeepsMeaning p s e.act y

-- a schedule, of no more moves than events, leads to what the state means
pub record IsMeant (p : Plan) (events : List (ActBy Act)) (x : NetworkState) : Type 0 where
  pub schedule : List Move
  pub state : Program
  pub reaches : Reaches p schedule state
  pub few : length schedule ≤ length events
  pub means : Means p x state

-- so each state of an accepted network means one that a schedule leads to
abbrev pub StatesAreMeant : Type 0
StatesAreMeant =
    (p : Plan) (waiting : Waiting) (es : List (ActBy Act)) (x : NetworkState) → IsAccepted p → HappenAll (network_of p) waiting does (begins (network_of p) (begin_of p)) es x
    → IsMeant p es x
