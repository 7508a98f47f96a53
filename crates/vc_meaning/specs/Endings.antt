-- A program that always ends, ends on each free network, whatever the order of its events.
use Rattle.std.specs.Prelude.{ℕ}
use Rattle.vc_accepted.specs.Begin.{begin_of}
use Rattle.vc_accepted.specs.NetworkOf.{network_of}
use Rattle.vc_accepted.specs.Process.{does}
use Rattle.vc_core.specs.PossibleEvents.{NetworkState}
use Rattle.vc_network.specs.Actors.{ActBy}
use Rattle.vc_network.specs.Network.{Act, begins, Happens}
use Rattle.vc_plan.specs.Accepted.{IsAccepted}
use Rattle.vc_plan.specs.Dependencies.{HasRanks}
use Rattle.vc_plan.specs.declared.plan.Plan.{Plan}
use Rattle.vc_program.specs.Program.{EndsWithin}
use Rattle.vc_switch.specs.Waiting.{Waiting}

-- from this state on no events go on for ever: so it is after each event that can happen
pub data Ends (p : Plan) (waiting : Waiting) : NetworkState → Type 0 where
  ends : {x : NetworkState} → ((e : ActBy Act) (y : NetworkState) → Happens (network_of p) waiting does x e y → Ends p waiting y) → Ends p waiting x

-- so it is from the opening state of the plan's network on, under either waiting rule
abbrev pub AlwaysEnds : Plan → Type 0
AlwaysEnds p = (waiting : Waiting) → Ends p waiting (begins (network_of p) (begin_of p))

-- so it is with an accepted network whose ports have ranks, if no schedule of its program has more than so many moves
abbrev pub EndsAnywhere : Type 0
EndsAnywhere = (p : Plan) (n : ℕ) → IsAccepted p → HasRanks p → EndsWithin p n → AlwaysEnds p
