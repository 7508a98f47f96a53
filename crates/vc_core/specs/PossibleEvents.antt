-- Which events of a plan's actors the definitions have a step for.
use Rattle.vc_accepted.specs.NetworkOf.{network_of}
use Rattle.vc_network.specs.EnabledEvents.{IsEnabled}
use Rattle.vc_plan.specs.declared.plan.Plan.{Plan}
use Rattle.vc_switch.specs.Waiting.{Wormhole}
use Rattle.vc_network.specs.Actors.{Network}
use Rattle.vc_network.specs.Network.{Actor}
use Rattle.vc_tokens.specs.Tokens.{Token}
use Rattle.vc_accepted.specs.Process.{Process, does}
use Rattle.vc_core.specs.State.{State, shown, event_of}
use Rattle.vc_core.specs.declared.event.Event.{Event}

-- a state of the network of a plan, in the words of the definitions
abbrev pub NetworkState : Type 0
NetworkState = Network (Actor Process) Token

-- the event leads from this state to some state
abbrev pub CanHappenIn : Plan → NetworkState → Event → Type 0
CanHappenIn p x e = IsEnabled (network_of p) Wormhole does x (event_of e)

-- and so for a state of the code
abbrev pub CanHappen : Plan → State → Event → Type 0
CanHappen p s e = CanHappenIn p (shown s) e
