-- What the code's network is: its actors, and the ways between them; and when an event can be made.
use Rattle.std.specs.Prelude.{◌≡◌, ℕ, ◌+◌, List, [], Option, Some, None, slice_get, length}
use Rattle.vc_network.specs.Actors.{ActBy}
use Rattle.vc_network.specs.Actors as actors
use Rattle.vc_network.specs.Network as net
use Rattle.vc_network.specs.Plan.{ways}
use Rattle.vc_plan.specs.declared.plan.Plan.{Plan}
use Rattle.vc_plan.specs.declared.port.Wire.{Wire}
use Rattle.vc_plan.specs.Accepted.{IsAccepted}
use Rattle.vc_accepted.specs.NetworkOf.{network_of}
use Rattle.vc_switch.specs.Switch.{new_switch}
use Rattle.vc_switch.specs.Waiting.{Wormhole}
use Rattle.vc_tokens.specs.Tokens.{Token}
use Rattle.vc_packets.specs.Functions.{shown_or}
use Rattle.vc_core.specs.Channels.{AreChannelsOf}
use Rattle.vc_actor.specs.Acts.{MayAct}
use Rattle.vc_actor.specs.OfPlan.{IsActorOf}
use Rattle.vc_accepted.specs.Process.{Process, does}
use Rattle.vc_actor.specs.ActorView.{Acting, actor_of, act_of}
use Rattle.vc_core.specs.Wiring.{AreWaysAt, Comes, Goes}
use Rattle.vc_actor.specs.declared.act.Act.{Act}
use Rattle.vc_actor.specs.declared.act.Act.TheVariants.{Proc, Take, Put, Route, Fct, Pass}
use Rattle.vc_core.specs.declared.event.Event.{Event}
use Rattle.vc_core.specs.declared.channels.ChannelInfo.{ChannelInfo}
use Rattle.vc_core.specs.declared.network.Network.{Network}

pub record State : Type 0 where
  pub actors : List Acting
  pub nodes : ℕ  -- how many of the actors are nodes
  pub ways : List (List Token)
  pub wiring : List (Option ℕ)
  pub wires : List Wire
  pub channels : List ChannelInfo

abbrev pub state_of : Network → State
state_of n = record { actors = n.actors.items; nodes = n.nodes; ways = n.lines.ways; wiring = n.lines.wiring; wires = n.wires; channels = n.channels.items }

-- in the words of the network's steps
abbrev pub shown : State → actors.Network (net.Actor Process) Token
shown s = record {
  state = λ a. shown_or (net.IsSwitch new_switch) actor_of (slice_get s.actors a);
  way = λ w. shown_or [] (λ ts. ts) (slice_get s.ways w);
}

abbrev pub event_of : Event → ActBy net.Act
event_of e = record { actor = e.actor; act = act_of e.act }

-- it is a state of the network of plan p
pub record IsNetworkOf (p : Plan) (s : State) : Type 0 where
  pub accepted : IsAccepted p
  pub count : length s.actors ≡ length p.nodes + length p.switches
  pub actors : (k : ℕ) (a : Acting) → slice_get s.actors k ≡ Some a → IsActorOf (network_of p) k a
  pub nodes : s.nodes ≡ length p.nodes
  pub ways : length s.ways ≡ ways (network_of p)
  pub wiring : AreWaysAt p s.wiring
  pub wires : s.wires ≡ p.wires
  pub channels : AreChannelsOf p s.channels

-- a token stands on the way that comes in by a link
abbrev pub HasFront : State → ℕ → ℕ → Type 0
HasFront s actor link = Comes s.wiring s.ways actor link

-- a way goes out by a link
abbrev pub HasWay : State → ℕ → ℕ → Type 0
HasWay s actor link = Goes s.wiring s.ways actor link

-- the act's way is there, and has a token where it takes one
abbrev pub WaysLet : State → ℕ → Act → Type 0
WaysLet s actor (Take link word) = HasFront s actor link
WaysLet s actor (Put link) = HasWay s actor link
WaysLet s actor (Fct link) = HasWay s actor link
WaysLet s actor (Proc made) = Unit {0}
WaysLet s actor (Pass link) = Unit {0}
WaysLet s actor (Route input output) = Unit {0}

-- the event can be made
pub record MayHappen (s : State) (e : Event) : Type 0 where
  pub actor : Acting
  pub here : slice_get s.actors e.actor ≡ Some actor
  pub may : MayAct actor e.act
  pub ways : WaysLet s e.actor e.act

-- the event is made, and the network stays the plan's
pub record MakesEvent (p : Plan) (old : State) (e : Event) (new : State) : Type 0 where
  pub happens : net.Happens (network_of p) Wormhole does (shown old) (event_of e) (shown new)
  pub kept : IsNetworkOf p new

-- the actor is there, and can make the act
pub record MayActAt (s : State) (k : ℕ) (a : Act) : Type 0 where
  pub actor : Acting
  pub here : slice_get s.actors k ≡ Some actor
  pub may : MayAct actor a

-- an event is made, or none and all stays
abbrev pub MakesOne : Plan → State → Option Event → State → Type 0
MakesOne p old None new = new ≡ old
MakesOne p old (Some e) new = MakesEvent p old e new
