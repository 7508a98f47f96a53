-- When an actor can make an act, and what the act is then: a step of the actor, which stays one of the plan.
use Rattle.std.specs.Prelude.{◌≢◌, ℕ, ◌-◌, ◌<◌, nat_lt, [], if◌then◌else◌}
use Rattle.vc_network.specs.Actors.Label.{Own, Takes, Puts}
use Rattle.vc_machine.specs.Paths.{Port, AtNode, AtSwitch}
use Rattle.vc_tokens.specs.Tokens.{Token}
use Rattle.vc_tokens.specs.Tokens as tokens
use Rattle.vc_network.specs.Network.{Local}
use Rattle.vc_network.specs.Network as net
use Rattle.vc_network.specs.Plan.{Plan, IsOutOf, IsInto}
use Rattle.vc_switch.specs.State.{State as SwitchState}
use Rattle.vc_switch.specs.Waiting.{Wormhole}
use Rattle.vc_vcp.specs.VcpView.{seen}
use Rattle.vc_vcp.specs.State.{MayPut, MayGrant}
use Rattle.vc_actor.specs.Able.{SwitchCan}
use Rattle.vc_actor.specs.MayMove.{MayMove}
use Rattle.vc_actor.specs.OfPlan.{IsActorOf}
use Rattle.vc_accepted.specs.Process.{does}
use Rattle.vc_actor.specs.ActorView.{Acting, OfNode, OfSwitch, actor_of, act_of}
use Rattle.vc_actor.specs.declared.act.Act.{Act}
use Rattle.vc_actor.specs.declared.act.Act.TheVariants.{Proc, Take, Put, Route, Fct, Pass}
use Rattle.vc_actor.specs.declared.node.Node.{Node}

-- Whatever stands on its ways: the node's process can move; a token comes or goes by one of its four links
abbrev pub NodeMay : Node → Act → Type 0
NodeMay n (Proc made) = MayMove n made
NodeMay n (Take link word) = link < 4
NodeMay n (Put link) = (link < 4) × MayPut n.vcp link
NodeMay n (Fct link) = (link < 4) × MayGrant n.vcp link
NodeMay n (Pass link) = (link < 4) × (((seen n.vcp).link link).receiver.buffer ≢ [])
NodeMay n (Route input output) = ⊥

-- all is by the links that the actor has, as the code wants it
abbrev pub ByLinksOfSwitch : Act → Type 0
ByLinksOfSwitch (Proc made) = ⊥
ByLinksOfSwitch (Take link word) = link < 32
ByLinksOfSwitch (Put link) = link < 32
ByLinksOfSwitch (Fct link) = link < 32
ByLinksOfSwitch (Pass link) = link < 32
ByLinksOfSwitch (Route input output) = (input < 32) × (output < 32)

pub record SwitchMay (s : SwitchState) (a : Act) : Type 0 where
  pub links : ByLinksOfSwitch a
  pub can : SwitchCan s a

abbrev pub MayAct : Acting → Act → Type 0
MayAct (OfNode n) a = NodeMay n a
MayAct (OfSwitch s) a = SwitchMay s a

-- a token can come over the link: a node has four links, and a switch 32
abbrev pub HasLink : Acting → ℕ → Type 0
HasLink (OfNode n) link = link < 4
HasLink (OfSwitch s) link = link < 32

-- the act takes nothing off a way and puts nothing on one
abbrev pub IsOwn : Act → Type 0
IsOwn (Proc made) = Unit {0}
IsOwn (Pass link) = Unit {0}
IsOwn (Route input output) = Unit {0}
IsOwn (Take link word) = ⊥
IsOwn (Put link) = ⊥
IsOwn (Fct link) = ⊥

-- the port at a link of actor k
abbrev pub port : Plan → ℕ → ℕ → Port
port plan k link = if nat_lt k plan.nodes then AtNode k link else AtSwitch (k - plan.nodes) link

-- a step of the actor's own
pub record MakesOwn (plan : Plan) (k : ℕ) (old : Acting) (a : Act) (new : Acting) : Type 0 where
  pub step : Local plan Wormhole does k (actor_of old) (Own (act_of a)) (actor_of new)
  pub kept : IsActorOf plan k new

-- a token is taken from a link, off whatever way comes in there
pub record MakesTake (plan : Plan) (k : ℕ) (old : Acting) (link word : ℕ) (t : Token) (new : Acting) : Type 0 where
  pub step : (way : ℕ) → IsInto plan way (port plan k link) → Local plan Wormhole does k (actor_of old) (Takes (net.Take link word) way t) (actor_of new)
  pub kept : IsActorOf plan k new

-- a token is put on a link, on whatever way goes out there
pub record MakesPut (plan : Plan) (k : ℕ) (old : Acting) (link : ℕ) (t : Token) (new : Acting) : Type 0 where
  pub step : (way : ℕ) → IsOutOf plan way (port plan k link) → Local plan Wormhole does k (actor_of old) (Puts (net.Put link) way t) (actor_of new)
  pub kept : IsActorOf plan k new

-- eight places of a link's buffer are granted
pub record MakesGrant (plan : Plan) (k : ℕ) (old : Acting) (link : ℕ) (new : Acting) : Type 0 where
  pub step : (way : ℕ) → IsOutOf plan way (port plan k link) → Local plan Wormhole does k (actor_of old) (Puts (net.Fct link) way tokens.Fct) (actor_of new)
  pub kept : IsActorOf plan k new
