-- What an actor of the code is in itself.
use Rattle.std.specs.Prelude.{◌≡◌, ℕ, min, Option, Some, None}
use Rattle.vc_occam.specs.Remains.{Done}
use Rattle.vc_occam.specs.Runnings.{state}
use Rattle.vc_switch.specs.SwitchView.{seen as seen_switch}
use Rattle.vc_switch.specs.State.{State as SwitchState}
use Rattle.vc_vcp.specs.VcpView.{seen}
use Rattle.vc_actor.specs.ActorView.{Acting, OfNode, OfSwitch}
use Rattle.vc_actor.specs.declared.actor.Part.{Part}
use Rattle.vc_actor.specs.declared.actor.Part.TheVariants as part
use Rattle.vc_actor.specs.declared.node.Node.{Node}

abbrev pub acting : Part → Acting
acting (part.Node x) = OfNode x
acting (part.Switch x) = OfSwitch x.switch

-- the node, if the actor is one
abbrev pub node_in : Acting → Option Node
node_in (OfNode n) = Some n
node_in (OfSwitch s) = None

-- the switch, if the actor is one
abbrev pub switch_in : Acting → Option SwitchState
switch_in (OfNode n) = None
switch_in (OfSwitch s) = Some s

-- it is a node, of whose process nothing remains
abbrev pub HasEnded : Acting → Type 0
HasEnded (OfNode n) = (state n.process).rest ≡ Done
HasEnded (OfSwitch s) = ⊥

-- how many packets and tokens a node dropped, and how many a switch
abbrev pub strays_of : Acting → ℕ
strays_of (OfNode n) = (seen n.vcp).carrier.strays
strays_of (OfSwitch s) = 0

abbrev pub lost_of : Acting → ℕ
lost_of (OfNode n) = 0
lost_of (OfSwitch s) = (seen_switch s).lost

abbrev pub faults_of : Acting → ℕ
faults_of (OfNode n) = (seen n.vcp).carrier.strays
faults_of (OfSwitch s) = (seen_switch s).lost

-- a count of 64 bits stays at its greatest
abbrev pub saturated : ℕ → ℕ
saturated n = min n 18446744073709551615
