-- What an actor of the code is in itself.
use Rattle.std.specs.Prelude.{◌≡◌, Option, Some, None}
use Rattle.vc_occam.specs.Remains.{Done}
use Rattle.vc_occam.specs.Runnings.{state}
use Rattle.vc_switch.specs.State.{State as SwitchState}
use Rattle.vc_vcp.specs.Links.{Vcp, new_vcp}
use Rattle.vc_vcp.specs.VcpView.{seen}
use Rattle.vc_actor.specs.ActorView.{Acting, OfNode, OfSwitch}
use Rattle.vc_actor.specs.declared.node.Node.{Node}
use Rattle.vc_actor.specs.Parts.{node_in, switch_in}

-- the node, if there is such an actor and it is one
abbrev pub node_at : Option Acting → Option Node
node_at None = None
node_at (Some a) = node_in a

-- the switch, if there is such an actor and it is one
abbrev pub switch_at : Option Acting → Option SwitchState
switch_at None = None
switch_at (Some a) = switch_in a

-- what the node shows; nothing where there is none
abbrev pub vcp_in : Option Node → Vcp
vcp_in None = new_vcp
vcp_in (Some n) = seen n.vcp

-- nothing remains of its process, if it is a node
abbrev pub IsDone : Acting → Type 0
IsDone (OfNode n) = (state n.process).rest ≡ Done
IsDone (OfSwitch s) = Unit {0}
