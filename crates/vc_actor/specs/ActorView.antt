-- What the code's actors are in the words of the network's steps.
use Rattle.std.specs.Prelude.{ℕ, List, length}
use Rattle.vc_network.specs.Processes as made
use Rattle.vc_network.specs.Network as net
use Rattle.vc_machine.specs.Rendezvous.{View, nothing_yet}
use Rattle.vc_vcp.specs.Names.{by_name}
use Rattle.vc_vcp.specs.VcpView.{seen}
use Rattle.vc_switch.specs.State.{State as SwitchState}
use Rattle.vc_switch.specs.SwitchView.{seen as seen_switch}
use Rattle.vc_occam.specs.Runnings.{state, inner_channels}
use Rattle.vc_occam.specs.declared.moves.Move.{Move}
use Rattle.vc_occam.specs.declared.moves.Move.TheVariants as move
use Rattle.vc_occam.specs.declared.running.Running.{Running}
use Rattle.vc_accepted.specs.Process.{Process}
use Rattle.vc_actor.specs.declared.act.Act.{Act}
use Rattle.vc_actor.specs.declared.act.Act.TheVariants as act
use Rattle.vc_actor.specs.declared.inside.Internal.{Internal}
use Rattle.vc_actor.specs.declared.node.Node.{Node}

abbrev pub move_of : Move → made.Move
move_of (move.Offer i c) = made.Offer i c
move_of (move.Want i c) = made.Want i c
move_of (move.Choose i k c) = made.Choose i k c
move_of (move.Stopch i c) = made.Stopch i c
move_of (move.Inner i j k c) = made.Inner i j k c
move_of (move.Quiet i) = made.Quiet i

abbrev pub act_of : Act → net.Act
act_of (act.Proc m) = net.Proc (move_of m)
act_of (act.Take link word) = net.Take link word
act_of (act.Put link) = net.Put link
act_of (act.Route input output) = net.Route input output
act_of (act.Fct link) = net.Fct link
act_of (act.Pass link) = net.Pass link

abbrev pub process_of : Running → Process
process_of r = record { inside = inner_channels r; state = state r }

-- on a channel inside a node what is offered is taken at once
abbrev pub view_of : Internal → View
view_of x = record { offered = x.messages; taken = x.messages; finished = length x.messages; stopped = x.stopped }

abbrev pub views_of : List Internal → ℕ → View
views_of xs = by_name (λ x. x.chan) view_of nothing_yet xs

abbrev pub node_of : Node → net.Node Process
node_of n = record { vcp = seen n.vcp; process = process_of n.process; inner = views_of n.inside }

-- an actor of the code: a node, or a switch
pub data Acting : Type 0 where
  OfNode : Node → Acting
  OfSwitch : SwitchState → Acting

abbrev pub actor_of : Acting → net.Actor Process
actor_of (OfNode n) = net.IsNode (node_of n)
actor_of (OfSwitch s) = net.IsSwitch (seen_switch s)
