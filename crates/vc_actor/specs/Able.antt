-- Which moves of a node and which acts of an actor the definitions have a step for.
use Rattle.std.specs.Prelude.{ℕ, ◌<◌}
use Rattle.vc_network.specs.Network as net
use Rattle.vc_network.specs.Plan.{Plan, ends, body_limit}
use Rattle.vc_occam.specs.declared.moves.Move.{Move}
use Rattle.vc_vcp.specs.Able.{CanPut, CanGrant, CanPass}
use Rattle.vc_vcp.specs.VcpView.{seen}
use Rattle.vc_switch.specs.Able as switch
use Rattle.vc_switch.specs.SwitchView.{seen as seen_switch}
use Rattle.vc_switch.specs.State.{State as SwitchState, plan_of, limit_of}
use Rattle.vc_accepted.specs.Process.{Process, does}
use Rattle.vc_actor.specs.ActorView.{move_of, node_of, Acting, OfNode, OfSwitch}
use Rattle.vc_actor.specs.declared.act.Act.{Act}
use Rattle.vc_actor.specs.declared.act.Act.TheVariants.{Proc, Take, Put, Route, Fct, Pass}
use Rattle.vc_actor.specs.declared.node.Node.{Node}

-- the node has the move, to some state
abbrev pub CanMove : Plan → ℕ → Node → Move → Type 0
CanMove plan k n m = (new : net.Node Process) × net.Moves plan does k (node_of n) (move_of m) new

-- whatever stands on its ways, the node has the act: to some state, for a token that it takes always
abbrev pub NodeCan : Plan → ℕ → Node → Act → Type 0
NodeCan plan k n (Proc made) = CanMove plan k n made
NodeCan plan k n (Take link word) = link < 4
NodeCan plan k n (Put link) = (link < 4) × CanPut (seen n.vcp) link
NodeCan plan k n (Fct link) = (link < 4) × CanGrant (seen n.vcp) link
NodeCan plan k n (Pass link) = CanPass (body_limit plan) (ends plan k) (seen n.vcp) link
NodeCan plan k n (Route input output) = ⊥

-- and so the switch
abbrev pub SwitchCan : SwitchState → Act → Type 0
SwitchCan s (Proc made) = ⊥
SwitchCan s (Take link word) = link < 32
SwitchCan s (Put link) = switch.CanPut (plan_of s) (seen_switch s) link
SwitchCan s (Fct link) = (link < 32) × switch.CanGrant (seen_switch s) link
SwitchCan s (Pass link) = switch.CanPass (limit_of s.inputs) (plan_of s) (seen_switch s) link
SwitchCan s (Route input output) = switch.CanRoute (plan_of s) (seen_switch s) input output

abbrev pub CanAct : Plan → ℕ → Acting → Act → Type 0
CanAct plan k (OfNode n) a = NodeCan plan k n a
CanAct plan k (OfSwitch s) a = SwitchCan s a
