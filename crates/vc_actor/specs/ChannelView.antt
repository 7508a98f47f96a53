-- What a channel shows at a node of the code.
use Rattle.std.specs.Prelude.{ℕ, Option, Some, None}
use Rattle.vc_machine.specs.Rendezvous.{View, nothing_yet}
use Rattle.vc_network.specs.Views.{halves_view}
use Rattle.vc_vcp.specs.Names.{named}
use Rattle.vc_vcp.specs.VcpView.{seen}
use Rattle.vc_actor.specs.ActorView.{view_of}
use Rattle.vc_actor.specs.declared.inside.Internal.{Internal}
use Rattle.vc_actor.specs.declared.node.Node.{Node}

-- as a channel inside the node, where it is one, and else by the halves that it has here
abbrev pub by_inside : Option Internal → View → View
by_inside (Some x) v = view_of x
by_inside None v = v

abbrev pub node_view : Node → ℕ → View
node_view n c = by_inside (named (λ x. x.chan) c n.inside) (halves_view ((seen n.vcp).carrier.out c) ((seen n.vcp).carrier.into c))

-- where there is no node nothing has happened
abbrev pub view_at_node : Option Node → ℕ → View
view_at_node None c = nothing_yet
view_at_node (Some n) c = node_view n c
