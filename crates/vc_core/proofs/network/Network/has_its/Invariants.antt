use Rattle.std.specs.Prelude.{◌≡◌, ◌<◌, ℕ, Some, None, slice_get}
use Rattle.std.specs.List.{Contains}
use Rattle.vc_machine.specs.Places.{IsOf, OnWire}
use Rattle.vc_network.specs.Plan.{home, net_of, ways}
use Rattle.vc_packets.specs.declared.packet.Packet.{Packet}
use Rattle.vc_plan.specs.declared.plan.Plan.{Plan}
use Rattle.vc_accepted.specs.NetworkOf.{network_of}
use Rattle.vc_core.specs.Channels.{ends_at}
use Rattle.vc_core.specs.Private.Targets.{IsOwned}
use Rattle.vc_core.specs.State.{state_of, IsNetworkOf}
use Rattle.vc_core.proofs.network.Network.has_its.Given as goal

abbrev pub invariant-loop-packet : goal.invariant-loop-packet
invariant-loop-packet l = (p : Plan) (c : ℕ) → IsNetworkOf p (state_of l.fn.self) → l.fn.way < ways (network_of p) → ends_at (network_of p) (home (network_of p) c) ≡ Some l.fn.ends →
    ((q : Packet) → Contains l.fn.packets q → IsOwned (network_of p) (OnWire l.fn.way, q)) → (j : ℕ) (q : Packet) → j < l.packet-index → slice_get l.fn.packets j ≡ Some q → IsOf (net_of (network_of p)) l.fn.way None q c → ⊥
