-- Where a packet that reaches a node is bound for, and what it changes there.
use Rattle.std.specs.Prelude.{◌≡◌, ℕ, List, slice_get, Some, None}
use Rattle.vc_packets.specs.declared.packet.Packet.{Packet}
use Rattle.vc_vcp.specs.declared.bound.Bound.{Bound}
use Rattle.vc_vcp.specs.declared.bound.Bound.TheVariants as bound
use Rattle.vc_vcp.specs.declared.input.Input.{Input}
use Rattle.vc_vcp.specs.Carrier.{Carrier}
use Rattle.vc_vcp.specs.LinkOut.{Sending}
use Rattle.vc_vcp.specs.VcpView.{ends_of, seen, carrier_of, IsKept}
use Rattle.vc_vcp.specs.State.{State, IsAckOf, IsPieceOf, IsWired}
use Rattle.vc_vcp.specs.Steps.{Taken, IsTaken, Arrives}

-- the input at this place holds nothing, and the packet is a piece for its block
pub record MayTake (inputs : List Input) (at : ℕ) (p : Packet) : Type 0 where
  pub input : Input
  pub here : slice_get inputs at ≡ Some input
  pub empty : input.half.held ≡ None
  pub piece : IsPieceOf input.block p

-- no half may take the packet
abbrev pub IsStray : State → Packet → Type 0
IsStray s p = (t : Taken) (new : Carrier) → IsTaken (ends_of s) (carrier_of s) p t new → ⊥

abbrev pub IsBound : State → Packet → Bound → Type 0
IsBound s p (bound.Output block) = IsAckOf block p
IsBound s p (bound.Input at) = MayTake s.inputs at p
IsBound s p bound.Nowhere = IsStray s p

-- a node with these inputs and sending ends
abbrev pub with_inputs : State → List Input → List Sending → State
with_inputs s inputs outs = record s { inputs = inputs; outs = outs }

-- a node's ends, links and limit stay, and it stays wired
pub record Stays (old new : State) : Type 0 where
  pub wired : IsWired new
  pub kept : IsKept old new
  pub links : (seen new).link ≡ (seen old).link

-- whatever else a node has, all but its halves and queues stays where these inputs and sending ends become those
abbrev pub StaysWith : List Input → List Sending → List Input → List Sending → Type 0
StaysWith inputs outs to_inputs to_outs = (s : State) → IsWired (with_inputs s inputs outs) → Stays (with_inputs s inputs outs) (with_inputs s to_inputs to_outs)

-- whatever else a node has, the packet arrives where these inputs and sending ends become those
abbrev pub ArrivesWith : List Input → List Sending → Packet → Taken → List Input → List Sending → Type 0
ArrivesWith inputs outs p taken to_inputs to_outs =
    (s : State) → IsWired (with_inputs s inputs outs) → Arrives (ends_of (with_inputs s inputs outs)) (carrier_of (with_inputs s inputs outs)) p taken (carrier_of (with_inputs s to_inputs to_outs))
