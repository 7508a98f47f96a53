-- What a node's processor is, in the words of its steps: its ends, its carrier and its links.
use Rattle.std.specs.Prelude.{ℕ}
use Rattle.vc_packets.specs.declared.packet.Packet.{Packet}
use Rattle.vc_vcp.specs.Steps.{Arrives, Taken, Held, Stored, Complete, More, Finished}
use Rattle.vc_vcp.specs.State.{State, IsAckOf}
use Rattle.vc_blocks.specs.declared.out_half.Advance.{Advance}
use Rattle.vc_blocks.specs.declared.out_half.Advance.TheVariants as advance
use Rattle.vc_blocks.specs.declared.in_half.Arrival.{Arrival}
use Rattle.vc_blocks.specs.declared.in_half.Arrival.TheVariants as arrival
use Rattle.vc_vcp.specs.VcpView.{ends_of, carrier_of}

-- what an acknowledge came to, on its channel
abbrev pub advance_told : ℕ → Advance → Taken
advance_told c advance.More = More c
advance_told c advance.Finished = Finished c

-- what a piece came to, on its channel
abbrev pub arrival_told : ℕ → Arrival → Taken
arrival_told c arrival.Held = Held c
arrival_told c arrival.Stored = Stored c
arrival_told c (arrival.Complete m) = Complete c m

-- any acknowledge for this block arrives so
abbrev pub Acks : State → ℕ → Taken → State → Type 0
Acks old block taken new = (p : Packet) → IsAckOf block p → Arrives (ends_of old) (carrier_of old) p taken (carrier_of new)
