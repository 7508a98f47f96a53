-- What an output or an input of the node queues and logs beside what its half does.
use Rattle.std.specs.Prelude.{◌≡◌, ℕ, Bool, true, false, List, [], ◌∷◌, ◌++◌, Option, Some, None}
use Rattle.vc_packets.specs.declared.packet.Packet.{Packet}
use Rattle.vc_packets.specs.Pieces.{Pieces}
use Rattle.vc_packets.specs.Spellings.{piece_packet, ack_packet}
use Rattle.vc_blocks.specs.declared.in_half.Arrival.{Arrival}
use Rattle.vc_blocks.specs.declared.in_half.Arrival.TheVariants as arrival
use Rattle.vc_blocks.specs.declared.in_half.Want.{Want}
use Rattle.vc_blocks.specs.declared.in_half.Want.TheVariants as want
use Rattle.vc_blocks.specs.Halves.{load_of, ends_message}
use Rattle.vc_vcp.specs.declared.output.Output.{Output}
use Rattle.vc_vcp.specs.declared.input.Input.{Input}
use Rattle.vc_vcp.specs.LinkOut.{Sending}

-- an output stays where it is
pub record StaysOutput (old new : Output) : Type 0 where
  pub chan : new.chan ≡ old.chan
  pub link : new.link ≡ old.link
  pub block : new.block ≡ old.block
  pub route : new.half.route ≡ old.half.route

-- an input stays where it is
pub record StaysInput (old new : Input) : Type 0 where
  pub chan : new.chan ≡ old.chan
  pub link : new.link ≡ old.link
  pub block : new.block ≡ old.block
  pub route : new.route ≡ old.route

-- one packet more waits
abbrev pub queued : Sending → Packet → Sending
queued out p = record out { queue = out.queue ++ p ∷ [] }

-- the first of these pieces is queued, where there is one
abbrev pub queued_next : Sending → List ℕ → List (List ℕ) → Sending
queued_next out route [] = out
queued_next out route (now ∷ later) = queued out (piece_packet route (now ∷ later))

-- an output begins: its message is logged, and the first piece queued
pub record Begins (old : Output) (out : Sending) (m : List ℕ) (new : Output) (sent : Sending) : Type 0 where
  pub pieces : Pieces m new.half.unacked
  pub output : new ≡ record old { half = record old.half { unacked = new.half.unacked }; offered = old.offered ++ m ∷ [] }
  pub queue : sent ≡ queued out (piece_packet old.half.route new.half.unacked)

-- a message that is whole is logged
abbrev pub logged : List (List ℕ) → Arrival → List (List ℕ)
logged taken (arrival.Complete m) = taken ++ m ∷ []
logged taken arrival.Stored = taken
logged taken arrival.Held = taken

-- a piece that was stored is acknowledged
abbrev pub acknowledged : Sending → List ℕ → Arrival → Sending
acknowledged out route (arrival.Complete m) = queued out (ack_packet route)
acknowledged out route arrival.Stored = queued out (ack_packet route)
acknowledged out route arrival.Held = out

abbrev pub logged_by : List (List ℕ) → Want → List (List ℕ)
logged_by taken (want.Complete m) = taken ++ m ∷ []
logged_by taken want.Stored = taken
logged_by taken want.Waits = taken

abbrev pub acknowledged_by : Sending → List ℕ → Want → Sending
acknowledged_by out route (want.Complete m) = queued out (ack_packet route)
acknowledged_by out route want.Stored = queued out (ack_packet route)
acknowledged_by out route want.Waits = out

-- the message that a piece completes, behind what is stored of it
abbrev pub completed_by : List ℕ → List ℕ → Bool → Option (List ℕ)
completed_by stored load true = Some (stored ++ load)
completed_by stored load false = None

abbrev pub completed : List ℕ → Packet → Option (List ℕ)
completed stored p = completed_by stored (load_of p) (ends_message p.mark)
