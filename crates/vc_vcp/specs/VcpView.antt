-- What a node's processor is, in the words of its steps: its ends, its carrier and its links.
use Rattle.std.specs.Prelude.{Option, ◌≡◌, ℕ, ◌-◌, false, List, [], ◌∷◌, length, slice_get, Some, None}
use Rattle.vc_credit.specs.Ends.{new_sender, new_receiver}
use Rattle.vc_vcp.specs.declared.output.Output.{Output}
use Rattle.vc_vcp.specs.declared.input.Input.{Input}
use Rattle.vc_vcp.specs.Carrier.{End, Ends, OutHalf, InHalf, Carrier}
use Rattle.vc_vcp.specs.Names.{by_name}
use Rattle.vc_packets.specs.Functions.{shown_or}
use Rattle.vc_vcp.specs.Links.{Link, Vcp}
use Rattle.vc_packets.specs.declared.packet.Packet.{Packet}
use Rattle.vc_blocks.specs.declared.in_half.Want.{Want}
use Rattle.vc_blocks.specs.declared.in_half.Want.TheVariants as want
use Rattle.vc_vcp.specs.Steps.{IsOpen, Wants, Taken, Held, Stored, Complete, More, Finished, Stray}
use Rattle.vc_vcp.specs.State.{State, limit_of}
use Rattle.vc_vcp.specs.declared.taken.Taken.{Taken as CodeTaken}
use Rattle.vc_vcp.specs.declared.taken.Taken.TheVariants as code

-- the end by which a channel goes out, and that by which it comes in
abbrev pub out_end : Output → End
out_end x = record { link = x.link; block = x.block; route = x.half.route }

abbrev pub in_end : Input → End
in_end x = record { link = x.link; block = x.block; route = x.route }

abbrev pub ends_of : State → Ends
ends_of s = record {
  output = by_name (λ x. x.chan) (λ x. Some (out_end x)) None s.outputs;
  input = by_name (λ x. x.chan) (λ x. Some (in_end x)) None s.inputs;
}

-- all outputs that were offered are finished, but for the one under way
abbrev pub finished_of : List (List ℕ) → List (List ℕ) → ℕ
finished_of [] offered = length offered
finished_of (now ∷ later) offered = length offered - 1

abbrev pub out_half : Output → OutHalf
out_half x = record { unacked = x.half.unacked; offered = x.offered; finished = finished_of x.half.unacked x.offered }

abbrev pub no_output : OutHalf
no_output = record { unacked = []; offered = []; finished = 0 }

abbrev pub in_half : Input → InHalf
in_half x = record { wants = x.half.wants; stopped = x.half.stopped; held = x.half.held; stored = x.half.stored; taken = x.taken }

abbrev pub no_input : InHalf
no_input = record { wants = false; stopped = false; held = None; stored = []; taken = [] }

abbrev pub carrier_of : State → Carrier
carrier_of s = record {
  queue = λ link. shown_or [] (λ x. x.queue) (slice_get s.outs link);
  out = by_name (λ x. x.chan) out_half no_output s.outputs;
  into = by_name (λ x. x.chan) in_half no_input s.inputs;
  strays = s.strays;
}

abbrev pub link_of : State → ℕ → Link
link_of s link = record {
  sender = shown_or new_sender (λ x. x.sender) (slice_get s.outs link);
  receiver = shown_or new_receiver (λ x. x.receiver) (slice_get s.ins link);
  passed = shown_or [] (λ x. x.passed) (slice_get s.ins link);
}

abbrev pub seen : State → Vcp
seen s = record { carrier = carrier_of s; link = link_of s }

-- the ends and the limit never change
pub record IsKept (old new : State) : Type 0 where
  pub ends : ends_of new ≡ ends_of old
  pub limit : limit_of new.ins ≡ limit_of old.ins

-- the message that an input found whole
abbrev pub answered : Want → Option (List ℕ)
answered (want.Complete m) = Some m
answered want.Stored = None
answered want.Waits = None

-- what an input finds, by the held piece and the message that it completes
abbrev pub found_by : Option Packet → Option (List ℕ) → Want
found_by None m = want.Waits
found_by (Some p) None = want.Stored
found_by (Some p) (Some m) = want.Complete m

-- an input takes the held piece, or waits, and is told so
pub record Inputs (ends : Ends) (old : Carrier) (c : ℕ) (w : Want) (new : Carrier) : Type 0 where
  pub end : End
  pub may : IsOpen ends old c end
  pub wants : Wants old c end (answered w) new
  pub found : w ≡ found_by (old.into c).held (answered w)

-- what became of a packet, in the words of the steps
abbrev pub taken_of : CodeTaken → Taken
taken_of (code.Held c) = Held c
taken_of (code.Stored c) = Stored c
taken_of (code.Complete c m) = Complete c m
taken_of (code.More c) = More c
taken_of (code.Finished c) = Finished c
taken_of code.Stray = Stray

-- what became of a packet, where a token that passed was its mark
abbrev pub passed_of : Option CodeTaken → Option Taken
passed_of None = None
passed_of (Some t) = Some (taken_of t)
