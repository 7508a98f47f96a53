-- What becomes of a piece that arrives, and of an input: a first piece that finds no process inputting is held (profile).
use Rattle.std.specs.Prelude.{ℕ, Bool, true, false, List, ◌++◌, Option, Some, None}
use Rattle.vc_packets.specs.declared.packet.Packet.{Packet}
use Rattle.vc_blocks.specs.Halves.{Incoming, load_of, ends_message, with_stored}
use Rattle.vc_blocks.specs.declared.in_half.Arrival.{Arrival}
use Rattle.vc_blocks.specs.declared.in_half.Arrival.TheVariants as arrival
use Rattle.vc_blocks.specs.declared.in_half.Want.{Want}
use Rattle.vc_blocks.specs.declared.in_half.Want.TheVariants as want

abbrev pub after_arrival : Incoming → Packet → Bool → Incoming
after_arrival x p true = with_stored x (load_of p) (ends_message p.mark)
after_arrival x p false = record x { held = Some p }

abbrev pub arrival_by : List ℕ → Bool → Arrival
arrival_by message true = arrival.Complete message
arrival_by message false = arrival.Stored

abbrev pub arrival_of : Incoming → Packet → Bool → Arrival
arrival_of x p true = arrival_by (x.stored ++ load_of p) (ends_message p.mark)
arrival_of x p false = arrival.Held

abbrev pub after_want : Incoming → Option Packet → Incoming
after_want x None = record x { wants = true }
after_want x (Some p) = with_stored x (load_of p) (ends_message p.mark)

abbrev pub want_by : List ℕ → Bool → Want
want_by message true = want.Complete message
want_by message false = want.Stored

abbrev pub want_of : Incoming → Option Packet → Want
want_of x None = want.Waits
want_of x (Some p) = want_by (x.stored ++ load_of p) (ends_message p.mark)
