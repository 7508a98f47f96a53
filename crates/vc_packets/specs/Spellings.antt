-- The packets of a message and its acknowledges, behind a route's headers.
use Rattle.std.specs.Prelude.{ℕ, List, [], ◌∷◌, ◌++◌}
use Rattle.vc_packets.specs.declared.mark.Mark.{Mark}
use Rattle.vc_packets.specs.declared.mark.Mark.TheVariants.{Eop, Eom}
use Rattle.vc_packets.specs.declared.packet.Packet.{Packet}
use Rattle.vc_packets.specs.Headers.{spelled}

-- the mark of a piece that these pieces follow
abbrev pub mark_before : List (List ℕ) → Mark
mark_before [] = Eom
mark_before (c ∷ cs) = Eop

-- the packet of the first of these pieces
abbrev pub piece_packet : List ℕ → List (List ℕ) → Packet
piece_packet route [] = record { body = spelled route; mark = Eom }
piece_packet route (c ∷ cs) = record { body = spelled route ++ c; mark = mark_before cs }

abbrev pub ack_packet : List ℕ → Packet
ack_packet route = record { body = spelled route; mark = Eop }

-- the packets of these pieces, in order
abbrev pub packets : List ℕ → List (List ℕ) → List Packet
packets route [] = []
packets route (c ∷ cs) = piece_packet route (c ∷ cs) ∷ packets route cs
