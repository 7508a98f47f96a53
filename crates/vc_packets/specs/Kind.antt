-- What a packet is to the node that it reaches, by the bytes behind the block's header and the mark that ends it ("Networks,
-- Routers and Transputers", chapter 2): no bytes and EOP is an acknowledge, 32 bytes and EOP a piece that more follow, 0 to 32
-- bytes and EOM a message's last piece.
use Rattle.std.specs.Prelude.{ℕ, true, false, List, length, nat_eq, nat_le, if◌then◌else◌}
use Rattle.vc_packets.specs.declared.mark.Mark.{Mark}
use Rattle.vc_packets.specs.declared.mark.Mark.TheVariants.{Eop, Eom}
use Rattle.vc_packets.specs.declared.kind.Kind.{Kind}
use Rattle.vc_packets.specs.declared.kind.Kind.TheVariants.{Ack, Piece, Malformed}

abbrev pub kind : List ℕ → Mark → Kind
kind load Eop = if nat_eq (length load) 0 then Ack else (if nat_eq (length load) 32 then Piece false else Malformed)
kind load Eom = if nat_le (length load) 32 then Piece true else Malformed
