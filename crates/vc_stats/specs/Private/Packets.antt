-- The packets that ports put whole on wires.
use Rattle.std.specs.Prelude.{ℕ, ◌&&◌, nat_lt, Bool, true, Option, Some, None, if◌then◌else◌}
use Rattle.vc_stats.specs.Tallies.{counted}
use Rattle.vc_tokens.specs.Tokens.{Token, Byte, Fct, EndMark}
use Rattle.vc_stats.specs.Packets.{is_eop, is_ack, PacketCount}

-- the link of a packet, if it is an acknowledge
abbrev pub acked_link : Bool → ℕ → Option ℕ
acked_link is_ack link = if is_ack then Some link else None

-- the count after one packet more is whole, an acknowledge or not
abbrev pub ended : Bool → PacketCount → PacketCount
ended is_ack c = record { packets = counted true c.packets; acks = counted is_ack c.acks; bytes = 0 }

-- and after one token more
abbrev pub with_token : Token → PacketCount → PacketCount
with_token (Byte b) c = record c { bytes = counted true c.bytes }
with_token (EndMark m) c = ended (is_eop m && nat_lt c.bytes 32) c
with_token Fct c = c
