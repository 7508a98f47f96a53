-- The packets that ports put whole on wires.
use Rattle.std.specs.Prelude.{◌≡◌, ℕ, ◌*◌, ◌<◌, ◌==◌, ◌&&◌, nat_lt, Bool, true, false, List, [], ◌∷◌, ◌++◌, length, count_by, if◌then◌else◌}
use Rattle.std.specs.Option.{option_to_list}
use Rattle.vc_accepted.specs.NetworkOf.{network_of}
use Rattle.vc_core.specs.PossibleEvents.{NetworkState}
use Rattle.vc_core.specs.Links.{last_of}
use Rattle.vc_core.specs.declared.event.Event.{Event}
use Rattle.vc_machine.specs.Paths.{Port, AtNode, AtSwitch}
use Rattle.vc_machine.specs.PacketsOfTokens.{read}
use Rattle.vc_network.specs.Network.{actor_at}
use Rattle.vc_network.specs.Plan.{near}
use Rattle.vc_packets.specs.declared.mark.Mark.{Mark}
use Rattle.vc_packets.specs.declared.mark.Mark.TheVariants.{Eop, Eom}
use Rattle.vc_packets.specs.declared.packet.Packet.{Packet}
use Rattle.vc_plan.specs.declared.plan.Plan.{Plan}
use Rattle.vc_stats.specs.Counts.{put_in}
use Rattle.vc_stats.specs.Tallies.{cell, is_at}
use Rattle.vc_stats.specs.declared.packets.Packets.{Packets}
use Rattle.vc_tokens.specs.Tokens.{Token, Byte, Fct, EndMark}

-- ---- what is put

-- the link of a port
abbrev pub link_at : Port → ℕ
link_at (AtNode n link) = link
link_at (AtSwitch n link) = link

-- the event puts a token of a packet on the way
abbrev pub puts_on : Plan → ℕ → Event → Bool
puts_on p way e = e.actor == actor_at (network_of p) (near (network_of p) way) && is_at (link_at (near (network_of p) way)) (put_in e.act)

-- the tokens of packets that the events put on the way, in order: each stands last on it in the state after its event
abbrev pub tokens_put : Plan → ℕ → List Event → List NetworkState → List Token
tokens_put p way (e ∷ es) (x ∷ xs) = (if puts_on p way e then option_to_list (last_of (x.way way)) else []) ++ tokens_put p way es xs
tokens_put p way _ _ = []

-- ---- the packets

-- the bytes of the packet whose mark has not come, behind these
abbrev pub rest_of : List ℕ → List Token → List ℕ
rest_of body [] = body
rest_of body (Byte b ∷ ts) = rest_of (body ++ b ∷ []) ts
rest_of body (EndMark m ∷ ts) = rest_of [] ts
rest_of body (Fct ∷ ts) = rest_of body ts

abbrev pub is_eop : Mark → Bool
is_eop Eop = true
is_eop Eom = false

-- An acknowledge ends by EOP and has no data. A piece that ends by EOP has 32 bytes of data behind its headers, since more of its message
-- comes; the headers of an acknowledge have 12 bytes at most.
abbrev pub is_ack : Packet → Bool
is_ack p = is_eop p.mark && nat_lt (length p.body) 32

-- the packets that were put whole on the way
abbrev pub packets_on : Plan → List Event → List NetworkState → ℕ → List Packet
packets_on p es xs way = read [] (tokens_put p way es xs)

-- ---- how they are counted

-- how many packets a port put whole, how many of them are acknowledges, and the bytes that it put since
pub record PacketCount : Type 0 where
  pub packets : ℕ
  pub acks : ℕ
  pub bytes : ℕ

abbrev pub count_at : Packets → (actor link : ℕ) → PacketCount
count_at all actor link = record { packets = cell all.whole actor link; acks = cell all.acks actor link; bytes = cell all.bytes actor link }

-- it is that of these tokens
pub record IsCountOf (ts : List Token) (c : PacketCount) : Type 0 where
  pub packets : c.packets ≡ length (read [] ts)
  pub acks : c.acks ≡ count_by is_ack (read [] ts)
  pub bytes : c.bytes ≡ length (rest_of [] ts)

-- and so of each way, at the port where it begins
abbrev pub ArePacketsOf : Packets → Plan → List Event → List NetworkState → Type 0
ArePacketsOf all p es xs =
    (way : ℕ) → way < 2 * length p.wires → IsCountOf (tokens_put p way es xs) (count_at all (actor_at (network_of p) (near (network_of p) way)) (link_at (near (network_of p) way)))
