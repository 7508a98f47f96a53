-- A message goes over one wire in tokens, and its acknowledge back.
use Rattle.std.proofs.Common.{◌≡◌, ℕ, true, [], ◌∷◌, ◌++◌, Some, None, refl, arith}
use Rattle.vc_network.specs.Actors.{Steps, Network}
use Rattle.vc_network.specs.Actors.Label.{Own, Takes, Puts}
use Rattle.vc_packets.specs.declared.packet.Packet.{Packet}
use Rattle.vc_packets.specs.declared.mark.Mark.TheVariants.{Eop, Eom}
use Rattle.vc_packets.specs.Spellings.{piece_packet, ack_packet}
use Rattle.vc_machine.specs.Rendezvous.{nothing_yet}
use Rattle.vc_packets.specs.Functions.{put}
use Rattle.vc_tokens.specs.Tokens.{Token, Byte, EndMark}
use Rattle.vc_tokens.specs.Tokens as tokens
use Rattle.vc_switch.specs.Waiting.{Waiting}
use Rattle.vc_credit.specs.Ends.{puts_byte, puts_mark}
use Rattle.vc_vcp.specs.Carrier.{set_out, set_in, enqueue, End as NodeEnd}
use Rattle.vc_vcp.specs.Steps as node
use Rattle.vc_vcp.specs.Links.{Vcp, new_vcp, set_link, with_token, due, passing, passes_byte, passes_mark, unqueued}
use Rattle.vc_network.specs.Processes.{Offer, Want, by_test}
use Rattle.vc_network.specs.Network.{Act, Proc, Take, Put, Fct, Pass, Actor, IsNode, Local, begins, HappenAll}
use Rattle.vc_network.specs.Views.{view}
use Rattle.vc_network.specs.Example.{example, hello, does, begin, exchange}
use Rattle.vc_network.proofs.Writes.{own_step, take_step, put_step}

abbrev L : Waiting → Steps (Actor ℕ) Act Token
L waiting = Local example waiting (by_test does)

abbrev bare : NodeEnd
bare = record { link = 0; block = 1; route = 1 ∷ [] }

abbrev piece : Packet
piece = piece_packet (1 ∷ []) (hello ∷ [])

abbrev acknowledge : Packet
acknowledge = ack_packet (1 ∷ [])

abbrev made : Vcp → ℕ → Actor ℕ
made v p = IsNode (record { vcp = v; process = p; inner = λ c. nothing_yet })

abbrev s0 : Network (Actor ℕ) Token
s0 = begins example begin

abbrev a0 : Vcp
a0 = new_vcp

abbrev b0 : Vcp
b0 = new_vcp

abbrev a1 : Vcp
a1 = record a0 { carrier = enqueue (set_out a0.carrier 0 (record (a0.carrier.out 0) { unacked = hello ∷ []; offered = [] ++ hello ∷ [] })) 0 piece }

abbrev s1 : Network (Actor ℕ) Token
s1 = record s0 { state = put s0.state 0 (made a1 1) }

l1 : (waiting : Waiting) → L waiting 0 (s0.state 0) (Own (Proc (Offer 0 0))) (made a1 1)
l1 waiting = (omega arith, (hello, refl, record { end = bare; now = hello; later = []; here = refl; idle = refl; pieces = record { whole = refl; cut = omega arith; end = λ e. absurd (cc) }; after = refl }, record { link = refl; inner = refl }))

abbrev b1 : Vcp
b1 = set_link b0 0 (record (b0.link 0) { receiver = record { buffer = []; promised = 8 } })

abbrev s2 : Network (Actor ℕ) Token
s2 = record { state = put s1.state 1 (made b1 3); way = put s1.way 1 (s1.way 1 ++ tokens.Fct ∷ []) }

l2 : (waiting : Waiting) → L waiting 1 (s1.state 1) (Puts (Fct 0) 1 tokens.Fct) (made b1 3)
l2 waiting = (omega arith, ((omega arith, refl), refl, record { receiver = record { buffer = []; promised = 8 }; grants = record { room = omega arith; after = refl }; after = refl }, record { process = refl; inner = refl }))

abbrev a2 : Vcp
a2 = set_link a1 0 (with_token (a1.link 0) (tokens.Fct))

abbrev s3 : Network (Actor ℕ) Token
s3 = record { state = put s2.state 0 (made a2 1); way = put s2.way 1 ([]) }

l3 : (waiting : Waiting) → L waiting 0 (s2.state 0) (Takes (Take 0 0) 1 (tokens.Fct)) (made a2 1)
l3 waiting = (omega arith, ((omega arith, refl), due (omega arith) refl, record { process = refl; inner = refl }))

abbrev a3 : Vcp
a3 = record { carrier = unqueued a2.carrier 0 [] (Byte 0); link = put a2.link 0 (record (a2.link 0) { sender = record { sent = 0 ∷ []; credit = 7 } }) }

abbrev s4 : Network (Actor ℕ) Token
s4 = record { state = put s3.state 0 (made a3 1); way = put s3.way 0 (s3.way 0 ++ (Byte 0) ∷ []) }

l4 : (waiting : Waiting) → L waiting 0 (s3.state 0) (Puts (Put 0) 0 (Byte 0)) (made a3 1)
l4 waiting = (omega arith, ((omega arith, refl), record { packet = piece; rest = []; sender = record { sent = 0 ∷ []; credit = 7 }; front = refl; puts = puts_byte 0 (1 ∷ 104 ∷ 101 ∷ 108 ∷ 108 ∷ 111 ∷ []) (omega arith) refl refl refl; after = refl }, record { process = refl; inner = refl }))

abbrev a4 : Vcp
a4 = record { carrier = unqueued a3.carrier 0 [] (Byte 1); link = put a3.link 0 (record (a3.link 0) { sender = record { sent = 0 ∷ 1 ∷ []; credit = 6 } }) }

abbrev s5 : Network (Actor ℕ) Token
s5 = record { state = put s4.state 0 (made a4 1); way = put s4.way 0 (s4.way 0 ++ (Byte 1) ∷ []) }

l5 : (waiting : Waiting) → L waiting 0 (s4.state 0) (Puts (Put 0) 0 (Byte 1)) (made a4 1)
l5 waiting = (omega arith, ((omega arith, refl), record { packet = piece; rest = []; sender = record { sent = 0 ∷ 1 ∷ []; credit = 6 }; front = refl; puts = puts_byte 1 (104 ∷ 101 ∷ 108 ∷ 108 ∷ 111 ∷ []) (omega arith) refl refl refl; after = refl }, record { process = refl; inner = refl }))

abbrev a5 : Vcp
a5 = record { carrier = unqueued a4.carrier 0 [] (Byte 104); link = put a4.link 0 (record (a4.link 0) { sender = record { sent = 0 ∷ 1 ∷ 104 ∷ []; credit = 5 } }) }

abbrev s6 : Network (Actor ℕ) Token
s6 = record { state = put s5.state 0 (made a5 1); way = put s5.way 0 (s5.way 0 ++ (Byte 104) ∷ []) }

l6 : (waiting : Waiting) → L waiting 0 (s5.state 0) (Puts (Put 0) 0 (Byte 104)) (made a5 1)
l6 waiting = (omega arith, ((omega arith, refl), record { packet = piece; rest = []; sender = record { sent = 0 ∷ 1 ∷ 104 ∷ []; credit = 5 }; front = refl; puts = puts_byte 104 (101 ∷ 108 ∷ 108 ∷ 111 ∷ []) (omega arith) refl refl refl; after = refl }, record { process = refl; inner = refl }))

abbrev a6 : Vcp
a6 = record { carrier = unqueued a5.carrier 0 [] (Byte 101); link = put a5.link 0 (record (a5.link 0) { sender = record { sent = 0 ∷ 1 ∷ 104 ∷ 101 ∷ []; credit = 4 } }) }

abbrev s7 : Network (Actor ℕ) Token
s7 = record { state = put s6.state 0 (made a6 1); way = put s6.way 0 (s6.way 0 ++ (Byte 101) ∷ []) }

l7 : (waiting : Waiting) → L waiting 0 (s6.state 0) (Puts (Put 0) 0 (Byte 101)) (made a6 1)
l7 waiting = (omega arith, ((omega arith, refl), record { packet = piece; rest = []; sender = record { sent = 0 ∷ 1 ∷ 104 ∷ 101 ∷ []; credit = 4 }; front = refl; puts = puts_byte 101 (108 ∷ 108 ∷ 111 ∷ []) (omega arith) refl refl refl; after = refl }, record { process = refl; inner = refl }))

abbrev a7 : Vcp
a7 = record { carrier = unqueued a6.carrier 0 [] (Byte 108); link = put a6.link 0 (record (a6.link 0) { sender = record { sent = 0 ∷ 1 ∷ 104 ∷ 101 ∷ 108 ∷ []; credit = 3 } }) }

abbrev s8 : Network (Actor ℕ) Token
s8 = record { state = put s7.state 0 (made a7 1); way = put s7.way 0 (s7.way 0 ++ (Byte 108) ∷ []) }

l8 : (waiting : Waiting) → L waiting 0 (s7.state 0) (Puts (Put 0) 0 (Byte 108)) (made a7 1)
l8 waiting = (omega arith, ((omega arith, refl), record { packet = piece; rest = []; sender = record { sent = 0 ∷ 1 ∷ 104 ∷ 101 ∷ 108 ∷ []; credit = 3 }; front = refl; puts = puts_byte 108 (108 ∷ 111 ∷ []) (omega arith) refl refl refl; after = refl }, record { process = refl; inner = refl }))

abbrev a8 : Vcp
a8 = record { carrier = unqueued a7.carrier 0 [] (Byte 108); link = put a7.link 0 (record (a7.link 0) { sender = record { sent = 0 ∷ 1 ∷ 104 ∷ 101 ∷ 108 ∷ 108 ∷ []; credit = 2 } }) }

abbrev s9 : Network (Actor ℕ) Token
s9 = record { state = put s8.state 0 (made a8 1); way = put s8.way 0 (s8.way 0 ++ (Byte 108) ∷ []) }

l9 : (waiting : Waiting) → L waiting 0 (s8.state 0) (Puts (Put 0) 0 (Byte 108)) (made a8 1)
l9 waiting = (omega arith, ((omega arith, refl), record { packet = piece; rest = []; sender = record { sent = 0 ∷ 1 ∷ 104 ∷ 101 ∷ 108 ∷ 108 ∷ []; credit = 2 }; front = refl; puts = puts_byte 108 (111 ∷ []) (omega arith) refl refl refl; after = refl }, record { process = refl; inner = refl }))

abbrev a9 : Vcp
a9 = record { carrier = unqueued a8.carrier 0 [] (Byte 111); link = put a8.link 0 (record (a8.link 0) { sender = record { sent = 0 ∷ 1 ∷ 104 ∷ 101 ∷ 108 ∷ 108 ∷ 111 ∷ []; credit = 1 } }) }

abbrev s10 : Network (Actor ℕ) Token
s10 = record { state = put s9.state 0 (made a9 1); way = put s9.way 0 (s9.way 0 ++ (Byte 111) ∷ []) }

l10 : (waiting : Waiting) → L waiting 0 (s9.state 0) (Puts (Put 0) 0 (Byte 111)) (made a9 1)
l10 waiting = (omega arith, ((omega arith, refl), record { packet = piece; rest = []; sender = record { sent = 0 ∷ 1 ∷ 104 ∷ 101 ∷ 108 ∷ 108 ∷ 111 ∷ []; credit = 1 }; front = refl; puts = puts_byte 111 ([]) (omega arith) refl refl refl; after = refl }, record { process = refl; inner = refl }))

abbrev a10 : Vcp
a10 = record { carrier = unqueued a9.carrier 0 [] (EndMark Eom); link = put a9.link 0 (record (a9.link 0) { sender = record { sent = []; credit = 0 } }) }

abbrev s11 : Network (Actor ℕ) Token
s11 = record { state = put s10.state 0 (made a10 1); way = put s10.way 0 (s10.way 0 ++ (EndMark Eom) ∷ []) }

l11 : (waiting : Waiting) → L waiting 0 (s10.state 0) (Puts (Put 0) 0 (EndMark Eom)) (made a10 1)
l11 waiting = (omega arith, ((omega arith, refl), record { packet = piece; rest = []; sender = record { sent = []; credit = 0 }; front = refl; puts = puts_mark Eom (omega arith) refl refl refl refl; after = refl }, record { process = refl; inner = refl }))

abbrev b2 : Vcp
b2 = set_link b1 0 (with_token (b1.link 0) (Byte 0))

abbrev s12 : Network (Actor ℕ) Token
s12 = record { state = put s11.state 1 (made b2 3); way = put s11.way 0 (Byte 1 ∷ Byte 104 ∷ Byte 101 ∷ Byte 108 ∷ Byte 108 ∷ Byte 111 ∷ EndMark Eom ∷ []) }

l12 : (waiting : Waiting) → L waiting 1 (s11.state 1) (Takes (Take 0 0) 0 (Byte 0)) (made b2 3)
l12 waiting = (omega arith, ((omega arith, refl), due (omega arith) refl, record { process = refl; inner = refl }))

abbrev b3 : Vcp
b3 = set_link b2 0 (with_token (b2.link 0) (Byte 1))

abbrev s13 : Network (Actor ℕ) Token
s13 = record { state = put s12.state 1 (made b3 3); way = put s12.way 0 (Byte 104 ∷ Byte 101 ∷ Byte 108 ∷ Byte 108 ∷ Byte 111 ∷ EndMark Eom ∷ []) }

l13 : (waiting : Waiting) → L waiting 1 (s12.state 1) (Takes (Take 0 0) 0 (Byte 1)) (made b3 3)
l13 waiting = (omega arith, ((omega arith, refl), due (omega arith) refl, record { process = refl; inner = refl }))

abbrev b4 : Vcp
b4 = set_link b3 0 (with_token (b3.link 0) (Byte 104))

abbrev s14 : Network (Actor ℕ) Token
s14 = record { state = put s13.state 1 (made b4 3); way = put s13.way 0 (Byte 101 ∷ Byte 108 ∷ Byte 108 ∷ Byte 111 ∷ EndMark Eom ∷ []) }

l14 : (waiting : Waiting) → L waiting 1 (s13.state 1) (Takes (Take 0 0) 0 (Byte 104)) (made b4 3)
l14 waiting = (omega arith, ((omega arith, refl), due (omega arith) refl, record { process = refl; inner = refl }))

abbrev b5 : Vcp
b5 = set_link b4 0 (with_token (b4.link 0) (Byte 101))

abbrev s15 : Network (Actor ℕ) Token
s15 = record { state = put s14.state 1 (made b5 3); way = put s14.way 0 (Byte 108 ∷ Byte 108 ∷ Byte 111 ∷ EndMark Eom ∷ []) }

l15 : (waiting : Waiting) → L waiting 1 (s14.state 1) (Takes (Take 0 0) 0 (Byte 101)) (made b5 3)
l15 waiting = (omega arith, ((omega arith, refl), due (omega arith) refl, record { process = refl; inner = refl }))

abbrev b6 : Vcp
b6 = set_link b5 0 (with_token (b5.link 0) (Byte 108))

abbrev s16 : Network (Actor ℕ) Token
s16 = record { state = put s15.state 1 (made b6 3); way = put s15.way 0 (Byte 108 ∷ Byte 111 ∷ EndMark Eom ∷ []) }

l16 : (waiting : Waiting) → L waiting 1 (s15.state 1) (Takes (Take 0 0) 0 (Byte 108)) (made b6 3)
l16 waiting = (omega arith, ((omega arith, refl), due (omega arith) refl, record { process = refl; inner = refl }))

abbrev b7 : Vcp
b7 = set_link b6 0 (with_token (b6.link 0) (Byte 108))

abbrev s17 : Network (Actor ℕ) Token
s17 = record { state = put s16.state 1 (made b7 3); way = put s16.way 0 (Byte 111 ∷ EndMark Eom ∷ []) }

l17 : (waiting : Waiting) → L waiting 1 (s16.state 1) (Takes (Take 0 0) 0 (Byte 108)) (made b7 3)
l17 waiting = (omega arith, ((omega arith, refl), due (omega arith) refl, record { process = refl; inner = refl }))

abbrev b8 : Vcp
b8 = set_link b7 0 (with_token (b7.link 0) (Byte 111))

abbrev s18 : Network (Actor ℕ) Token
s18 = record { state = put s17.state 1 (made b8 3); way = put s17.way 0 (EndMark Eom ∷ []) }

l18 : (waiting : Waiting) → L waiting 1 (s17.state 1) (Takes (Take 0 0) 0 (Byte 111)) (made b8 3)
l18 waiting = (omega arith, ((omega arith, refl), due (omega arith) refl, record { process = refl; inner = refl }))

abbrev b9 : Vcp
b9 = set_link b8 0 (with_token (b8.link 0) (EndMark Eom))

abbrev s19 : Network (Actor ℕ) Token
s19 = record { state = put s18.state 1 (made b9 3); way = put s18.way 0 ([]) }

l19 : (waiting : Waiting) → L waiting 1 (s18.state 1) (Takes (Take 0 0) 0 (EndMark Eom)) (made b9 3)
l19 waiting = (omega arith, ((omega arith, refl), due (omega arith) refl, record { process = refl; inner = refl }))

abbrev b10 : Vcp
b10 = set_link b9 0 (passing (b9.link 0) (Byte 1 ∷ Byte 104 ∷ Byte 101 ∷ Byte 108 ∷ Byte 108 ∷ Byte 111 ∷ EndMark Eom ∷ []) ([] ++ 0 ∷ []))

abbrev s20 : Network (Actor ℕ) Token
s20 = record s19 { state = put s19.state 1 (made b10 3) }

l20 : (waiting : Waiting) → L waiting 1 (s19.state 1) (Own (Pass 0)) (made b10 3)
l20 waiting = (omega arith, (None, passes_byte 0 (Byte 1 ∷ Byte 104 ∷ Byte 101 ∷ Byte 108 ∷ Byte 108 ∷ Byte 111 ∷ EndMark Eom ∷ []) refl refl (omega arith) refl, refl, refl))

abbrev b11 : Vcp
b11 = set_link b10 0 (passing (b10.link 0) (Byte 104 ∷ Byte 101 ∷ Byte 108 ∷ Byte 108 ∷ Byte 111 ∷ EndMark Eom ∷ []) (0 ∷ [] ++ 1 ∷ []))

abbrev s21 : Network (Actor ℕ) Token
s21 = record s20 { state = put s20.state 1 (made b11 3) }

l21 : (waiting : Waiting) → L waiting 1 (s20.state 1) (Own (Pass 0)) (made b11 3)
l21 waiting = (omega arith, (None, passes_byte 1 (Byte 104 ∷ Byte 101 ∷ Byte 108 ∷ Byte 108 ∷ Byte 111 ∷ EndMark Eom ∷ []) refl refl (omega arith) refl, refl, refl))

abbrev b12 : Vcp
b12 = set_link b11 0 (passing (b11.link 0) (Byte 101 ∷ Byte 108 ∷ Byte 108 ∷ Byte 111 ∷ EndMark Eom ∷ []) (0 ∷ 1 ∷ [] ++ 104 ∷ []))

abbrev s22 : Network (Actor ℕ) Token
s22 = record s21 { state = put s21.state 1 (made b12 3) }

l22 : (waiting : Waiting) → L waiting 1 (s21.state 1) (Own (Pass 0)) (made b12 3)
l22 waiting = (omega arith, (None, passes_byte 104 (Byte 101 ∷ Byte 108 ∷ Byte 108 ∷ Byte 111 ∷ EndMark Eom ∷ []) refl refl (omega arith) refl, refl, refl))

abbrev b13 : Vcp
b13 = set_link b12 0 (passing (b12.link 0) (Byte 108 ∷ Byte 108 ∷ Byte 111 ∷ EndMark Eom ∷ []) (0 ∷ 1 ∷ 104 ∷ [] ++ 101 ∷ []))

abbrev s23 : Network (Actor ℕ) Token
s23 = record s22 { state = put s22.state 1 (made b13 3) }

l23 : (waiting : Waiting) → L waiting 1 (s22.state 1) (Own (Pass 0)) (made b13 3)
l23 waiting = (omega arith, (None, passes_byte 101 (Byte 108 ∷ Byte 108 ∷ Byte 111 ∷ EndMark Eom ∷ []) refl refl (omega arith) refl, refl, refl))

abbrev b14 : Vcp
b14 = set_link b13 0 (passing (b13.link 0) (Byte 108 ∷ Byte 111 ∷ EndMark Eom ∷ []) (0 ∷ 1 ∷ 104 ∷ 101 ∷ [] ++ 108 ∷ []))

abbrev s24 : Network (Actor ℕ) Token
s24 = record s23 { state = put s23.state 1 (made b14 3) }

l24 : (waiting : Waiting) → L waiting 1 (s23.state 1) (Own (Pass 0)) (made b14 3)
l24 waiting = (omega arith, (None, passes_byte 108 (Byte 108 ∷ Byte 111 ∷ EndMark Eom ∷ []) refl refl (omega arith) refl, refl, refl))

abbrev b15 : Vcp
b15 = set_link b14 0 (passing (b14.link 0) (Byte 111 ∷ EndMark Eom ∷ []) (0 ∷ 1 ∷ 104 ∷ 101 ∷ 108 ∷ [] ++ 108 ∷ []))

abbrev s25 : Network (Actor ℕ) Token
s25 = record s24 { state = put s24.state 1 (made b15 3) }

l25 : (waiting : Waiting) → L waiting 1 (s24.state 1) (Own (Pass 0)) (made b15 3)
l25 waiting = (omega arith, (None, passes_byte 108 (Byte 111 ∷ EndMark Eom ∷ []) refl refl (omega arith) refl, refl, refl))

abbrev b16 : Vcp
b16 = set_link b15 0 (passing (b15.link 0) (EndMark Eom ∷ []) (0 ∷ 1 ∷ 104 ∷ 101 ∷ 108 ∷ 108 ∷ [] ++ 111 ∷ []))

abbrev s26 : Network (Actor ℕ) Token
s26 = record s25 { state = put s25.state 1 (made b16 3) }

l26 : (waiting : Waiting) → L waiting 1 (s25.state 1) (Own (Pass 0)) (made b16 3)
l26 waiting = (omega arith, (None, passes_byte 111 (EndMark Eom ∷ []) refl refl (omega arith) refl, refl, refl))

abbrev b17 : Vcp
b17 = record (set_link b16 0 (passing (b16.link 0) [] [])) { carrier = set_in b16.carrier 0 (record (b16.carrier.into 0) { held = Some piece }) }

abbrev s27 : Network (Actor ℕ) Token
s27 = record s26 { state = put s26.state 1 (made b17 3) }

l27 : (waiting : Waiting) → L waiting 1 (s26.state 1) (Own (Pass 0)) (made b17 3)
l27 waiting = (omega arith, (Some (node.Held 0), passes_mark Eom [] (node.Held 0) (set_in b16.carrier 0 (record (b16.carrier.into 0) { held = Some piece })) refl refl (node.takes (node.holds 0 bare hello true refl (record { body = refl; kind = refl }) refl refl refl refl)) refl, refl, refl))

abbrev b18 : Vcp
b18 = record b17 { carrier = node.accept b17.carrier 0 bare hello true }

abbrev s28 : Network (Actor ℕ) Token
s28 = record s27 { state = put s27.state 1 (made b18 5) }

l28 : (waiting : Waiting) → L waiting 1 (s27.state 1) (Own (Proc (Want 0 0))) (made b18 5)
l28 waiting = (omega arith, (Some hello, bare, refl, record { here = refl; idle = refl; not_stopped = refl }, node.fetches (record { packet = piece; load = hello; last = true; held = refl; piece = record { body = refl; kind = refl }; answer_is = refl; after = refl }), record { link = refl; inner = refl }))

abbrev a11 : Vcp
a11 = set_link a10 0 (record (a10.link 0) { receiver = record { buffer = []; promised = 8 } })

abbrev s29 : Network (Actor ℕ) Token
s29 = record { state = put s28.state 0 (made a11 1); way = put s28.way 0 (s28.way 0 ++ tokens.Fct ∷ []) }

l29 : (waiting : Waiting) → L waiting 0 (s28.state 0) (Puts (Fct 0) 0 tokens.Fct) (made a11 1)
l29 waiting = (omega arith, ((omega arith, refl), refl, record { receiver = record { buffer = []; promised = 8 }; grants = record { room = omega arith; after = refl }; after = refl }, record { process = refl; inner = refl }))

abbrev b19 : Vcp
b19 = set_link b18 0 (with_token (b18.link 0) (tokens.Fct))

abbrev s30 : Network (Actor ℕ) Token
s30 = record { state = put s29.state 1 (made b19 5); way = put s29.way 0 ([]) }

l30 : (waiting : Waiting) → L waiting 1 (s29.state 1) (Takes (Take 0 0) 0 (tokens.Fct)) (made b19 5)
l30 waiting = (omega arith, ((omega arith, refl), due (omega arith) refl, record { process = refl; inner = refl }))

abbrev b20 : Vcp
b20 = record { carrier = unqueued b19.carrier 0 [] (Byte 0); link = put b19.link 0 (record (b19.link 0) { sender = record { sent = 0 ∷ []; credit = 7 } }) }

abbrev s31 : Network (Actor ℕ) Token
s31 = record { state = put s30.state 1 (made b20 5); way = put s30.way 1 (s30.way 1 ++ (Byte 0) ∷ []) }

l31 : (waiting : Waiting) → L waiting 1 (s30.state 1) (Puts (Put 0) 1 (Byte 0)) (made b20 5)
l31 waiting = (omega arith, ((omega arith, refl), record { packet = acknowledge; rest = []; sender = record { sent = 0 ∷ []; credit = 7 }; front = refl; puts = puts_byte 0 (1 ∷ []) (omega arith) refl refl refl; after = refl }, record { process = refl; inner = refl }))

abbrev b21 : Vcp
b21 = record { carrier = unqueued b20.carrier 0 [] (Byte 1); link = put b20.link 0 (record (b20.link 0) { sender = record { sent = 0 ∷ 1 ∷ []; credit = 6 } }) }

abbrev s32 : Network (Actor ℕ) Token
s32 = record { state = put s31.state 1 (made b21 5); way = put s31.way 1 (s31.way 1 ++ (Byte 1) ∷ []) }

l32 : (waiting : Waiting) → L waiting 1 (s31.state 1) (Puts (Put 0) 1 (Byte 1)) (made b21 5)
l32 waiting = (omega arith, ((omega arith, refl), record { packet = acknowledge; rest = []; sender = record { sent = 0 ∷ 1 ∷ []; credit = 6 }; front = refl; puts = puts_byte 1 ([]) (omega arith) refl refl refl; after = refl }, record { process = refl; inner = refl }))

abbrev b22 : Vcp
b22 = record { carrier = unqueued b21.carrier 0 [] (EndMark Eop); link = put b21.link 0 (record (b21.link 0) { sender = record { sent = []; credit = 5 } }) }

abbrev s33 : Network (Actor ℕ) Token
s33 = record { state = put s32.state 1 (made b22 5); way = put s32.way 1 (s32.way 1 ++ (EndMark Eop) ∷ []) }

l33 : (waiting : Waiting) → L waiting 1 (s32.state 1) (Puts (Put 0) 1 (EndMark Eop)) (made b22 5)
l33 waiting = (omega arith, ((omega arith, refl), record { packet = acknowledge; rest = []; sender = record { sent = []; credit = 5 }; front = refl; puts = puts_mark Eop (omega arith) refl refl refl refl; after = refl }, record { process = refl; inner = refl }))

abbrev a12 : Vcp
a12 = set_link a11 0 (with_token (a11.link 0) (Byte 0))

abbrev s34 : Network (Actor ℕ) Token
s34 = record { state = put s33.state 0 (made a12 1); way = put s33.way 1 (Byte 1 ∷ EndMark Eop ∷ []) }

l34 : (waiting : Waiting) → L waiting 0 (s33.state 0) (Takes (Take 0 0) 1 (Byte 0)) (made a12 1)
l34 waiting = (omega arith, ((omega arith, refl), due (omega arith) refl, record { process = refl; inner = refl }))

abbrev a13 : Vcp
a13 = set_link a12 0 (with_token (a12.link 0) (Byte 1))

abbrev s35 : Network (Actor ℕ) Token
s35 = record { state = put s34.state 0 (made a13 1); way = put s34.way 1 (EndMark Eop ∷ []) }

l35 : (waiting : Waiting) → L waiting 0 (s34.state 0) (Takes (Take 0 0) 1 (Byte 1)) (made a13 1)
l35 waiting = (omega arith, ((omega arith, refl), due (omega arith) refl, record { process = refl; inner = refl }))

abbrev a14 : Vcp
a14 = set_link a13 0 (with_token (a13.link 0) (EndMark Eop))

abbrev s36 : Network (Actor ℕ) Token
s36 = record { state = put s35.state 0 (made a14 1); way = put s35.way 1 ([]) }

l36 : (waiting : Waiting) → L waiting 0 (s35.state 0) (Takes (Take 0 0) 1 (EndMark Eop)) (made a14 1)
l36 waiting = (omega arith, ((omega arith, refl), due (omega arith) refl, record { process = refl; inner = refl }))

abbrev a15 : Vcp
a15 = set_link a14 0 (passing (a14.link 0) (Byte 1 ∷ EndMark Eop ∷ []) ([] ++ 0 ∷ []))

abbrev s37 : Network (Actor ℕ) Token
s37 = record s36 { state = put s36.state 0 (made a15 1) }

l37 : (waiting : Waiting) → L waiting 0 (s36.state 0) (Own (Pass 0)) (made a15 1)
l37 waiting = (omega arith, (None, passes_byte 0 (Byte 1 ∷ EndMark Eop ∷ []) refl refl (omega arith) refl, refl, refl))

abbrev a16 : Vcp
a16 = set_link a15 0 (passing (a15.link 0) (EndMark Eop ∷ []) (0 ∷ [] ++ 1 ∷ []))

abbrev s38 : Network (Actor ℕ) Token
s38 = record s37 { state = put s37.state 0 (made a16 1) }

l38 : (waiting : Waiting) → L waiting 0 (s37.state 0) (Own (Pass 0)) (made a16 1)
l38 waiting = (omega arith, (None, passes_byte 1 (EndMark Eop ∷ []) refl refl (omega arith) refl, refl, refl))

abbrev a17 : Vcp
a17 = record (set_link a16 0 (passing (a16.link 0) [] [])) { carrier = node.advance a16.carrier 0 bare [] }

abbrev s39 : Network (Actor ℕ) Token
s39 = record s38 { state = put s38.state 0 (made a17 2) }

l39 : (waiting : Waiting) → L waiting 0 (s38.state 0) (Own (Pass 0)) (made a17 2)
l39 waiting = (omega arith, (Some (node.Finished 0), passes_mark Eop [] (node.Finished 0) (node.advance a16.carrier 0 bare []) refl refl (node.takes (node.advances 0 bare hello [] refl (record { body = refl; kind = refl }) refl refl refl)) refl, refl, refl))

pub exchanged : (waiting : Waiting) → (s : Network (Actor ℕ) Token) × HappenAll example waiting (by_test does) (begins example begin) exchange s × ((view example s 0).taken ≡ hello ∷ []) × ((view example s 0).finished ≡ 1)
exchanged waiting = (s39, (s1, (Own (Proc (Offer 0 0)), refl, own_step (L waiting) s0 0 (Proc (Offer 0 0)) (made a1 1) (l1 waiting)), (s2, (Puts (Fct 0) 1 tokens.Fct, refl, put_step (L waiting) s1 1 (Fct 0) 1 (tokens.Fct) (made b1 3) (l2 waiting)), (s3, (Takes (Take 0 0) 1 (tokens.Fct), refl, take_step (L waiting) s2 0 (Take 0 0) 1 (tokens.Fct) ([]) (made a2 1) refl (l3 waiting)), (s4, (Puts (Put 0) 0 (Byte 0), refl, put_step (L waiting) s3 0 (Put 0) 0 ((Byte 0)) (made a3 1) (l4 waiting)), (s5, (Puts (Put 0) 0 (Byte 1), refl, put_step (L waiting) s4 0 (Put 0) 0 ((Byte 1)) (made a4 1) (l5 waiting)), (s6, (Puts (Put 0) 0 (Byte 104), refl, put_step (L waiting) s5 0 (Put 0) 0 ((Byte 104)) (made a5 1) (l6 waiting)), (s7, (Puts (Put 0) 0 (Byte 101), refl, put_step (L waiting) s6 0 (Put 0) 0 ((Byte 101)) (made a6 1) (l7 waiting)), (s8, (Puts (Put 0) 0 (Byte 108), refl, put_step (L waiting) s7 0 (Put 0) 0 ((Byte 108)) (made a7 1) (l8 waiting)), (s9, (Puts (Put 0) 0 (Byte 108), refl, put_step (L waiting) s8 0 (Put 0) 0 ((Byte 108)) (made a8 1) (l9 waiting)), (s10, (Puts (Put 0) 0 (Byte 111), refl, put_step (L waiting) s9 0 (Put 0) 0 ((Byte 111)) (made a9 1) (l10 waiting)), (s11, (Puts (Put 0) 0 (EndMark Eom), refl, put_step (L waiting) s10 0 (Put 0) 0 ((EndMark Eom)) (made a10 1) (l11 waiting)), (s12, (Takes (Take 0 0) 0 (Byte 0), refl, take_step (L waiting) s11 1 (Take 0 0) 0 (Byte 0) (Byte 1 ∷ Byte 104 ∷ Byte 101 ∷ Byte 108 ∷ Byte 108 ∷ Byte 111 ∷ EndMark Eom ∷ []) (made b2 3) refl (l12 waiting)), (s13, (Takes (Take 0 0) 0 (Byte 1), refl, take_step (L waiting) s12 1 (Take 0 0) 0 (Byte 1) (Byte 104 ∷ Byte 101 ∷ Byte 108 ∷ Byte 108 ∷ Byte 111 ∷ EndMark Eom ∷ []) (made b3 3) refl (l13 waiting)), (s14, (Takes (Take 0 0) 0 (Byte 104), refl, take_step (L waiting) s13 1 (Take 0 0) 0 (Byte 104) (Byte 101 ∷ Byte 108 ∷ Byte 108 ∷ Byte 111 ∷ EndMark Eom ∷ []) (made b4 3) refl (l14 waiting)), (s15, (Takes (Take 0 0) 0 (Byte 101), refl, take_step (L waiting) s14 1 (Take 0 0) 0 (Byte 101) (Byte 108 ∷ Byte 108 ∷ Byte 111 ∷ EndMark Eom ∷ []) (made b5 3) refl (l15 waiting)), (s16, (Takes (Take 0 0) 0 (Byte 108), refl, take_step (L waiting) s15 1 (Take 0 0) 0 (Byte 108) (Byte 108 ∷ Byte 111 ∷ EndMark Eom ∷ []) (made b6 3) refl (l16 waiting)), (s17, (Takes (Take 0 0) 0 (Byte 108), refl, take_step (L waiting) s16 1 (Take 0 0) 0 (Byte 108) (Byte 111 ∷ EndMark Eom ∷ []) (made b7 3) refl (l17 waiting)), (s18, (Takes (Take 0 0) 0 (Byte 111), refl, take_step (L waiting) s17 1 (Take 0 0) 0 (Byte 111) (EndMark Eom ∷ []) (made b8 3) refl (l18 waiting)), (s19, (Takes (Take 0 0) 0 (EndMark Eom), refl, take_step (L waiting) s18 1 (Take 0 0) 0 (EndMark Eom) ([]) (made b9 3) refl (l19 waiting)), (s20, (Own (Pass 0), refl, own_step (L waiting) s19 1 (Pass 0) (made b10 3) (l20 waiting)), (s21, (Own (Pass 0), refl, own_step (L waiting) s20 1 (Pass 0) (made b11 3) (l21 waiting)), (s22, (Own (Pass 0), refl, own_step (L waiting) s21 1 (Pass 0) (made b12 3) (l22 waiting)), (s23, (Own (Pass 0), refl, own_step (L waiting) s22 1 (Pass 0) (made b13 3) (l23 waiting)), (s24, (Own (Pass 0), refl, own_step (L waiting) s23 1 (Pass 0) (made b14 3) (l24 waiting)), (s25, (Own (Pass 0), refl, own_step (L waiting) s24 1 (Pass 0) (made b15 3) (l25 waiting)), (s26, (Own (Pass 0), refl, own_step (L waiting) s25 1 (Pass 0) (made b16 3) (l26 waiting)), (s27, (Own (Pass 0), refl, own_step (L waiting) s26 1 (Pass 0) (made b17 3) (l27 waiting)), (s28, (Own (Proc (Want 0 0)), refl, own_step (L waiting) s27 1 (Proc (Want 0 0)) (made b18 5) (l28 waiting)), (s29, (Puts (Fct 0) 0 tokens.Fct, refl, put_step (L waiting) s28 0 (Fct 0) 0 (tokens.Fct) (made a11 1) (l29 waiting)), (s30, (Takes (Take 0 0) 0 (tokens.Fct), refl, take_step (L waiting) s29 1 (Take 0 0) 0 (tokens.Fct) ([]) (made b19 5) refl (l30 waiting)), (s31, (Puts (Put 0) 1 (Byte 0), refl, put_step (L waiting) s30 1 (Put 0) 1 ((Byte 0)) (made b20 5) (l31 waiting)), (s32, (Puts (Put 0) 1 (Byte 1), refl, put_step (L waiting) s31 1 (Put 0) 1 ((Byte 1)) (made b21 5) (l32 waiting)), (s33, (Puts (Put 0) 1 (EndMark Eop), refl, put_step (L waiting) s32 1 (Put 0) 1 ((EndMark Eop)) (made b22 5) (l33 waiting)), (s34, (Takes (Take 0 0) 1 (Byte 0), refl, take_step (L waiting) s33 0 (Take 0 0) 1 (Byte 0) (Byte 1 ∷ EndMark Eop ∷ []) (made a12 1) refl (l34 waiting)), (s35, (Takes (Take 0 0) 1 (Byte 1), refl, take_step (L waiting) s34 0 (Take 0 0) 1 (Byte 1) (EndMark Eop ∷ []) (made a13 1) refl (l35 waiting)), (s36, (Takes (Take 0 0) 1 (EndMark Eop), refl, take_step (L waiting) s35 0 (Take 0 0) 1 (EndMark Eop) ([]) (made a14 1) refl (l36 waiting)), (s37, (Own (Pass 0), refl, own_step (L waiting) s36 0 (Pass 0) (made a15 1) (l37 waiting)), (s38, (Own (Pass 0), refl, own_step (L waiting) s37 0 (Pass 0) (made a16 1) (l38 waiting)), (s39, (Own (Pass 0), refl, own_step (L waiting) s38 0 (Pass 0) (made a17 2) (l39 waiting)), record { states = λ n. refl; ways = λ w. refl }))))))))))))))))))))))))))))))))))))))), refl, refl)
