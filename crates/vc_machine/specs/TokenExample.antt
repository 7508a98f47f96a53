-- The example's network over tokens: a header is drawn, and a packet goes on before its mark.
use Rattle.std.specs.Prelude.{ℕ, zero, suc, List, [], ◌∷◌}
use Rattle.vc_packets.specs.declared.mark.Mark.TheVariants.{Eom}
use Rattle.vc_packets.specs.declared.packet.Packet.{Packet}
use Rattle.vc_machine.specs.Machine.{Offer}
use Rattle.vc_machine.specs.TokenMachine.{TokenEvent, Proc, Take, Pass, Put, PutFct, Route}

-- the other direction of a way's wire
abbrev pub back : ℕ → ℕ
back zero = 1
back (suc zero) = 0
back (suc (suc zero)) = 3
back (suc (suc (suc w))) = 2

-- node 0's packet: the header 50 and one byte
abbrev pub piece : Packet
piece = record { body = 0 ∷ 50 ∷ 9 ∷ []; mark = Eom }

-- two bytes of the packet are put, and the first of them, which comes with the word 7, passes in the switch
abbrev pub first_passes : List TokenEvent
first_passes = Proc (Offer 0 (9 ∷ [])) ∷ PutFct 0 ∷ Take 1 0 ∷ Put 0 ∷ Put 0 ∷ Take 0 7 ∷ Pass 0 ∷ []

-- the second passes, the packet is bound to way 2, and its first byte is put there
abbrev pub goes_on : List TokenEvent
goes_on = Take 0 1 ∷ Pass 0 ∷ Route 0 2 ∷ PutFct 2 ∷ Take 3 0 ∷ Put 2 ∷ []
