-- The sending end of a node's link: a queue of packets, of the first of which some tokens may have been put.
use Rattle.std.specs.Prelude.{◌≡◌, ℕ, ◌≤◌, List, [], ◌∷◌, length, take}
use Rattle.vc_packets.specs.declared.packet.Packet.{Packet}
use Rattle.vc_credit.specs.Ends.{Sender}

pub record Sending : Type 0 where
  pub queue : List Packet
  pub sender : Sender

-- the first n bytes of the packet at the front
abbrev pub sent_of : List Packet → ℕ → List ℕ
sent_of [] n = []
sent_of (p ∷ ps) n = take n p.body

-- no more bytes are put than the packet at the front has
abbrev pub IsWithinFront : List Packet → ℕ → Type 0
IsWithinFront [] n = n ≡ 0
IsWithinFront (p ∷ ps) n = n ≤ length p.body
