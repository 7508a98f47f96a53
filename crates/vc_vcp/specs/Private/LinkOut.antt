-- The sending end of a node's link: a queue of packets, of the first of which some tokens may have been put.
use Rattle.std.specs.Prelude.{◌≡◌, ◌≢◌, List, [], ◌∷◌, ◌++◌, Some}
use Rattle.vc_packets.specs.declared.packet.Packet.{Packet}
use Rattle.vc_tokens.specs.Tokens.{Token, Byte, Fct, EndMark}
use Rattle.vc_credit.specs.Ends.{Puts}
use Rattle.vc_vcp.specs.LinkOut.{Sending}

-- a packet leaves the queue with its mark
abbrev pub queue_after : List Packet → Packet → Token → List Packet
queue_after rest p (EndMark m) = rest
queue_after rest p (Byte b) = p ∷ rest
queue_after rest p Fct = p ∷ rest

-- the next token of the packet at the front is put
pub record PutsFront (old : Sending) (k : Token) (new : Sending) : Type 0 where
  pub packet : Packet
  pub rest : List Packet
  pub front : old.queue ≡ packet ∷ rest
  pub puts : Puts old.sender packet.body (Some packet.mark) k new.sender
  pub queue : new.queue ≡ queue_after rest packet k

-- some token of the packet at the front can be put
abbrev pub CanPutFront : Sending → Type 0
CanPutFront old = (k : Token) × (new : Sending) × PutsFront old k new

-- the packet at the front leaves whole: none of its tokens was put
pub record FrontLeavesWhole (old : Sending) (p : Packet) (new : Sending) : Type 0 where
  pub rest : List Packet
  pub front : old.queue ≡ p ∷ rest
  pub whole : old.sender.sent ≡ []
  pub after : new ≡ record old { queue = rest }

-- no packet waits, or a token of the first was put
abbrev pub HasNoneWhole : Sending → Type 0
HasNoneWhole out = (p : Packet) (rest : List Packet) → out.queue ≡ p ∷ rest → out.sender.sent ≢ []

-- what was before a packet was queued, is again
abbrev pub Unqueues : Sending → Sending → Type 0
Unqueues old new = (before : Sending) (p : Packet) → old ≡ record before { queue = before.queue ++ p ∷ [] } → (before.queue ≡ [] → before.sender.sent ≡ []) → new ≡ before
