-- A node's links: how tokens come, pass to the halves, and are put.
use Rattle.vc_packets.specs.Counters.{one_more}
use Rattle.std.specs.Prelude.{◌≡◌, ℕ, ◌<◌, ◌≤◌, length, List, [], ◌∷◌, ◌++◌, Option, Some, None}
use Rattle.vc_packets.specs.declared.mark.Mark.{Mark}
use Rattle.vc_packets.specs.declared.packet.Packet.{Packet}
use Rattle.vc_packets.specs.Functions.{put}
use Rattle.vc_tokens.specs.Tokens.{Token, Byte, Fct, EndMark}
use Rattle.vc_credit.specs.Ends.{Sender, Receiver, Grants, Puts, IsDue, new_sender, new_receiver, credited, received}
use Rattle.vc_vcp.specs.Carrier.{Ends, Carrier, new_carrier}
use Rattle.vc_vcp.specs.Steps.{Taken, Arrives}

pub record Link : Type 0 where
  pub sender : Sender
  pub receiver : Receiver
  pub passed : List ℕ  -- the bytes passed of the packet whose mark has not

pub record Vcp : Type 0 where
  pub carrier : Carrier
  pub link : ℕ → Link

abbrev pub new_link : Link
new_link = record { sender = new_sender; receiver = new_receiver; passed = [] }

abbrev pub new_vcp : Vcp
new_vcp = record { carrier = new_carrier; link = λ link. new_link }

abbrev pub set_link : Vcp → ℕ → Link → Vcp
set_link s link x = record s { link = put s.link link x }

-- a token comes: an FCT is credit for the link, all else goes to its buffer
abbrev pub with_token : Link → Token → Link
with_token x Fct = record x { sender = credited x.sender }
with_token x (Byte b) = record x { receiver = received x.receiver (Byte b) }
with_token x (EndMark m) = record x { receiver = received x.receiver (EndMark m) }

-- A token that comes is dropped where it is not due.
pub data Comes (old : Vcp) (link : ℕ) (k : Token) (new : Vcp) : Type 0 where
  due : IsDue (old.link link).sender (old.link link).receiver k → new ≡ set_link old link (with_token (old.link link) k) → Comes old link k new
  not_due : (IsDue (old.link link).sender (old.link link).receiver k → ⊥) → new ≡ record old { carrier = record old.carrier { strays = one_more old.carrier.strays } } → Comes old link k new

-- the front of the buffer has passed, and these bytes of the packet whose mark has not
abbrev pub passing : Link → List Token → List ℕ → Link
passing x rest passed = record x { receiver = record x.receiver { buffer = rest }; passed = passed }

-- A token passes from the link's buffer: a byte past the limit is dropped, and with its mark the packet arrives.
pub data Passes (limit : ℕ) (ends : Ends) (old : Vcp) (link : ℕ) (taken : Option Taken) (new : Vcp) : Type 0 where
  passes_byte : (b : ℕ) (rest : List Token) → (old.link link).receiver.buffer ≡ Byte b ∷ rest → taken ≡ None → length (old.link link).passed < limit →
      new ≡ set_link old link (passing (old.link link) rest ((old.link link).passed ++ b ∷ [])) → Passes limit ends old link taken new
  drops_byte : (b : ℕ) (rest : List Token) → (old.link link).receiver.buffer ≡ Byte b ∷ rest → taken ≡ None → limit ≤ length (old.link link).passed →
      new ≡ record (set_link old link (passing (old.link link) rest (old.link link).passed)) { carrier = record old.carrier { strays = one_more old.carrier.strays } } → Passes limit ends old link taken new
  passes_mark : (m : Mark) (rest : List Token) (what : Taken) (carrier : Carrier) → (old.link link).receiver.buffer ≡ EndMark m ∷ rest → taken ≡ Some what →
      Arrives ends old.carrier (record { body = (old.link link).passed; mark = m }) what carrier →
      new ≡ record (set_link old link (passing (old.link link) rest [])) { carrier = carrier } → Passes limit ends old link taken new

-- a packet leaves its send queue with its mark
abbrev pub unqueued : Carrier → ℕ → List Packet → Token → Carrier
unqueued a link rest (EndMark m) = record a { queue = put a.queue link rest }
unqueued a link rest (Byte b) = a
unqueued a link rest Fct = a

-- the packet at the front of the link's send queue leaves it whole, of which no token has gone out, and all else stays
pub record LeavesWhole (old : Vcp) (link : ℕ) (p : Packet) (new : Vcp) : Type 0 where
  pub rest : List Packet
  pub front : old.carrier.queue link ≡ p ∷ rest
  pub whole : (old.link link).sender.sent ≡ []
  pub after : new ≡ record old { carrier = record old.carrier { queue = put old.carrier.queue link rest } }

-- the next token of the packet at the front of the link's send queue goes out
pub record Sends (old : Vcp) (link : ℕ) (k : Token) (new : Vcp) : Type 0 where
  pub packet : Packet
  pub rest : List Packet
  pub sender : Sender
  pub front : old.carrier.queue link ≡ packet ∷ rest
  pub puts : Puts (old.link link).sender packet.body (Some packet.mark) k sender
  pub after : new ≡ record { carrier = unqueued old.carrier link rest k; link = put old.link link (record (old.link link) { sender = sender }) }

-- an FCT goes out by the link
pub record SendsFct (old : Vcp) (link : ℕ) (new : Vcp) : Type 0 where
  pub receiver : Receiver
  pub grants : Grants (old.link link).receiver receiver
  pub after : new ≡ set_link old link (record (old.link link) { receiver = receiver })
