-- The two ends of a link ("Networks, Routers and Transputers", chapter 2): the sending end puts the tokens of a packet, one for
-- each place of the credit, and the receiving end grants the places of its buffer, eight by each FCT. The buffer has 16 places,
-- and an FCT is granted where eight of them are free and not promised (profile).
use Rattle.std.specs.Prelude.{◌≡◌, ℕ, ◌+◌, ◌-◌, ◌≤◌, ◌<◌, List, [], ◌∷◌, ◌++◌, length, Option, Some}
use Rattle.vc_packets.specs.declared.mark.Mark.{Mark}
use Rattle.vc_tokens.specs.Tokens.{Token, Byte, Fct, EndMark}

-- the sending end of a way: the bytes put of the packet that is being put, and the credit
pub record Sender : Type 0 where
  pub sent : List ℕ
  pub credit : ℕ

-- the tokens that have come and not passed, and the places granted for more
pub record Receiver : Type 0 where
  pub buffer : List Token
  pub promised : ℕ

abbrev pub new_sender : Sender
new_sender = record { sent = []; credit = 0 }

abbrev pub new_receiver : Receiver
new_receiver = record { buffer = []; promised = 0 }

-- what comes was granted: an FCT finds a credit of at most 8, and any other token a place that was promised
abbrev pub IsDue : Sender → Receiver → Token → Type 0
IsDue a r Fct = a.credit ≤ 8
IsDue a r (Byte b) = 0 < r.promised
IsDue a r (EndMark m) = 0 < r.promised

-- an FCT came
abbrev pub credited : Sender → Sender
credited a = record a { credit = a.credit + 8 }

-- any other token came
abbrev pub received : Receiver → Token → Receiver
received r k = record { buffer = r.buffer ++ k ∷ []; promised = r.promised - 1 }

-- the token at the front passes
pub record Passes (old : Receiver) (k : Token) (new : Receiver) : Type 0 where
  pub front : old.buffer ≡ k ∷ new.buffer
  pub promised : new.promised ≡ old.promised

-- the buffer's front
abbrev pub IsFront : Receiver → Token → Type 0
IsFront r k = (rest : List Token) × (r.buffer ≡ k ∷ rest)

-- eight places are free and not promised
abbrev pub HasRoom : Receiver → Type 0
HasRoom r = length r.buffer + r.promised + 8 ≤ 16

-- eight places are free and not promised: they are granted
pub record Grants (old new : Receiver) : Type 0 where
  pub room : length old.buffer + old.promised + 8 ≤ 16
  pub after : new ≡ record old { promised = old.promised + 8 }

-- there is credit, and k is the next token to put of a packet with this body, and with this mark once it has come
pub data Puts (old : Sender) (body : List ℕ) (mark : Option Mark) (k : Token) (new : Sender) : Type 0 where
  puts_byte : (b : ℕ) (more : List ℕ) → 0 < old.credit → body ≡ old.sent ++ b ∷ more → k ≡ Byte b →
      new ≡ record { sent = old.sent ++ b ∷ []; credit = old.credit - 1 } → Puts old body mark k new
  puts_mark : (m : Mark) → 0 < old.credit → body ≡ old.sent → mark ≡ Some m → k ≡ EndMark m →
      new ≡ record { sent = []; credit = old.credit - 1 } → Puts old body mark k new
