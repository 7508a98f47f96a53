-- The two ends of a way, where its tokens are sent and received, and the state of a network of them.
use Rattle.vc_credit.specs.Ends.{Sender}
use Rattle.std.specs.Prelude.{◌≡◌, ℕ, List, [], Option, None}
use Rattle.vc_packets.specs.declared.mark.Mark.{Mark}
use Rattle.vc_machine.specs.Paths.{Net}
use Rattle.vc_machine.specs.Machine.{State, start}
use Rattle.vc_packets.specs.Functions.{put}
use Rattle.vc_tokens.specs.Tokens.{Token}

-- the receiving end of a way
pub record Receiver : Type 0 where
  pub buffer : List Token
  pub promised : ℕ  -- places granted for tokens that have not come yet
  pub word : ℕ  -- of the latest take
  pub got : List ℕ  -- bytes passed of a packet, behind the random header that a switch put in front
  pub mark : Option Mark  -- of a packet that is all in the switch
  pub bound : Option ℕ  -- the way out of the switch that the packet is bound to leave by

-- the nodes' queues, halves and counts, as a packet machine with nothing on its ways, and the links
pub record Tokens : Type 0 where
  pub nodes : State
  pub sender : ℕ → Sender
  pub wire : ℕ → List Token
  pub receiver : ℕ → Receiver

abbrev pub no_tokens : Tokens
no_tokens = record {
  nodes = start;
  sender = λ w. record { sent = []; credit = 0 };
  wire = λ w. [];
  receiver = λ w. record { buffer = []; promised = 0; word = 0; got = []; mark = None; bound = None };
}

-- the two ways of each wire
pub record Wires (net : Net) (back : ℕ → ℕ) : Type 0 where
  pub twice : (w : ℕ) → back (back w) ≡ w
  pub near : (w : ℕ) → net.near (back w) ≡ net.far w

abbrev pub set_sender : Tokens → ℕ → Sender → Tokens
set_sender t w a = record t { sender = put t.sender w a }

abbrev pub set_wire : Tokens → ℕ → List Token → Tokens
set_wire t w ts = record t { wire = put t.wire w ts }

abbrev pub set_receiver : Tokens → ℕ → Receiver → Tokens
set_receiver t w a = record t { receiver = put t.receiver w a }
