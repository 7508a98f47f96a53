-- What a node keeps to carry its channels: send queues by link, and the halves of its channels.
use Rattle.std.specs.Prelude.{ℕ, Bool, false, List, [], ◌∷◌, ◌++◌, Option, None}
use Rattle.vc_packets.specs.declared.packet.Packet.{Packet}
use Rattle.vc_packets.specs.Functions.{put}

-- one end of a virtual link, at its node: the link it sends by, its block, and the headers it puts in front
pub record End : Type 0 where
  pub link : ℕ
  pub block : ℕ
  pub route : List ℕ

-- a node's ends, by channel: that by which the channel is output here, and that by which it is input here
pub record Ends : Type 0 where
  pub output : ℕ → Option End
  pub input : ℕ → Option End

pub record OutHalf : Type 0 where
  pub unacked : List (List ℕ)  -- the pieces not yet acknowledged, of which the first is under way; none where the output is idle
  pub offered : List (List ℕ)
  pub finished : ℕ

pub record InHalf : Type 0 where
  pub wants : Bool  -- a process inputs
  pub stopped : Bool
  pub held : Option Packet
  pub stored : List ℕ  -- of the message that is arriving
  pub taken : List (List ℕ)

pub record Carrier : Type 0 where
  pub queue : ℕ → List Packet  -- by link
  pub out : ℕ → OutHalf  -- by channel
  pub into : ℕ → InHalf  -- by channel
  pub strays : ℕ

abbrev pub new_carrier : Carrier
new_carrier = record {
  queue = λ link. [];
  out = λ c. record { unacked = []; offered = []; finished = 0 };
  into = λ c. record { wants = false; stopped = false; held = None; stored = []; taken = [] };
  strays = 0;
}

abbrev pub set_out : Carrier → ℕ → OutHalf → Carrier
set_out s c x = record s { out = put s.out c x }

abbrev pub set_in : Carrier → ℕ → InHalf → Carrier
set_in s c x = record s { into = put s.into c x }

-- a packet more at the end of a link's send queue
abbrev pub enqueue : Carrier → ℕ → Packet → Carrier
enqueue s link p = record s { queue = put s.queue link (s.queue link ++ p ∷ []) }
