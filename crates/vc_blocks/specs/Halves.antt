-- The two halves of a virtual link's end ("Networks, Routers and Transputers", chapter 2).
use Rattle.std.specs.Prelude.{◌≡◌, ℕ, ◌≤◌, Bool, true, false, List, [], ◌++◌, length, drop, Option, Some, None}
use Rattle.vc_packets.specs.declared.mark.Mark.{Mark}
use Rattle.vc_packets.specs.declared.mark.Mark.TheVariants.{Eop, Eom}
use Rattle.vc_packets.specs.declared.packet.Packet.{Packet}
use Rattle.vc_packets.specs.declared.kind.Kind.TheVariants.{Piece}
use Rattle.vc_packets.specs.Kind.{kind}

-- the half that outputs: the headers of its packets, and the pieces not yet acknowledged, of which the first is under way; none
-- where it is idle
pub record Outgoing : Type 0 where
  pub route : List ℕ
  pub unacked : List (List ℕ)

-- the half that inputs
pub record Incoming : Type 0 where
  pub wants : Bool  -- a process inputs
  pub stopped : Bool
  pub held : Option Packet
  pub stored : List ℕ  -- of the message that is arriving

-- what a packet that reaches its block carries behind the block's header, and whether its message ends with it
abbrev pub load_of : Packet → List ℕ
load_of p = drop 2 p.body

abbrev pub ends_message : Mark → Bool
ends_message Eop = false
ends_message Eom = true

pub record IsPiece (p : Packet) : Type 0 where
  pub header : 2 ≤ length p.body
  pub kind : kind (load_of p) p.mark ≡ Piece (ends_message p.mark)

-- a held packet is a piece
abbrev pub HoldsPiece : Option Packet → Type 0
HoldsPiece None = Unit {0}
HoldsPiece (Some p) = IsPiece p

-- a piece is stored: with the last the message is whole
abbrev pub with_stored : Incoming → List ℕ → Bool → Incoming
with_stored x load true = record x { held = None; wants = false; stored = [] }
with_stored x load false = record x { held = None; wants = true; stored = x.stored ++ load }
