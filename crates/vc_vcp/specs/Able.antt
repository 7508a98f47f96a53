-- Which steps a node can make: those that lead to some state.
use Rattle.std.specs.Prelude.{◌≡◌, ◌≢◌, ℕ, false, List, Option, None}
use Rattle.vc_packets.specs.declared.packet.Packet.{Packet}
use Rattle.vc_tokens.specs.Tokens.{Token}
use Rattle.vc_vcp.specs.Carrier.{End, Ends, InHalf, Carrier}
use Rattle.vc_vcp.specs.Steps.{Offers, IsOpen, Wants, Fetches, Stops, Taken}
use Rattle.vc_vcp.specs.Links.{Vcp, Comes, LeavesWhole, Passes, Sends, SendsFct}

-- an output of this message can begin on the channel
abbrev pub CanOffer : Ends → Carrier → ℕ → List ℕ → Type 0
CanOffer ends old c m = (new : Carrier) × Offers ends old c m new

-- an input can begin on the channel
pub record CanWant (ends : Ends) (old : Carrier) (c : ℕ) : Type 0 where
  pub end : End
  pub answer : Option (List ℕ)
  pub new : Carrier
  pub may : IsOpen ends old c end
  pub wants : Wants old c end answer new

-- an input can begin that takes a held piece
pub record CanFetch (ends : Ends) (old : Carrier) (c : ℕ) : Type 0 where
  pub end : End
  pub answer : Option (List ℕ)
  pub new : Carrier
  pub may : IsOpen ends old c end
  pub fetches : Fetches old c end answer new

-- the channel can be stopped
abbrev pub CanStop : Ends → Carrier → ℕ → Type 0
CanStop ends old c = (new : Carrier) × Stops ends old c new

-- a token of a packet can go out by the link
pub record CanPut (old : Vcp) (link : ℕ) : Type 0 where
  pub token : Token
  pub new : Vcp
  pub sends : Sends old link token new

-- a packet can leave the link's send queue whole
pub record CanLeaveWhole (old : Vcp) (link : ℕ) : Type 0 where
  pub packet : Packet
  pub new : Vcp
  pub leaves : LeavesWhole old link packet new

-- an FCT can go out by the link
abbrev pub CanGrant : Vcp → ℕ → Type 0
CanGrant old link = (new : Vcp) × SendsFct old link new

-- a token can pass from the link's buffer
pub record CanPass (limit : ℕ) (ends : Ends) (old : Vcp) (link : ℕ) : Type 0 where
  pub taken : Option Taken
  pub new : Vcp
  pub passes : Passes limit ends old link taken new

-- a piece is held, and the channel is not stopped
pub record IsReady (x : InHalf) : Type 0 where
  pub held : x.held ≢ None
  pub not_stopped : x.stopped ≡ false

-- whatever token comes over whatever link, it has a step
abbrev pub EachTokenComes : Type 0
EachTokenComes = (old : Vcp) (link : ℕ) (k : Token) → (new : Vcp) × Comes old link k new
