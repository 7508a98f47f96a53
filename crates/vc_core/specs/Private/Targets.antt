-- Which packets are sought at a node that they reach, and what is known of a packet before it comes there.
use Rattle.std.specs.Prelude.{◌≡◌, ◌⊎◌, ◌↔◌, ℕ, ◌≤◌, ◌<◌, List, [], ◌∷◌, ◌++◌, length, take, ◌==◌, Some, None, IsTrue, if◌then◌else◌}
use Rattle.std.specs.List.{Contains}
use Rattle.vc_packets.specs.declared.mark.Mark.{Mark}
use Rattle.vc_packets.specs.declared.packet.Packet.{Packet}
use Rattle.vc_packets.specs.Headers.{spelled}
use Rattle.vc_tokens.specs.Tokens.{Token, Byte, Fct, EndMark}
use Rattle.vc_machine.specs.Owners.{HasOwner}
use Rattle.vc_machine.specs.Paths.{Net, End, Delivers}
use Rattle.vc_machine.specs.Places.{Place, OnWire, IsOf}
use Rattle.vc_network.specs.Plan.{Plan, body_limit, home, net_of, ways}
use Rattle.vc_plan.specs.declared.plan.Plan.{Plan as Given}
use Rattle.vc_accepted.specs.NetworkOf.{network_of}
use Rattle.vc_vcp.specs.State.{IsPieceOf, IsAckOf}
use Rattle.vc_core.specs.Channels.{ends_at}
use Rattle.vc_core.specs.declared.channels.Ends.{Ends}
use Rattle.vc_core.specs.declared.reader.Reader.{Reader}
use Rattle.vc_core.specs.declared.target.Target.{Target}

-- a piece for the one block, or an acknowledge for the other
abbrev pub IsTarget : Target → Packet → Type 0
IsTarget x p = ((block : ℕ) × (x.pieces ≡ Some block) × IsPieceOf block p) ⊎ ((block : ℕ) × (x.acks ≡ Some block) × IsAckOf block p)

-- a channel's packets at node n: the pieces where it inputs the channel, and the acknowledges where it outputs on it
abbrev pub target_at : Ends → ℕ → Target
target_at e n = record {
  pieces = if e.to.node == n then Some e.to.block else None;
  acks = if e.from.node == n then Some e.from.block else None;
}

-- a packet that comes to an end with this load is sought there
abbrev pub IsTargetAt : Ends → End → List ℕ → Mark → Type 0
IsTargetAt ends e load mark = IsTarget (target_at ends e.node) (record { body = spelled (e.block ∷ []) ++ load; mark = mark })

-- the headers of a body on way w deliver it to an end, in so many hops at most, and this is what follows them
pub record ComesTo (net : Net) (hops w : ℕ) (body : List ℕ) (e : End) (load : List ℕ) : Type 0 where
  pub stack : List ℕ
  pub is : body ≡ spelled stack ++ load
  pub delivers : Delivers net hops w stack e

-- one of them is such
abbrev pub Has : {X : Type 0} → (X → Type 0) → List X → Type 0
Has B [] = ⊥
Has B (x ∷ xs) = B x ⊎ Has B xs

-- the packet belongs to a channel, and is no longer than the limit
pub record IsOwned (plan : Plan) (x : Place × Packet) : Type 0 where
  pub owner : HasOwner (net_of plan) x
  pub short : length x.1.body ≤ body_limit plan

-- the bytes of the packet whose mark is not among these tokens, behind those that came before
abbrev pub left : List ℕ → List Token → List ℕ
left got [] = got
left got (Byte b ∷ ts) = left (got ++ b ∷ []) ts
left got (EndMark m ∷ ts) = left [] ts
left got (Fct ∷ ts) = left got ts

-- on way w these packets have been read, in search of one of channel c's, and then these bytes of another, of which no more than 45 are kept
pub record HasRead (p : Given) (c w : ℕ) (ps : List Packet) (got : List ℕ) (r : Reader) : Type 0 where
  pub way : r.way ≡ w
  pub real : w < ways (network_of p)
  pub ends : ends_at (network_of p) (home (network_of p) c) ≡ Some r.ends
  pub prefix : r.prefix.bytes.items ≡ take 45 got
  pub found : ((q : Packet) → Contains ps q → IsOwned (network_of p) (OnWire w, q)) → IsTrue r.found ↔ Has (λ q. IsOf (net_of (network_of p)) w None q c) ps
