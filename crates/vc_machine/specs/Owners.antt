-- Whose each packet is, where its headers let it come, and how long it is at most.
use Rattle.std.specs.Prelude.{◌≡◌, ◌⊎◌, ℕ, ◌+◌, ◌*◌, ◌≤◌, Bool, List, [], ◌∷◌, ◌++◌, length, Option}
use Rattle.std.specs.List.{Contains}
use Rattle.vc_packets.specs.declared.packet.Packet.{Packet}
use Rattle.vc_packets.specs.declared.kind.Kind.TheVariants.{Ack, Piece}
use Rattle.vc_packets.specs.Headers.{spelled}
use Rattle.vc_packets.specs.Kind.{kind}
use Rattle.vc_switch.specs.Forward.{IsDrawn, behind}
use Rattle.vc_machine.specs.Paths.{AtNode, AtSwitch, Net, Carries, IsAccepted}
use Rattle.vc_machine.specs.Machine.{State, Event, BodyLeaves, Run, start}
use Rattle.vc_machine.specs.Places.{Place, Queue, OnWire, Inside, Held, in_ways, BelongsTo}
use Rattle.vc_machine.specs.Laws.{HasHeaders}

-- a channel that the network carries, to which the packet belongs
pub record HasOwner (net : Net) (x : Place × Packet) : Type 0 where
  pub chan : ℕ
  pub real : Carries net chan
  pub its : BelongsTo net chan x

-- after any list of steps each packet in a queue, on a way or in a switch belongs to a channel
abbrev pub EachHasOwner : Net → Type 0
EachHasOwner net = (es : List Event) (s : State) → IsAccepted net → Run net start es s → (x : Place × Packet) → Contains (in_ways s net.ways) x → HasOwner net x

-- and no packet belongs to two
abbrev pub OwnersAreOne : Net → Type 0
OwnersAreOne net = (c d : ℕ) (x : Place × Packet) → IsAccepted net → Carries net c → Carries net d → BelongsTo net c x → BelongsTo net d x → c ≡ d

-- a path that a packet with this body may take from way w on, whatever is drawn and whichever link of a group it leaves by: it comes to node n with these bytes
pub data Path (net : Net) : ℕ → List ℕ → ℕ → List ℕ → Type 0 where
  ends : {w n : ℕ} {body : List ℕ} (link : ℕ) → net.far w ≡ AtNode n link → Path net w body n body
  hops : {w n : ℕ} {body rest : List ℕ} (k link out : ℕ) (v : Option ℕ) (left : List ℕ) → net.far w ≡ AtSwitch k link → IsDrawn ((net.switch k).random link) v →
      BodyLeaves net k (spelled (behind v []) ++ body) out left → Path net out left n rest → Path net w body n rest

-- at node n these bytes are one of channel c's packets: a piece for its far end, or an acknowledge for its near one
abbrev pub ReachesEnd : Net → ℕ → Packet → ℕ → List ℕ → Type 0
ReachesEnd net c p n rest =
    ((load : List ℕ) × (last : Bool) × (n ≡ (net.chan c).to.node) × (rest ≡ spelled ((net.chan c).to.block ∷ []) ++ load) × (kind load p.mark ≡ Piece last))
    ⊎ ((load : List ℕ) × (n ≡ (net.chan c).from.node) × (rest ≡ spelled ((net.chan c).from.block ∷ []) ++ load) × (kind load p.mark ≡ Ack))

-- a path that a packet may take from where it stands, in a queue, on a way or in a switch
abbrev pub PathFrom : Net → Place × Packet → ℕ → List ℕ → Type 0
PathFrom net (Queue w, p) n rest = Path net w p.body n rest
PathFrom net (OnWire w, p) n rest = Path net w p.body n rest
PathFrom net (Inside w, p) n rest = (k link out : ℕ) × (left : List ℕ) × (net.far w ≡ AtSwitch k link) × BodyLeaves net k p.body out left × Path net out left n rest
PathFrom net (Held c, p) n rest = ⊥

-- whatever path a packet of channel c takes from where it stands, the node to which it comes is the channel's end
abbrev pub PathsReachEnds : Net → Type 0
PathsReachEnds net = (c n : ℕ) (x : Place × Packet) (rest : List ℕ) → BelongsTo net c x → PathFrom net x n rest → ReachesEnd net c x.1 n rest

-- after any list of steps no packet in a queue, on a way or in a switch is longer than the headers that may be on its way, and 32 bytes
abbrev pub PacketsAreShort : Net → Type 0
PacketsAreShort net = (most : ℕ) (es : List Event) (s : State) → IsAccepted net → HasHeaders net most → Run net start es s → (x : Place × Packet) → Contains (in_ways s net.ways) x → length x.1.body ≤ 2 * most + 32
