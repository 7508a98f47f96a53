-- The packet machine: nodes, ways and switches that move packets by steps of their own.
use Rattle.vc_packets.specs.Functions.{put}
use Rattle.std.specs.Prelude.{◌≡◌, ◌⊎◌, ℕ, suc, ◌<◌, Bool, true, false, List, [], ◌∷◌, ◌++◌, Option, Some, None, option_to_list}
use Rattle.vc_packets.specs.declared.packet.Packet.{Packet}
use Rattle.vc_packets.specs.Headers.{spelled}
use Rattle.vc_packets.specs.Pieces.{Pieces}
use Rattle.vc_packets.specs.Spellings.{piece_packet, ack_packet}
use Rattle.vc_packets.specs.declared.kind.Kind.TheVariants.{Ack, Piece}
use Rattle.vc_packets.specs.Kind.{kind}
use Rattle.vc_machine.specs.Paths.{Carries, AtNode, AtSwitch, Net, Leaves}
use Rattle.vc_switch.specs.Forward.{IsDrawn, behind, without_portals}
use Rattle.vc_labels.specs.Interval.{action_for}
use Rattle.vc_labels.specs.declared.action.Action.TheVariants.{Out as Group}
use Rattle.vc_machine.specs.Rendezvous.{View, Comm, Out, In, Fin, Stp, Does}

-- a switch's input: nothing, or one packet and the way that it is bound to leave by
pub data Input : Type 0 where
  Empty : Input
  Full : (packet : Packet) (bound : Option ℕ) → Input

-- what belongs to one way: the send queue at its near end, the packets on it, and the input at its far end
pub record WayState : Type 0 where
  pub queue : List Packet
  pub line : List Packet
  pub input : Input

-- the two halves of a channel
pub record ChanState : Type 0 where
  pub unacked : List (List ℕ)  -- the pieces not yet acknowledged, of which the first is under way; none where the output is idle
  pub offered : List (List ℕ)
  pub finished : ℕ
  pub wants : Bool  -- a process inputs
  pub stopped : Bool
  pub held : Option Packet
  pub stored : List ℕ  -- of the message that is arriving
  pub taken : List (List ℕ)

pub record State : Type 0 where
  pub ways : ℕ → WayState
  pub chans : ℕ → ChanState
  pub strays : ℕ
  pub lost : ℕ

abbrev pub start : State
start = record {
  ways = λ w. record { queue = []; line = []; input = Empty };
  chans = λ c. record { unacked = []; offered = []; finished = 0; wants = false; stopped = false; held = None; stored = []; taken = [] };
  strays = 0;
  lost = 0;
}

abbrev pub set_way : State → ℕ → WayState → State
set_way s w a = record s { ways = put s.ways w a }

abbrev pub set_chan : State → ℕ → ChanState → State
set_chan s c x = record s { chans = put s.chans c x }

-- a packet more at the end of a send queue
abbrev pub enqueue : State → ℕ → Packet → State
enqueue s w p = set_way s w (record (s.ways w) { queue = (s.ways w).queue ++ p ∷ [] })

-- the in half stores a piece: the last completes the message
abbrev pub store : ChanState → List ℕ → Bool → ChanState
store x load true = record x { held = None; wants = false; stored = []; taken = x.taken ++ (x.stored ++ load) ∷ [] }
store x load false = record x { held = None; wants = true; stored = x.stored ++ load }

-- the channel's in half stores the piece, and its acknowledge is queued
abbrev pub accept : Net → State → ℕ → List ℕ → Bool → State
accept net s c load last =
    enqueue (set_chan s c (store (s.chans c) load last)) (net.chan c).to.way (ack_packet (net.chan c).to.route)

-- an acknowledge came: the next piece is queued, or the output finishes
abbrev pub advance : Net → State → ℕ → List (List ℕ) → State
advance net s c [] = set_chan s c (record (s.chans c) { unacked = []; finished = suc (s.chans c).finished })
advance net s c (d ∷ later) =
    enqueue (set_chan s c (record (s.chans c) { unacked = d ∷ later })) (net.chan c).from.way (piece_packet (net.chan c).from.route (d ∷ later))

pub data Event : Type 0 where
  Offer : (chan : ℕ) (message : List ℕ) → Event
  Want : (chan : ℕ) → Event
  Choose : (chan : ℕ) → Event
  Stop : (chan : ℕ) → Event
  Send : (way : ℕ) → Event  -- a node's Put
  Receive : (way : ℕ) → Event  -- a node's Take
  Enter : (way : ℕ) (drawn : Option ℕ) → Event  -- a switch's Take
  Route : (way out : ℕ) → Event
  Leave : (way : ℕ) → Event  -- a switch's Put

-- the piece or the acknowledge p, at node n, is for channel c
pub record IsPieceFor (net : Net) (n : ℕ) (p : Packet) (c : ℕ) (load : List ℕ) (last : Bool) : Type 0 where
  pub real : Carries net c
  pub node : (net.chan c).to.node ≡ n
  pub body : p.body ≡ spelled ((net.chan c).to.block ∷ []) ++ load
  pub kind : kind load p.mark ≡ Piece last

pub record IsAckFor (net : Net) (n : ℕ) (p : Packet) (c : ℕ) : Type 0 where
  pub real : Carries net c
  pub node : (net.chan c).from.node ≡ n
  pub body : p.body ≡ spelled ((net.chan c).from.block ∷ [])
  pub kind : kind [] p.mark ≡ Ack

-- the half that the packet is for takes it
pub data IsTaken (net : Net) (s : State) (n : ℕ) (p : Packet) (t : State) : Type 0 where
  stores : (c : ℕ) (load : List ℕ) (last : Bool) → IsPieceFor net n p c load last → (s.chans c).wants ≡ true →
      t ≡ accept net s c load last → IsTaken net s n p t
  holds : (c : ℕ) (load : List ℕ) (last : Bool) → IsPieceFor net n p c load last → (s.chans c).wants ≡ false → (s.chans c).held ≡ None →
      t ≡ set_chan s c (record (s.chans c) { held = Some p }) → IsTaken net s n p t
  advances : (c : ℕ) (now : List ℕ) (later : List (List ℕ)) → IsAckFor net n p c → (s.chans c).unacked ≡ now ∷ later →
      t ≡ advance net s c later → IsTaken net s n p t

-- a packet reaches node n. What no half may take is dropped
pub data Reaches (net : Net) (s : State) (n : ℕ) (p : Packet) (t : State) : Type 0 where
  taken : IsTaken net s n p t → Reaches net s n p t
  stray : ((u : State) → IsTaken net s n p u → ⊥) → t ≡ record s { strays = suc s.strays } → Reaches net s n p t

-- the body b may leave switch n by way w, as the body d
pub record BodyLeaves (net : Net) (n : ℕ) (b : List ℕ) (w : ℕ) (d : List ℕ) : Type 0 where
  pub stack : List ℕ
  pub after : List ℕ
  pub rest : List ℕ
  pub before_is : b ≡ spelled stack ++ rest
  pub leaves : Leaves net n stack w after
  pub after_is : d ≡ spelled after ++ rest

-- behind portals the body b has a header with a group in switch n
pub record HasGroup (net : Net) (n : ℕ) (b : List ℕ) : Type 0 where
  pub stack : List ℕ
  pub rest : List ℕ
  pub header : ℕ
  pub behind_it : List ℕ
  pub first : ℕ
  pub last : ℕ
  pub is : b ≡ spelled stack ++ rest
  pub front : without_portals (net.switch n).table stack ≡ header ∷ behind_it
  pub group : action_for (net.switch n).table header ≡ Some (Group first last)

pub record Offers (net : Net) (s : State) (c : ℕ) (m : List ℕ) (t : State) : Type 0 where
  pub now : List ℕ
  pub later : List (List ℕ)
  pub real : Carries net c
  pub idle : (s.chans c).unacked ≡ []
  pub pieces : Pieces m (now ∷ later)
  pub after : t ≡ enqueue (set_chan s c (record (s.chans c) { unacked = now ∷ later; offered = (s.chans c).offered ++ m ∷ [] }))
      (net.chan c).from.way (piece_packet (net.chan c).from.route (now ∷ later))

-- a held piece is stored and acknowledged
pub record Fetches (net : Net) (s : State) (c : ℕ) (t : State) : Type 0 where
  pub packet : Packet
  pub load : List ℕ
  pub last : Bool
  pub held : (s.chans c).held ≡ Some packet
  pub piece : IsPieceFor net (net.chan c).to.node packet c load last
  pub after : t ≡ accept net s c load last

pub data Wants (net : Net) (s : State) (c : ℕ) (t : State) : Type 0 where
  fetches : Fetches net s c t → Wants net s c t
  waits : (s.chans c).held ≡ None → t ≡ set_chan s c (record (s.chans c) { wants = true }) → Wants net s c t

pub record IsOpen (net : Net) (s : State) (c : ℕ) : Type 0 where
  pub real : Carries net c
  pub idle : (s.chans c).wants ≡ false
  pub not_stopped : (s.chans c).stopped ≡ false

pub record Stops (net : Net) (s : State) (c : ℕ) (t : State) : Type 0 where
  pub real : Carries net c
  pub idle : (s.chans c).wants ≡ false
  pub after : t ≡ set_chan s c (record (s.chans c) { stopped = true })

pub record Sends (net : Net) (s : State) (w : ℕ) (t : State) : Type 0 where
  pub packet : Packet
  pub rest : List Packet
  pub node : ℕ
  pub link : ℕ
  pub real : w < net.ways
  pub near : net.near w ≡ AtNode node link
  pub front : (s.ways w).queue ≡ packet ∷ rest
  pub after : t ≡ set_way s w (record (s.ways w) { queue = rest; line = (s.ways w).line ++ packet ∷ [] })

pub record Receives (net : Net) (s : State) (w : ℕ) (t : State) : Type 0 where
  pub packet : Packet
  pub rest : List Packet
  pub node : ℕ
  pub link : ℕ
  pub real : w < net.ways
  pub far : net.far w ≡ AtNode node link
  pub front : (s.ways w).line ≡ packet ∷ rest
  pub after : Reaches net (set_way s w (record (s.ways w) { line = rest })) node packet t

-- what becomes of a packet that a switch takes
pub data Settles (net : Net) (s : State) (n w : ℕ) (rest : List Packet) (p : Packet) (t : State) : Type 0 where
  fills : HasGroup net n p.body → t ≡ set_way s w (record (s.ways w) { line = rest; input = Full p None }) → Settles net s n w rest p t
  lost : (HasGroup net n p.body → ⊥) →
      t ≡ record s { ways = put s.ways w (record (s.ways w) { line = rest }); lost = suc s.lost } → Settles net s n w rest p t

pub record Enters (net : Net) (s : State) (w : ℕ) (drawn : Option ℕ) (t : State) : Type 0 where
  pub packet : Packet
  pub rest : List Packet
  pub switch : ℕ
  pub link : ℕ
  pub real : w < net.ways
  pub far : net.far w ≡ AtSwitch switch link
  pub draw : IsDrawn ((net.switch switch).random link) drawn
  pub front : (s.ways w).line ≡ packet ∷ rest
  pub free : (s.ways w).input ≡ Empty
  pub after : Settles net s switch w rest (record packet { body = spelled (behind drawn []) ++ packet.body }) t

pub record Routes (net : Net) (s : State) (w out : ℕ) (t : State) : Type 0 where
  pub packet : Packet
  pub body : List ℕ
  pub switch : ℕ
  pub link : ℕ
  pub real : w < net.ways
  pub far : net.far w ≡ AtSwitch switch link
  pub full : (s.ways w).input ≡ Full packet None
  pub group : BodyLeaves net switch packet.body out body
  pub free : (v : ℕ) (p : Packet) → v < net.ways → (s.ways v).input ≡ Full p (Some out) → ⊥
  pub after : t ≡ set_way s w (record (s.ways w) { input = Full packet (Some out) })

-- the input is emptied first: a way may lead from a switch to itself
abbrev pub emptied : State → ℕ → State
emptied s w = set_way s w (record (s.ways w) { input = Empty })

abbrev pub carry : State → ℕ → Packet → State
carry s w p = set_way s w (record (s.ways w) { line = (s.ways w).line ++ p ∷ [] })

pub record Departs (net : Net) (s : State) (w : ℕ) (t : State) : Type 0 where
  pub packet : Packet
  pub out : ℕ
  pub body : List ℕ
  pub switch : ℕ
  pub link : ℕ
  pub real : w < net.ways
  pub far : net.far w ≡ AtSwitch switch link
  pub full : (s.ways w).input ≡ Full packet (Some out)
  pub leaves : BodyLeaves net switch packet.body out body
  pub after : t ≡ carry (emptied s w) out (record packet { body = body })

abbrev pub Step : Net → State → Event → State → Type 0
Step net s (Offer c m) t = Offers net s c m t
Step net s (Want c) t = IsOpen net s c × Wants net s c t
Step net s (Choose c) t = IsOpen net s c × Fetches net s c t
Step net s (Stop c) t = Stops net s c t
Step net s (Send w) t = Sends net s w t
Step net s (Receive w) t = Receives net s w t
Step net s (Enter w drawn) t = Enters net s w drawn t
Step net s (Route w out) t = Routes net s w out t
Step net s (Leave w) t = Departs net s w t

abbrev pub Run : Net → State → List Event → State → Type 0
Run net s [] t = t ≡ s
Run net s (e ∷ es) t = (u : State) × Step net s e u × Run net u es t

-- what a channel shows
abbrev pub view_of : ChanState → View
view_of x = record { offered = x.offered; taken = x.taken; finished = x.finished; stopped = x.stopped }

abbrev pub view : State → ℕ → View
view s c = view_of (s.chans c)

-- what one event may tell: nothing, or one communication on one channel
abbrev pub MayTell : Event → Option (ℕ × Comm) → Type 0
MayTell (Offer c m) o = o ≡ Some (c, Out m)
MayTell (Want c) o = (o ≡ None) ⊎ ((m : List ℕ) × (o ≡ Some (c, In m)))
MayTell (Choose c) o = (o ≡ None) ⊎ ((m : List ℕ) × (o ≡ Some (c, In m)))
MayTell (Stop c) o = o ≡ Some (c, Stp)
MayTell (Receive w) o = (o ≡ None) ⊎ (((c : ℕ) × (m : List ℕ) × (o ≡ Some (c, In m))) ⊎ ((c : ℕ) × (o ≡ Some (c, Fin))))
MayTell (Send w) o = o ≡ None
MayTell (Enter w drawn) o = o ≡ None
MayTell (Route w out) o = o ≡ None
MayTell (Leave w) o = o ≡ None

-- and it is told exactly where the channel's view makes that step, the other views staying as they are
abbrev pub Shows : State → Option (ℕ × Comm) → State → Type 0
Shows s None t = (c : ℕ) → view t c ≡ view s c
Shows s (Some (c, k)) t = Does (view s c) k (view t c) × ((d : ℕ) → (d ≡ c → ⊥) → view t d ≡ view s d)

abbrev pub Tells : State → Event → Option (ℕ × Comm) → State → Type 0
Tells s e o t = Shows s o t × MayTell e o

-- a run, and the one list of all its communications
abbrev pub RunTells : Net → State → List Event → List (ℕ × Comm) → State → Type 0
RunTells net s [] ks t = (ks ≡ []) × (t ≡ s)
RunTells net s (e ∷ es) ks t =
    (u : State) × (o : Option (ℕ × Comm)) × (rest : List (ℕ × Comm)) × Step net s e u × Tells s e o u × (ks ≡ option_to_list o ++ rest) × RunTells net u es rest t
