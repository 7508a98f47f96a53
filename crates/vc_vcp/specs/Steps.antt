-- The steps of a node's halves and send queues.
use Rattle.vc_packets.specs.Counters.{one_more}
use Rattle.std.specs.Prelude.{◌≡◌, ℕ, suc, Bool, true, false, List, [], ◌∷◌, ◌++◌, Option, Some, None}
use Rattle.vc_packets.specs.declared.packet.Packet.{Packet}
use Rattle.vc_packets.specs.Headers.{spelled}
use Rattle.vc_packets.specs.Pieces.{Pieces}
use Rattle.vc_packets.specs.Spellings.{piece_packet, ack_packet}
use Rattle.vc_packets.specs.declared.kind.Kind.TheVariants.{Ack, Piece}
use Rattle.vc_packets.specs.Kind.{kind}
use Rattle.vc_vcp.specs.Carrier.{End, Ends, InHalf, Carrier, set_out, set_in, enqueue}

-- the half that inputs stores a piece: the last completes the message
abbrev pub store : InHalf → List ℕ → Bool → InHalf
store x load true = record x { held = None; wants = false; stored = []; taken = x.taken ++ (x.stored ++ load) ∷ [] }
store x load false = record x { held = None; wants = true; stored = x.stored ++ load }

-- the message that the piece completes
abbrev pub message : InHalf → List ℕ → Bool → Option (List ℕ)
message x load true = Some (x.stored ++ load)
message x load false = None

-- the piece is stored, and its acknowledge queued
abbrev pub accept : Carrier → ℕ → End → List ℕ → Bool → Carrier
accept s c end load last = enqueue (set_in s c (store (s.into c) load last)) end.link (ack_packet end.route)

-- an acknowledge came, and these pieces are left: the next is queued, or the output is finished
abbrev pub advance : Carrier → ℕ → End → List (List ℕ) → Carrier
advance s c end [] = set_out s c (record (s.out c) { unacked = []; finished = suc (s.out c).finished })
advance s c end (d ∷ later) = enqueue (set_out s c (record (s.out c) { unacked = d ∷ later })) end.link (piece_packet end.route (d ∷ later))

-- the packet is a piece for this end
pub record IsPieceFor (end : End) (p : Packet) (load : List ℕ) (last : Bool) : Type 0 where
  pub body : p.body ≡ spelled (end.block ∷ []) ++ load
  pub kind : kind load p.mark ≡ Piece last

-- the packet is an acknowledge for this end
pub record IsAckFor (end : End) (p : Packet) : Type 0 where
  pub body : p.body ≡ spelled (end.block ∷ [])
  pub kind : kind [] p.mark ≡ Ack

-- an output begins: the first piece is queued
pub record Offers (ends : Ends) (old : Carrier) (c : ℕ) (m : List ℕ) (new : Carrier) : Type 0 where
  pub end : End
  pub now : List ℕ
  pub later : List (List ℕ)
  pub here : ends.output c ≡ Some end
  pub idle : (old.out c).unacked ≡ []
  pub pieces : Pieces m (now ∷ later)
  pub after : new ≡ enqueue (set_out old c (record (old.out c) { unacked = now ∷ later; offered = (old.out c).offered ++ m ∷ [] })) end.link (piece_packet end.route (now ∷ later))

-- no input waits on the channel here, and it isn't stopped
pub record IsOpen (ends : Ends) (old : Carrier) (c : ℕ) (end : End) : Type 0 where
  pub here : ends.input c ≡ Some end
  pub idle : (old.into c).wants ≡ false
  pub not_stopped : (old.into c).stopped ≡ false

-- the held piece is stored, and is the answer where it completes the message
pub record Fetches (old : Carrier) (c : ℕ) (end : End) (answer : Option (List ℕ)) (new : Carrier) : Type 0 where
  pub packet : Packet
  pub load : List ℕ
  pub last : Bool
  pub held : (old.into c).held ≡ Some packet
  pub piece : IsPieceFor end packet load last
  pub answer_is : answer ≡ message (old.into c) load last
  pub after : new ≡ accept old c end load last

-- an input takes the held piece, or waits
pub data Wants (old : Carrier) (c : ℕ) (end : End) (answer : Option (List ℕ)) (new : Carrier) : Type 0 where
  fetches : Fetches old c end answer new → Wants old c end answer new
  waits : (old.into c).held ≡ None → answer ≡ None → new ≡ set_in old c (record (old.into c) { wants = true }) → Wants old c end answer new

-- nothing more is taken on the channel
pub record Stops (ends : Ends) (old : Carrier) (c : ℕ) (new : Carrier) : Type 0 where
  pub end : End
  pub here : ends.input c ≡ Some end
  pub idle : (old.into c).wants ≡ false
  pub after : new ≡ set_in old c (record (old.into c) { stopped = true })

-- what became of a packet that arrived
pub data Taken : Type 0 where
  Held : (chan : ℕ) → Taken
  Stored : (chan : ℕ) → Taken
  Complete : (chan : ℕ) (message : List ℕ) → Taken  -- stored, and its message is whole
  More : (chan : ℕ) → Taken  -- an acknowledge: the next piece is queued
  Finished : (chan : ℕ) → Taken  -- an acknowledge: the output is finished
  Stray : Taken

abbrev pub taken_by : ℕ → Option (List ℕ) → Taken
taken_by c (Some m) = Complete c m
taken_by c None = Stored c

abbrev pub acked_by : ℕ → List (List ℕ) → Taken
acked_by c [] = Finished c
acked_by c (d ∷ later) = More c

-- the half that the packet is for takes it
pub data IsTaken (ends : Ends) (old : Carrier) (p : Packet) (taken : Taken) (new : Carrier) : Type 0 where
  stores : (c : ℕ) (end : End) (load : List ℕ) (last : Bool) → ends.input c ≡ Some end → IsPieceFor end p load last → (old.into c).wants ≡ true →
      taken ≡ taken_by c (message (old.into c) load last) → new ≡ accept old c end load last → IsTaken ends old p taken new
  holds : (c : ℕ) (end : End) (load : List ℕ) (last : Bool) → ends.input c ≡ Some end → IsPieceFor end p load last → (old.into c).wants ≡ false →
      (old.into c).held ≡ None → taken ≡ Held c → new ≡ set_in old c (record (old.into c) { held = Some p }) → IsTaken ends old p taken new
  advances : (c : ℕ) (end : End) (now : List ℕ) (later : List (List ℕ)) → ends.output c ≡ Some end → IsAckFor end p → (old.out c).unacked ≡ now ∷ later →
      taken ≡ acked_by c later → new ≡ advance old c end later → IsTaken ends old p taken new

-- A packet arrives. What no half may take is dropped.
pub data Arrives (ends : Ends) (old : Carrier) (p : Packet) (taken : Taken) (new : Carrier) : Type 0 where
  takes : IsTaken ends old p taken new → Arrives ends old p taken new
  stray : ((t : Taken) (s : Carrier) → IsTaken ends old p t s → ⊥) → taken ≡ Stray → new ≡ record old { strays = one_more old.strays } → Arrives ends old p taken new
