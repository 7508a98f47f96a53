-- The token machine: each step takes, passes or puts one token.
use Rattle.vc_switch.specs.Switch.{drawn, headed}
use Rattle.vc_switch.specs.Waiting.{Waiting, MayGo}
use Rattle.std.specs.Prelude.{◌≡◌, ℕ, suc, ◌+◌, ◌-◌, ◌≤◌, ◌<◌, List, [], ◌∷◌, ◌++◌, length, Some, None}
use Rattle.vc_packets.specs.declared.mark.Mark.{Mark}
use Rattle.vc_packets.specs.declared.packet.Packet.{Packet}
use Rattle.vc_machine.specs.Paths.{AtNode, AtSwitch, Net}
use Rattle.vc_machine.specs.Machine.{State, Event, Offer, Want, Choose, Stop, Send, Receive, Enter, Leave, Step, Reaches, HasGroup, BodyLeaves, set_way}
use Rattle.vc_tokens.specs.Tokens.{Token, Byte, Fct, EndMark}
use Rattle.vc_machine.specs.Links.{Receiver, Tokens, set_sender, set_wire, set_receiver}

pub data TokenEvent : Type 0 where
  Proc : (event : Event) → TokenEvent
  Take : (way word : ℕ) → TokenEvent
  Pass : (way : ℕ) → TokenEvent
  Put : (way : ℕ) → TokenEvent
  PutFct : (way : ℕ) → TokenEvent  -- grants eight places for the way; the FCT goes back
  Route : (way out : ℕ) → TokenEvent  -- of a switch

-- the events of processes
abbrev pub IsProc : Event → Type 0
IsProc (Offer c m) = Unit {0}
IsProc (Want c) = Unit {0}
IsProc (Choose c) = Unit {0}
IsProc (Stop c) = Unit {0}
IsProc (Send w) = ⊥
IsProc (Receive w) = ⊥
IsProc (Enter w drawn) = ⊥
IsProc (Event.Route w out) = ⊥
IsProc (Leave w) = ⊥

-- a token comes: an FCT is credit for the way back, all else goes to the buffer
abbrev pub arrive : (ℕ → ℕ) → Tokens → ℕ → ℕ → Token → Tokens
arrive back t w word Fct =
    set_sender (set_receiver t w (record (t.receiver w) { word = word })) (back w)
    (record (t.sender (back w)) { credit = (t.sender (back w)).credit + 8 })
arrive back t w word (Byte b) =
    set_receiver t w (record (t.receiver w) { buffer = (t.receiver w).buffer ++ Byte b ∷ []; promised = (t.receiver w).promised - 1; word = word })
arrive back t w word (EndMark m) =
    set_receiver t w (record (t.receiver w) { buffer = (t.receiver w).buffer ++ EndMark m ∷ []; promised = (t.receiver w).promised - 1; word = word })

pub record Takes (net : Net) (back : ℕ → ℕ) (t : Tokens) (w word : ℕ) (u : Tokens) : Type 0 where
  pub token : Token
  pub rest : List Token
  pub real : w < net.ways
  pub front : t.wire w ≡ token ∷ rest
  pub after : u ≡ arrive back (set_wire t w rest) w word token

-- the bytes got, with the random header in front before the first token
abbrev pub with_header : Net → ℕ → ℕ → Receiver → List ℕ
with_header net n i r = headed (drawn ((net.switch n).random i) r.word) r.got

-- the mark of these bytes passes at a switch: the packet is kept, or it has no group and is lost
pub data Closes (net : Net) (t : Tokens) (n w : ℕ) (got : List ℕ) (m : Mark) (rest : List Token) (u : Tokens) : Type 0 where
  keeps : HasGroup net n got →
      u ≡ set_receiver t w (record (t.receiver w) { buffer = rest; got = got; mark = Some m }) → Closes net t n w got m rest u
  loses : (HasGroup net n got → ⊥) →
      u ≡ record (set_receiver t w (record (t.receiver w) { buffer = rest; got = [] })) { nodes = record t.nodes { lost = suc t.nodes.lost } } → Closes net t n w got m rest u

-- a token passes on from the buffer of way w
pub data Passes (net : Net) (t : Tokens) (w : ℕ) (u : Tokens) : Type 0 where
  node_byte : (n i b : ℕ) (rest : List Token) → net.far w ≡ AtNode n i → (t.receiver w).buffer ≡ Byte b ∷ rest →
      u ≡ set_receiver t w (record (t.receiver w) { buffer = rest; got = (t.receiver w).got ++ b ∷ [] }) → Passes net t w u
  node_mark : (n i : ℕ) (m : Mark) (rest : List Token) (v : State) → net.far w ≡ AtNode n i → (t.receiver w).buffer ≡ EndMark m ∷ rest →
      Reaches net t.nodes n (record { body = (t.receiver w).got; mark = m }) v →
      u ≡ record (set_receiver t w (record (t.receiver w) { buffer = rest; got = [] })) { nodes = v } → Passes net t w u
  switch_byte : (n i b : ℕ) (rest : List Token) → net.far w ≡ AtSwitch n i → (t.receiver w).mark ≡ None → (t.receiver w).buffer ≡ Byte b ∷ rest →
      u ≡ set_receiver t w (record (t.receiver w) { buffer = rest; got = with_header net n i (t.receiver w) ++ b ∷ [] }) → Passes net t w u
  switch_mark : (n i : ℕ) (m : Mark) (rest : List Token) → net.far w ≡ AtSwitch n i → (t.receiver w).mark ≡ None → (t.receiver w).buffer ≡ EndMark m ∷ rest →
      Closes net t n w (with_header net n i (t.receiver w)) m rest u → Passes net t w u

abbrev pub put_byte : Tokens → ℕ → ℕ → Tokens
put_byte t w b =
    set_wire (set_sender t w (record { sent = (t.sender w).sent ++ b ∷ []; credit = (t.sender w).credit - 1 })) w (t.wire w ++ Byte b ∷ [])

abbrev pub put_mark : Tokens → ℕ → Mark → Tokens
put_mark t w m =
    set_wire (set_sender t w (record { sent = []; credit = (t.sender w).credit - 1 })) w (t.wire w ++ EndMark m ∷ [])

-- the input at the end of way v is bound to leave switch n by way w, so far with the bytes d
pub record IsBoundTo (net : Net) (waiting : Waiting) (t : Tokens) (n v w : ℕ) (d : List ℕ) : Type 0 where
  pub real : v < net.ways
  pub link : ℕ
  pub far : net.far v ≡ AtSwitch n link
  pub bound : (t.receiver v).bound ≡ Some w
  pub leaves : BodyLeaves net n (t.receiver v).got w d
  pub may_go : MayGo waiting (t.receiver v).mark

-- the input and its output are free again
abbrev pub released : Tokens → ℕ → Tokens
released t v = set_receiver t v (record (t.receiver v) { got = []; mark = None; bound = None })

-- a token of the packet that is being put on way w
pub data Puts (net : Net) (waiting : Waiting) (t : Tokens) (w : ℕ) (u : Tokens) : Type 0 where
  node_byte : (n i : ℕ) (p : Packet) (rest : List Packet) (b : ℕ) (more : List ℕ) → net.near w ≡ AtNode n i → (t.nodes.ways w).queue ≡ p ∷ rest →
      p.body ≡ (t.sender w).sent ++ b ∷ more → u ≡ put_byte t w b → Puts net waiting t w u
  node_mark : (n i : ℕ) (p : Packet) (rest : List Packet) → net.near w ≡ AtNode n i → (t.nodes.ways w).queue ≡ p ∷ rest →
      p.body ≡ (t.sender w).sent →
      u ≡ record (put_mark t w p.mark) { nodes = set_way t.nodes w (record (t.nodes.ways w) { queue = rest }) } → Puts net waiting t w u
  switch_byte : (n v : ℕ) (d : List ℕ) (b : ℕ) (more : List ℕ) → IsBoundTo net waiting t n v w d →
      d ≡ (t.sender w).sent ++ b ∷ more → u ≡ put_byte t w b → Puts net waiting t w u
  switch_mark : (n v : ℕ) (d : List ℕ) (m : Mark) → IsBoundTo net waiting t n v w d → (t.receiver v).mark ≡ Some m →
      d ≡ (t.sender w).sent → u ≡ put_mark (released t v) w m → Puts net waiting t w u

-- eight places of way w's buffer are free and not promised
pub record Grants (net : Net) (back : ℕ → ℕ) (t : Tokens) (w : ℕ) (u : Tokens) : Type 0 where
  pub real : w < net.ways
  pub room : length (t.receiver w).buffer + (t.receiver w).promised + 8 ≤ 16
  pub after : u ≡ set_wire (set_receiver t w (record (t.receiver w) { promised = (t.receiver w).promised + 8 })) (back w) (t.wire (back w) ++ Fct ∷ [])

pub record Binds (net : Net) (waiting : Waiting) (t : Tokens) (w out : ℕ) (u : Tokens) : Type 0 where
  pub body : List ℕ
  pub switch : ℕ
  pub link : ℕ
  pub real : w < net.ways
  pub far : net.far w ≡ AtSwitch switch link
  pub unbound : (t.receiver w).bound ≡ None
  pub group : BodyLeaves net switch (t.receiver w).got out body
  pub may_go : MayGo waiting (t.receiver w).mark
  pub free : (v : ℕ) → v < net.ways → (t.receiver v).bound ≡ Some out → ⊥
  pub after : u ≡ set_receiver t w (record (t.receiver w) { bound = Some out })

abbrev pub TokenStep : Net → (ℕ → ℕ) → Waiting → Tokens → TokenEvent → Tokens → Type 0
TokenStep net back waiting t (Proc e) u = IsProc e × ((v : State) × Step net t.nodes e v × (u ≡ record t { nodes = v }))
TokenStep net back waiting t (Take w word) u = Takes net back t w word u
TokenStep net back waiting t (Pass w) u = (w < net.ways) × Passes net t w u
TokenStep net back waiting t (Put w) u = (w < net.ways) × (0 < (t.sender w).credit) × Puts net waiting t w u
TokenStep net back waiting t (PutFct w) u = Grants net back t w u
TokenStep net back waiting t (Route w out) u = Binds net waiting t w out u

abbrev pub TokenRun : Net → (ℕ → ℕ) → Waiting → Tokens → List TokenEvent → Tokens → Type 0
TokenRun net back waiting t [] u = u ≡ t
TokenRun net back waiting t (e ∷ es) u = (v : Tokens) × TokenStep net back waiting t e v × TokenRun net back waiting v es u
