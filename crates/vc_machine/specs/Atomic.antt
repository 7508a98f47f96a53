-- One step is one actor's: it takes one token off a wire to it, or puts one on a wire from it, or neither, and changes its own link ends only.
use Rattle.std.specs.Prelude.{◌≡◌, ℕ, List, [], ◌∷◌, ◌++◌}
use Rattle.vc_machine.specs.Paths.{Carries, Port, AtNode, AtSwitch, Net}
use Rattle.vc_machine.specs.Machine.{State, ChanState, Event, Offer, Want, Choose, Stop, Send, Receive, Enter, Leave}
use Rattle.vc_packets.specs.Functions.{put}
use Rattle.vc_tokens.specs.Tokens.{Token}
use Rattle.vc_machine.specs.Links.{Tokens}
use Rattle.vc_switch.specs.Waiting.{Waiting}
use Rattle.vc_machine.specs.TokenMachine.{TokenEvent, Proc, Take, Pass, Put, PutFct, Route, TokenStep}
use Rattle.vc_machine.specs.View.{Bindings}

-- two ports of one node or of one switch
abbrev pub SameActor : Port → Port → Type 0
SameActor (AtNode n i) (AtNode m j) = n ≡ m
SameActor (AtSwitch n i) (AtSwitch m j) = n ≡ m
SameActor (AtNode n i) (AtSwitch m j) = ⊥
SameActor (AtSwitch n i) (AtNode m j) = ⊥

-- what a step does on the wires
pub data OnWires (net : Net) (p : Port) (t u : Tokens) : Type 0 where
  neither : u.wire ≡ t.wire → OnWires net p t u
  takes_one : (w : ℕ) (k : Token) (rest : List Token) → net.far w ≡ p → t.wire w ≡ k ∷ rest → u.wire ≡ put t.wire w rest → OnWires net p t u
  puts_one : (w : ℕ) (k : Token) → net.near w ≡ p → u.wire ≡ put t.wire w (t.wire w ++ k ∷ []) → OnWires net p t u

-- the half that outputs, and the half that inputs
pub record SameOut (x y : ChanState) : Type 0 where
  pub unacked : y.unacked ≡ x.unacked
  pub offered : y.offered ≡ x.offered
  pub finished : y.finished ≡ x.finished

pub record SameIn (x y : ChanState) : Type 0 where
  pub wants : y.wants ≡ x.wants
  pub stopped : y.stopped ≡ x.stopped
  pub held : y.held ≡ x.held
  pub stored : y.stored ≡ x.stored
  pub taken : y.taken ≡ x.taken

-- the same queues and halves at the node
pub record SameNode (net : Net) (n : ℕ) (s v : State) : Type 0 where
  pub queues : (w i : ℕ) → net.near w ≡ AtNode n i → (v.ways w).queue ≡ (s.ways w).queue
  pub outs : (c : ℕ) → (net.chan c).from.node ≡ n → SameOut (s.chans c) (v.chans c)
  pub ins : (c : ℕ) → (net.chan c).to.node ≡ n → SameIn (s.chans c) (v.chans c)

-- one actor's step: other actors keep their link ends, queues and halves
pub record IsAtomic (net : Net) (p : Port) (t u : Tokens) : Type 0 where
  pub wires : OnWires net p t u
  pub senders : (w : ℕ) → (SameActor (net.near w) p → ⊥) → u.sender w ≡ t.sender w
  pub receivers : (w : ℕ) → (SameActor (net.far w) p → ⊥) → u.receiver w ≡ t.receiver w
  pub nodes : (n i : ℕ) → (SameActor (AtNode n i) p → ⊥) → SameNode net n t.nodes u.nodes

-- the same link ends, queues and halves at the port's actor
pub record SameHere (net : Net) (p : Port) (t u : Tokens) : Type 0 where
  pub senders : (w : ℕ) → SameActor (net.near w) p → u.sender w ≡ t.sender w
  pub receivers : (w : ℕ) → SameActor (net.far w) p → u.receiver w ≡ t.receiver w
  pub node : (n i : ℕ) → p ≡ AtNode n i → SameNode net n t.nodes u.nodes

-- the node whose process makes the event
abbrev pub IsProcAt : Net → Event → ℕ → Type 0
IsProcAt net (Offer c m) n = (net.chan c).from.node ≡ n
IsProcAt net (Want c) n = (net.chan c).to.node ≡ n
IsProcAt net (Choose c) n = (net.chan c).to.node ≡ n
IsProcAt net (Stop c) n = (net.chan c).to.node ≡ n
IsProcAt net (Send w) n = ⊥
IsProcAt net (Receive w) n = ⊥
IsProcAt net (Enter w drawn) n = ⊥
IsProcAt net (Event.Route w out) n = ⊥
IsProcAt net (Leave w) n = ⊥

abbrev pub Acts : Net → TokenEvent → Port → Type 0
Acts net (Proc e) p = (n : ℕ) × (i : ℕ) × (p ≡ AtNode n i) × IsProcAt net e n
Acts net (Take w word) p = p ≡ net.far w
Acts net (Pass w) p = p ≡ net.far w
Acts net (Put w) p = p ≡ net.near w
Acts net (PutFct w) p = p ≡ net.far w
Acts net (Route w out) p = p ≡ net.far w

-- what a take finds
abbrev pub SameFront : TokenEvent → Tokens → Tokens → Type 0
SameFront (Take w word) t u = (k : Token) (rest : List Token) → t.wire w ≡ k ∷ rest → (more : List Token) × (u.wire w ≡ k ∷ more)
SameFront (Proc e) t u = Unit {0}
SameFront (Pass w) t u = Unit {0}
SameFront (Put w) t u = Unit {0}
SameFront (PutFct w) t u = Unit {0}
SameFront (Route w out) t u = Unit {0}

-- a step of an actor can be made wherever its own parts are the same, and they are the same after it
abbrev pub StepsAreLocal : Net → (ℕ → ℕ) → Waiting → Type 0
StepsAreLocal net back waiting =
    (t t2 : Tokens) (e : TokenEvent) (u : Tokens) (p : Port) → Acts net e p → SameHere net p t t2 → SameFront e t t2 → Bindings net t2 →
    TokenStep net back waiting t e u → (u2 : Tokens) × TokenStep net back waiting t2 e u2 × SameHere net p u u2

-- each end of a channel sends by a way from its own node
pub record Homes (net : Net) : Type 0 where
  pub there : (c : ℕ) → Carries net c → (i : ℕ) × (net.near (net.chan c).from.way ≡ AtNode (net.chan c).from.node i)
  pub back : (c : ℕ) → Carries net c → (i : ℕ) × (net.near (net.chan c).to.way ≡ AtNode (net.chan c).to.node i)

abbrev pub StepsAreAtomic : Net → (ℕ → ℕ) → Waiting → Type 0
StepsAreAtomic net back waiting =
    (t : Tokens) (e : TokenEvent) (u : Tokens) (p : Port) → Acts net e p → TokenStep net back waiting t e u → IsAtomic net p t u
