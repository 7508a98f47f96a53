-- What state of the packet machine a state of the token machine stands for.
use Rattle.std.specs.Prelude.{◌≡◌, ℕ, ◌+◌, ◌*◌, ◌≤◌, ◌<◌, List, [], ◌++◌, length, Option, Some, None}
use Rattle.vc_packets.specs.declared.mark.Mark.{Mark}
use Rattle.vc_packets.specs.declared.packet.Packet.{Packet}
use Rattle.vc_packets.specs.Headers.{spelled}
use Rattle.vc_machine.specs.Paths.{Port, AtNode, AtSwitch, Net}
use Rattle.vc_switch.specs.Forward.{IsDrawn, behind}
use Rattle.vc_machine.specs.Machine.{State, WayState, Input, Empty, Full, BodyLeaves, Event, Enter, Step}
use Rattle.vc_tokens.specs.Tokens.{Token, bytes, Spells, without_fcts, fcts}
use Rattle.vc_credit.specs.Ends.{Sender}
use Rattle.vc_machine.specs.Links.{Receiver, Tokens}

-- the header that may be put in front at this end of a way
abbrev pub MayDraw : Net → Port → Option ℕ → Type 0
MayDraw net (AtNode n i) drawn = drawn ≡ None
MayDraw net (AtSwitch n i) drawn = IsDrawn ((net.switch n).random i) drawn

-- the bytes got are those passed on of a packet, behind the header put in front with the first
pub data Got (net : Net) (p : Port) (got passed : List ℕ) : Type 0 where
  nothing : got ≡ [] → passed ≡ [] → Got net p got passed
  begun : (drawn : Option ℕ) → MayDraw net p drawn → (passed ≡ [] → ⊥) → got ≡ spelled (behind drawn []) ++ passed → Got net p got passed

-- what has been passed on of a packet whose mark has not, and the input of a switch: a packet stands where its mark stands
pub data Inside (net : Net) (p : Port) (got : List ℕ) (mark : Option Mark) (bound : Option ℕ) (passed : List ℕ) (input : Input) : Type 0 where
  without_mark : mark ≡ None → Got net p got passed → input ≡ Empty → Inside net p got mark bound passed input
  with_mark : (n i : ℕ) (m : Mark) → p ≡ AtSwitch n i → mark ≡ Some m → passed ≡ [] →
      input ≡ Full (record { body = got; mark = m }) bound → Inside net p got mark bound passed input

-- a way's stream: the bytes passed on, the buffer, and the wire
abbrev pub stream : List ℕ → List Token → List Token → List Token
stream passed buffer wire = bytes passed ++ (buffer ++ without_fcts wire)

-- the tokens of one way stand for its packets
pub record StandsFor (net : Net) (p : Port) (queue : List Packet) (a : Sender) (wire : List Token) (r : Receiver) (x : WayState) : Type 0 where
  pub passed : List ℕ
  pub same_queue : x.queue ≡ queue
  pub line : Spells (stream passed r.buffer wire) x.line a.sent
  pub inside : Inside net p r.got r.mark r.bound passed x.input

-- the state of the packet machine that the tokens stand for
pub record TokenView (net : Net) (t : Tokens) (s : State) : Type 0 where
  pub ways : (w : ℕ) → StandsFor net (net.far w) (t.nodes.ways w).queue (t.sender w) (t.wire w) (t.receiver w) (s.ways w)
  pub chans : s.chans ≡ t.nodes.chans
  pub strays : s.strays ≡ t.nodes.strays
  pub lost : s.lost ≡ t.nodes.lost

-- only what has a group is bound
pub record BoundGroup (net : Net) (p : Port) (got : List ℕ) (out : ℕ) : Type 0 where
  pub switch : ℕ
  pub link : ℕ
  pub body : List ℕ
  pub far : p ≡ AtSwitch switch link
  pub group : BodyLeaves net switch got out body

-- no two inputs are bound to one output, and what is bound may leave by it
pub record Bindings (net : Net) (t : Tokens) : Type 0 where
  pub group : (w out : ℕ) → (t.receiver w).bound ≡ Some out → BoundGroup net (net.far w) (t.receiver w).got out
  pub one : (v w out : ℕ) → v < net.ways → w < net.ways → (t.receiver v).bound ≡ Some out → (t.receiver w).bound ≡ Some out → v ≡ w

-- the tokens of one way, whose FCTs come back on another wire
abbrev pub IsWithinCredit : Sender → List Token → List Token → Receiver → Type 0
IsWithinCredit a back wire r = a.credit + 8 * fcts back + length (without_fcts wire) + length r.buffer ≤ 16

-- no step, one step, or Enter and then Route lead from s to what u stands for
pub data AtMostTwo (net : Net) (s : State) (u : Tokens) : Type 0 where
  stays : TokenView net u s → AtMostTwo net s u
  moves : (e : Event) (v : State) → Step net s e v → TokenView net u v → AtMostTwo net s u
  enters_bound : (w out : ℕ) (drawn : Option ℕ) (v x : State) → Step net s (Enter w drawn) v → Step net v (Event.Route w out) x → TokenView net u x → AtMostTwo net s u
