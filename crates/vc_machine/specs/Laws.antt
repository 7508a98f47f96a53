-- What the token machine keeps, in the words of the packet machine.
use Rattle.std.specs.Prelude.{◌≡◌, ℕ, ◌+◌, ◌*◌, ◌≤◌, ◌<◌, List, [], ◌∷◌, length, Option, Some}
use Rattle.vc_packets.specs.declared.mark.Mark.{Mark}
use Rattle.vc_packets.specs.declared.packet.Packet.{Packet}
use Rattle.vc_machine.specs.Paths.{Carries, AtNode, Net, IsAccepted}
use Rattle.vc_switch.specs.Forward.{IsDrawn}
use Rattle.vc_machine.specs.Machine.{State, Event, Run, start}
use Rattle.vc_tokens.specs.Tokens.{Token, Fct, Whole, without_fcts}
use Rattle.vc_machine.specs.Links.{Tokens, no_tokens}
use Rattle.vc_switch.specs.Waiting.{Waiting}
use Rattle.vc_machine.specs.TokenMachine.{TokenEvent, Put, IsBoundTo, TokenStep, TokenRun}
use Rattle.vc_machine.specs.View.{TokenView, stream, Bindings, AtMostTwo, IsWithinCredit}

-- each range of a random header holds a value
abbrev pub Ranges : Net → Type 0
Ranges net = (n i : ℕ) → (v : Option ℕ) × IsDrawn ((net.switch n).random i) v

-- each step of the token machine is at most two steps of the packet machine
abbrev pub StepsAreSteps : Net → (ℕ → ℕ) → Waiting → Type 0
StepsAreSteps net back waiting =
    (t : Tokens) (s : State) (e : TokenEvent) (u : Tokens) → Bindings net t → TokenView net t s → TokenStep net back waiting t e u → Bindings net u × AtMostTwo net s u

-- a run of the packet machine to what the tokens stand for
pub record IsReached (net : Net) (most : ℕ) (u : Tokens) : Type 0 where
  pub events : List Event
  pub few : length events ≤ most
  pub after : State
  pub run : Run net start events after
  pub view : TokenView net u after
  pub bindings : Bindings net u

abbrev pub RunsAreRuns : Net → (ℕ → ℕ) → Waiting → Type 0
RunsAreRuns net back waiting = (es : List TokenEvent) (u : Tokens) → TokenRun net back waiting no_tokens es u → IsReached net (2 * length es) u

-- after every run each way is within its credit: what comes finds a place, and an FCT a credit of at most 8
pub record NeverOverflows (back : ℕ → ℕ) (u : Tokens) : Type 0 where
  pub within : (w : ℕ) → IsWithinCredit (u.sender w) (u.wire (back w)) (u.wire w) (u.receiver w)
  pub place : (w : ℕ) (k : Token) (rest : List Token) → without_fcts (k ∷ []) ≡ k ∷ [] → u.wire w ≡ k ∷ rest →
      (0 < (u.receiver w).promised) × (length (u.receiver w).buffer < 16)
  pub low : (w : ℕ) (rest : List Token) → u.wire w ≡ Fct ∷ rest → (u.sender (back w)).credit ≤ 8

abbrev pub BuffersHold : Net → (ℕ → ℕ) → Waiting → Type 0
BuffersHold net back waiting = (es : List TokenEvent) (u : Tokens) → TokenRun net back waiting no_tokens es u → NeverOverflows back u

-- each stream is whole packets and a rest within the limit, and no input keeps more bytes
pub record WithinLimit (net : Net) (limit : ℕ) (t : Tokens) (s : State) : Type 0 where
  pub streams : (view : TokenView net t s) (w : ℕ) → w < net.ways → Whole limit (stream (view.ways w).passed (t.receiver w).buffer (t.wire w)) (s.ways w).line (t.sender w).sent
  pub inputs : (w : ℕ) → w < net.ways → length (t.receiver w).got ≤ limit

-- where there is credit and a token to put, it can be put
pub record PutsGoOn (net : Net) (back : ℕ → ℕ) (waiting : Waiting) (t : Tokens) : Type 0 where
  pub node : (w n i : ℕ) (p : Packet) (rest : List Packet) → w < net.ways → net.near w ≡ AtNode n i → (t.nodes.ways w).queue ≡ p ∷ rest → 0 < (t.sender w).credit →
      (u : Tokens) × TokenStep net back waiting t (Put w) u
  pub marked : (n v w : ℕ) (d : List ℕ) (m : Mark) → w < net.ways → IsBoundTo net waiting t n v w d → 0 < (t.sender w).credit → (t.receiver v).mark ≡ Some m →
      (u : Tokens) × TokenStep net back waiting t (Put w) u
  pub unmarked : (n v w : ℕ) (d : List ℕ) → w < net.ways → IsBoundTo net waiting t n v w d → 0 < (t.sender w).credit → length (t.sender w).sent < length d →
      (u : Tokens) × TokenStep net back waiting t (Put w) u

-- a run of the packet machine to what the tokens stand for, within the limit, and puts that go on
pub record IsSound (net : Net) (back : ℕ → ℕ) (waiting : Waiting) (limit : ℕ) (u : Tokens) : Type 0 where
  pub events : List Event
  pub after : State
  pub run : Run net start events after
  pub view : TokenView net u after
  pub within : WithinLimit net limit u after
  pub puts : PutsGoOn net back waiting u

-- at most so many headers in a route, and with a random one
pub record HasHeaders (net : Net) (most : ℕ) : Type 0 where
  pub routes : (c : ℕ) → Carries net c → (length (net.chan c).from.route ≤ most) × (length (net.chan c).to.route ≤ most)
  pub random : (n i v k : ℕ) → IsDrawn ((net.switch n).random i) (Some v) → k ≤ 5 → k + 1 ≤ most

-- on an accepted plan, each run of the token machine is sound
abbrev pub RunsAreSound : Net → (ℕ → ℕ) → Waiting → Type 0
RunsAreSound net back waiting =
    (most : ℕ) → IsAccepted net → HasHeaders net most → (es : List TokenEvent) (u : Tokens) → TokenRun net back waiting no_tokens es u →
    IsSound net back waiting (2 * most + 32) u
