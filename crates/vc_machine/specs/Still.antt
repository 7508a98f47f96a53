-- A still network: only processes can go on. And a clear way: no packet is on it or waits for it.
use Rattle.std.specs.Prelude.{◌≡◌, ℕ, ◌≤◌, ◌<◌, List, [], length, None}
use Rattle.std.specs.List.{AllByRecursion}
use Rattle.vc_machine.specs.Paths.{AtNode, Net, IsAccepted}
use Rattle.vc_machine.specs.Links.{Tokens, Wires, no_tokens}
use Rattle.vc_machine.specs.TokenMachine.{TokenEvent, Proc, Take, Pass, Put, PutFct, Route, TokenStep, TokenRun}
use Rattle.vc_machine.specs.Laws.{HasHeaders}
use Rattle.vc_machine.specs.Dependencies.{HasRanks}
use Rattle.vc_switch.specs.Waiting.{Waiting}

-- the event is no move of a process
abbrev pub MovesTokens : TokenEvent → Type 0
MovesTokens (Proc e) = ⊥
MovesTokens (Take w word) = Unit {0}
MovesTokens (Pass w) = Unit {0}
MovesTokens (Put w) = Unit {0}
MovesTokens (PutFct w) = Unit {0}
MovesTokens (Route w out) = Unit {0}

-- no event can happen but moves of processes
abbrev pub IsStill : Net → (ℕ → ℕ) → Waiting → Tokens → Type 0
IsStill net back waiting t = (e : TokenEvent) (u : Tokens) → MovesTokens e → TokenStep net back waiting t e u → ⊥

-- nothing of a packet is on way w, in the input at its end or in the queue at its beginning, and a token could be put on it
pub record IsClear (net : Net) (t : Tokens) (w : ℕ) : Type 0 where
  pub queue : (n i : ℕ) → net.near w ≡ AtNode n i → (t.nodes.ways w).queue ≡ []
  pub sent : (t.sender w).sent ≡ []
  pub credit : 0 < (t.sender w).credit
  pub wire : t.wire w ≡ []
  pub buffer : (t.receiver w).buffer ≡ []
  pub got : (t.receiver w).got ≡ []
  pub mark : (t.receiver w).mark ≡ None
  pub bound : (t.receiver w).bound ≡ None

-- the way back of each of the network's ways is one of them
abbrev pub BackStays : Net → (ℕ → ℕ) → Type 0
BackStays net back = (w : ℕ) → w < net.ways → back w < net.ways

-- on an accepted network whose ways have ranks, each way is clear wherever a run has come to a still state
abbrev pub StillIsClear : Net → (ℕ → ℕ) → Waiting → Type 0
StillIsClear net back waiting =
    (most : ℕ) → IsAccepted net → HasHeaders net most → HasRanks net → Wires net back → BackStays net back → (es : List TokenEvent) (u : Tokens) →
    TokenRun net back waiting no_tokens es u → IsStill net back waiting u → (w : ℕ) → w < net.ways → IsClear net u w

-- on an accepted network whose ways have ranks, wherever a run has come, the state bounds how many events follow before a process moves
abbrev pub RunsEnd : Net → (ℕ → ℕ) → Waiting → Type 0
RunsEnd net back waiting =
    (most : ℕ) → IsAccepted net → HasHeaders net most → HasRanks net → Wires net back → BackStays net back →
    (bound : Tokens → ℕ) × ((es later : List TokenEvent) (u v : Tokens) → TokenRun net back waiting no_tokens es u → AllByRecursion MovesTokens later →
    TokenRun net back waiting u later v → length later ≤ bound u)
