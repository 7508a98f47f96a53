-- Exchanges: a process whose channels are all inside its node makes each of them at once.
use Rattle.std.specs.Prelude.{◌≡◌, ℕ, true, List, [], ◌∷◌, ◌++◌}
use Rattle.std.specs.List.{Contains}
use Rattle.vc_occam.specs.Completeness.{at_first, EndsAs}
use Rattle.vc_occam.specs.First.{first_moves}
use Rattle.vc_occam.specs.States.{State, Does}
use Rattle.vc_occam.specs.Traces.{Comm, Out, Fin, In, Stp, End, Trace}
use Rattle.vc_occam.specs.declared.moves.Move.TheVariants as move
use Rattle.vc_process.specs.Lawful.{outputs, inputs, Lawfully}
use Rattle.vc_process.specs.Messages.{message}
use Rattle.vc_process.specs.ProcessStep.{ProcessStep, Stops, Meets, Rests}
use Rattle.vc_process.specs.Syntax.{Proc}
use Rattle.vc_process.specs.Usage.{Set}
use Rattle.vc_process.specs.Values.{Store}

-- each output is directly followed by the input that gets its message, and is finished then; else only channels are stopped
abbrev pub AreExchanges : List Comm → Type 0
AreExchanges [] = Unit {0}
AreExchanges (Out c x ∷ In d y ∷ Fin f ∷ t) = (c ≡ d) × (message x ≡ message y) × (c ≡ f) × AreExchanges t
AreExchanges (Stp c ∷ t) = AreExchanges t
AreExchanges (k ∷ t) = ⊥

-- all channels that a process outputs on, inputs on, has a guard on or stops are inside its node
pub record UsesOnly (inside : Set) (p : Proc) : Type 0 where
  pub outputs : (c : ℕ) → outputs p c ≡ true → inside c ≡ true
  pub inputs : (c : ℕ) → inputs p c ≡ true → inside c ≡ true

-- an output meets an input, a channel is stopped, or a site makes a step without a communication: one of the moves that are listed, on
-- a channel inside the node
abbrev pub IsMade : Set → State → ProcessStep → Type 0
IsMade inside s (Meets i j k c m) = (inside c ≡ true) × Contains (first_moves inside s.rest s.store) (move.Inner i j k c)
IsMade inside s (Stops i c) = (inside c ≡ true) × Contains (first_moves inside s.rest s.store) (move.Stopch i c)
IsMade inside s (Rests i) = Contains (first_moves inside s.rest s.store) (move.Quiet i)
IsMade inside s d = ⊥

-- such moves one after another, and all that they communicate
pub data Moves (inside : Set) : State → List Comm → State → Type 0 where
  no_more : {s : State} → Moves inside s [] s
  one_more : {s t u : State} {ls : List Comm} (d : ProcessStep) (ks : List Comm) → IsMade inside s d → Does s d ks t → Moves inside t ls u → Moves inside s (ks ++ ls) u

pub record IsMadeByMoves (inside : Set) (s : State) (ks : List Comm) (x : End) : Type 0 where
  pub last : State
  pub moves : Moves inside s ks last
  pub ends : EndsAs last x

-- of a lawful process whose channels are all inside its node, each trace that is exchanges is made by such moves
abbrev pub ExchangesAreMeetings : Type 0
ExchangesAreMeetings =
    (inside : Set) (p : Proc) (e : Store) (ks : List Comm) (x : End) → Lawfully p → UsesOnly inside p → AreExchanges ks → Trace p e ks x → IsMadeByMoves inside (at_first p e) ks x
