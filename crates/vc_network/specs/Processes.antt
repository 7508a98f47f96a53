-- Processes of any kind: their moves, and what one step of a process does.
use Rattle.std.specs.Prelude.{◌≡◌, ℕ, Bool, true, List, [], ◌∷◌, ◌++◌, Option, Some, None}
use Rattle.vc_machine.specs.Rendezvous.{Comm, Out, In, Fin, Stp}
use Rattle.vc_process.specs.ProcessStep.{ProcessStep, Offers, Wants, Chooses, Stops, Meets, Rests, Finishes, Receives}

-- what a process may begin with, by site
pub data Move : Type 0 where
  Offer : (site chan : ℕ) → Move
  Want : (site chan : ℕ) → Move
  Choose : (site guard chan : ℕ) → Move
  Stopch : (site chan : ℕ) → Move
  Inner : (sender receiver : ℕ) (guard : Option ℕ) (chan : ℕ) → Move
  Quiet : (site : ℕ) → Move

-- the steps of a kind of process
abbrev pub StepRelation : Type 0 → Type 1
StepRelation P = P → ProcessStep → P → Type 0

abbrev pub input_of : ℕ → Option (List ℕ) → List (ℕ × Comm)
input_of c (Some m) = (c, In m) ∷ []
input_of c None = []

-- the communications that a step makes
abbrev pub comms : ProcessStep → List (ℕ × Comm)
comms (Offers site c m) = (c, Out m) ∷ []
comms (Wants site c answer) = input_of c answer
comms (Chooses site guard c answer) = input_of c answer
comms (Stops site c) = (c, Stp) ∷ []
comms (Meets sender receiver guard c m) = (c, Out m) ∷ (c, In m) ∷ (c, Fin) ∷ []
comms (Rests site) = []
comms (Finishes c) = (c, Fin) ∷ []
comms (Receives c m) = (c, In m) ∷ []

-- the process may make these communications, step by step
pub data Trace {P : Type 0} (Does : StepRelation P) : P → List (ℕ × Comm) → P → Type 0 where
  none : {p : P} → Trace Does p [] p
  more : {p q r : P} {d : ProcessStep} {ks : List (ℕ × Comm)} → Does p d q → Trace Does q ks r → Trace Does p (comms d ++ ks) r

-- a move with its answer leads to one state, and a message that goes out is one
pub record IsDeterminate {P : Type 0} (Does : StepRelation P) : Type 0 where
  pub next : (p q r : P) (d : ProcessStep) → Does p d q → Does p d r → q ≡ r
  pub offer : (p q r : P) (site c : ℕ) (m k : List ℕ) → Does p (Offers site c m) q → Does p (Offers site c k) r → m ≡ k
  pub meet : (p q r : P) (i j : ℕ) (guard : Option ℕ) (c : ℕ) (m k : List ℕ) → Does p (Meets i j guard c m) q → Does p (Meets i j guard c k) r → m ≡ k

-- processes numbered by their states, with steps that a test tells
abbrev pub by_test : (ℕ → ProcessStep → ℕ → Bool) → StepRelation ℕ
by_test does p d q = does p d q ≡ true
