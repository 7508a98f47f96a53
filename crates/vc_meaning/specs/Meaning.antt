-- What a state of a plan's network means: a state of the program of its processes. A message has passed once its output and its input, or
-- a guard, have both begun. A process of the program is ahead of the network's by the messages and the ends of outputs that are to come, and
-- stands before an output or input that has begun alone there.
use Rattle.std.specs.Prelude.{◌≡◌, ◌⊎◌, ℕ, suc, ◌<◌, Bool, true, false, List, [], ◌∷◌, ◌++◌, length, None}
use Rattle.std.specs.List.{Contains}
use Rattle.vc_accepted.specs.NetworkOf.{network_of}
use Rattle.vc_accepted.specs.Process.{Process}
use Rattle.vc_core.specs.PossibleEvents.{NetworkState}
use Rattle.vc_free.specs.Delivery.{in_half}
use Rattle.vc_network.specs.Network.{Node, IsNode}
use Rattle.vc_network.specs.Plan.{Way, home}
use Rattle.vc_network.specs.Views.{view}
use Rattle.vc_occam.specs.SiteActions as action
use Rattle.vc_occam.specs.States.{State, StepsTo, input, output, waiting}
use Rattle.vc_occam.specs.Traces.{Out, Fin, In}
use Rattle.vc_plan.specs.declared.plan.Plan.{Plan}
use Rattle.vc_process.specs.Messages.{message}
use Rattle.vc_process.specs.declared.datum.Datum.{Datum}
use Rattle.vc_program.specs.Program.{Program}

-- the channel is on a virtual link
abbrev pub IsOnLink : Plan → ℕ → Type 0
IsOnLink p c = (v : ℕ) × (ab : Bool) × (home (network_of p) c ≡ Way v ab)

-- an output has begun, and no input of its message
pub record OutputAlone (p : Plan) (x : NetworkState) (c : ℕ) (m : List ℕ) : Type 0 where
  pub on_link : IsOnLink p c
  pub offered : (view (network_of p) x c).offered ≡ (view (network_of p) x c).taken ++ m ∷ []
  pub unasked : (in_half p x c).wants ≡ false

-- an input has begun, and no output of its message
pub record InputAlone (p : Plan) (x : NetworkState) (c : ℕ) : Type 0 where
  pub on_link : IsOnLink p c
  pub taken : (view (network_of p) x c).taken ≡ (view (network_of p) x c).offered
  pub asked : (in_half p x c).wants ≡ true

-- both have begun: the message passes
pub record MessagePasses (p : Plan) (x : NetworkState) (c : ℕ) (m : List ℕ) : Type 0 where
  pub on_link : IsOnLink p c
  pub offered : (view (network_of p) x c).offered ≡ (view (network_of p) x c).taken ++ m ∷ []
  pub asked : (in_half p x c).wants ≡ true

-- the message is taken, and its output is not finished
pub record IsUnfinished (p : Plan) (x : NetworkState) (c : ℕ) : Type 0 where
  pub on_link : IsOnLink p c
  pub taken : (view (network_of p) x c).taken ≡ (view (network_of p) x c).offered
  pub unfinished : length (view (network_of p) x c).offered ≡ suc (view (network_of p) x c).finished

-- the end of an output is to come
abbrev pub EndIsToCome : Plan → NetworkState → ℕ → Type 0
EndIsToCome p x c = IsUnfinished p x c ⊎ ((m : List ℕ) × MessagePasses p x c m)

-- a process gets what is to come: the ends of outputs on these channels, and these messages
pub data GetsAhead (Ending : ℕ → Type 0) (Coming : ℕ → List ℕ → Type 0) : State → State → Type 0 where
  all_got : {s : State} → GetsAhead Ending Coming s s
  end_comes : {s t u : State} {i c : ℕ} → Ending c → StepsTo s i action.Finish (Fin c ∷ []) t → GetsAhead Ending Coming t u → GetsAhead Ending Coming s u
  message_comes : {s t u : State} {i c : ℕ} {m : List ℕ} {y : Datum} → Coming c m → StepsTo s i (action.Message m) (In c y ∷ []) t → GetsAhead Ending Coming t u →
      GetsAhead Ending Coming s u

-- a process begins what has begun alone: outputs of these messages, and inputs on these channels
pub data BeginsAlone (Offered : ℕ → List ℕ → Type 0) (Asked : ℕ → Type 0) : State → State → Type 0 where
  all_begun : {s : State} → BeginsAlone Offered Asked s s
  output_begins : {s t u : State} {i c : ℕ} {y : Datum} → Offered c (message y) → StepsTo s i (action.Offer c) (Out c y ∷ []) t → BeginsAlone Offered Asked t u →
      BeginsAlone Offered Asked s u
  input_begins : {s t u : State} {i c : ℕ} → Asked c → StepsTo s i (action.Want c None) [] t → BeginsAlone Offered Asked t u → BeginsAlone Offered Asked s u

-- a process waits for nothing that is to come
pub record IsAhead (p : Plan) (x : NetworkState) (z : State) : Type 0 where
  pub ends : (c : ℕ) → EndIsToCome p x c → (i : ℕ) → Contains (waiting z.rest) (output i c) → ⊥
  pub messages : (c : ℕ) (m : List ℕ) → MessagePasses p x c m → (i : ℕ) → Contains (waiting z.rest) (input i c) → ⊥

-- a state of a process on the network means this one of the program: what the one is once all that is to come has come, the other is once
-- it has begun what has begun alone
pub record PartMeans (p : Plan) (x : NetworkState) (here there : State) : Type 0 where
  pub both : State
  pub ahead : GetsAhead (EndIsToCome p x) (MessagePasses p x) here both
  pub all_came : IsAhead p x both
  pub alone : BeginsAlone (OutputAlone p x) (InputAlone p x) there both
  pub waits_not : waiting there.rest ≡ []

-- the messages that passed on channel c: those that were taken, and one that passes
pub record HavePassed (p : Plan) (x : NetworkState) (c : ℕ) (passed : List (List ℕ)) : Type 0 where
  pub passing : (m : List ℕ) → MessagePasses p x c m → passed ≡ (view (network_of p) x c).taken ++ m ∷ []
  pub taken : ((m : List ℕ) → MessagePasses p x c m → ⊥) → passed ≡ (view (network_of p) x c).taken

-- the state of the network means this state of the program
pub record Means (p : Plan) (x : NetworkState) (s : Program) : Type 0 where
  pub part : (n : ℕ) → n < length p.nodes → (a : Node Process) × (x.state n ≡ IsNode a) × PartMeans p x a.process.state (s.part n)
  pub stopped : (c : ℕ) → c < length p.channels → s.stopped c ≡ (view (network_of p) x c).stopped
  pub passed : (c : ℕ) → c < length p.channels → HavePassed p x c (s.passed c)
