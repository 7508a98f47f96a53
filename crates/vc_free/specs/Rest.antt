-- Rest: where no event can happen on a free network, nothing could happen on one transputer that had done the same.
use Rattle.std.specs.Prelude.{◌≡◌, ◌↔◌, ℕ, ◌<◌, Bool, true, List, [], ◌∷◌, ◌++◌, length, None}
use Rattle.std.specs.List.{Contains}
use Rattle.vc_network.specs.Actors.{Network, ActBy}
use Rattle.vc_network.specs.EnabledEvents.{IsEnabled}
use Rattle.vc_network.specs.Network.{Act, Node, Actor, IsNode, begins, HappenAll}
use Rattle.vc_network.specs.Views.{view}
use Rattle.vc_occam.specs.First.{own}
use Rattle.vc_occam.specs.Remains.{Done}
use Rattle.vc_occam.specs.SiteActions as action
use Rattle.vc_occam.specs.SiteActions.{SiteAction}
use Rattle.vc_occam.specs.States.{State, StepsTo}
use Rattle.vc_occam.specs.Traces.{Comm, Out}
use Rattle.vc_occam.specs.declared.moves.Move.{Move}
use Rattle.vc_occam.specs.declared.moves.Move.TheVariants.{Offer, Want, Choose}
use Rattle.vc_process.specs.declared.datum.Datum.{Datum}
use Rattle.vc_placement.specs.Linearization.{Atomic, all_comms}
use Rattle.vc_placement.specs.Placement.{IsLinearizationOf}
use Rattle.vc_plan.specs.Accepted.{IsAccepted}
use Rattle.vc_plan.specs.Dependencies.{HasRanks}
use Rattle.vc_plan.specs.declared.plan.Plan.{Plan}
use Rattle.vc_accepted.specs.Alone.{GoesAlone}
use Rattle.vc_accepted.specs.Begin.{begin_of}
use Rattle.vc_accepted.specs.NetworkOf.{network_of}
use Rattle.vc_accepted.specs.OneList.{by}
use Rattle.vc_accepted.specs.Process.{Process, does}
use Rattle.vc_switch.specs.Waiting.{Waiting}
use Rattle.vc_tokens.specs.Tokens.{Token}

-- the action is made at once: its site neither waits for a message nor has waited for it
abbrev pub IsAtOnce : SiteAction → Type 0
IsAtOnce (action.Want c None) = ⊥
IsAtOnce (action.Choose k c None) = ⊥
IsAtOnce (action.Message m) = ⊥
IsAtOnce d = Unit {0}

-- such steps one after another, and all that they communicate
pub data StepsAtOnce : State → List Comm → State → Type 0 where
  none_made : {s : State} → StepsAtOnce s [] s
  one_made : {s t u : State} {i : ℕ} {d : SiteAction} {ks ls : List Comm} → IsAtOnce d → StepsTo s i d ks t → StepsAtOnce t ls u → StepsAtOnce s (ks ++ ls) u

-- an input or a guard on channel c
abbrev pub TakesFrom : ℕ → Move → Type 0
TakesFrom c (Want i d) = d ≡ c
TakesFrom c (Choose i k d) = d ≡ c
TakesFrom c m = ⊥

-- So many processes side by side, over channels that hold nothing, of which these are stopped: no site goes on by itself, and where an
-- output can begin, and an input or guard on its channel too, the channel is stopped.
pub record NothingGoesOn (count : ℕ) (stands : ℕ → State) (stopped : ℕ → Bool) : Type 0 where
  pub alone : (n : ℕ) (m : Move) → n < count → Contains (own (stands n).rest (stands n).store) m → GoesAlone m → ⊥
  pub met : (n k i c : ℕ) (m : Move) → n < count → k < count → Contains (own (stands n).rest (stands n).store) (Offer i c) → Contains (own (stands k).rest (stands k).store) m → TakesFrom c m → stopped c ≡ true

-- the second has come from the first by outputs that began and inputs that wait for a message, and nothing else
pub data Begun : State → State → Type 0 where
  nothing_begun : {s : State} → Begun s s
  output_begun : {s t u : State} {i c : ℕ} {x : Datum} → StepsTo s i (action.Offer c) (Out c x ∷ []) t → Begun t u → Begun s u
  input_begun : {s t u : State} {i c : ℕ} → StepsTo s i (action.Want c None) [] t → Begun t u → Begun s u

-- By steps that make its part of hs at once each node's process comes to a state from which it stands as on the network but for what has
-- begun; it has ended where it has ended there, and in those states nothing goes on.
pub record StandsStill (p : Plan) (s : Network (Actor Process) Token) (hs : List Atomic) : Type 0 where
  pub stands : ℕ → State
  pub made : (n : ℕ) → n < length p.nodes → StepsAtOnce (begin_of p n).state (by n (all_comms hs)) (stands n)
  pub begun : (n : ℕ) → n < length p.nodes → (a : Node Process) × (s.state n ≡ IsNode a) × Begun (stands n) a.process.state
  pub ended : (n : ℕ) → n < length p.nodes → (a : Node Process) → s.state n ≡ IsNode a → ((stands n).rest ≡ Done) ↔ (a.process.state.rest ≡ Done)
  pub rest : NothingGoesOn (length p.nodes) stands (λ c. (view (network_of p) s c).stopped)

-- where an accepted plan's network has come to rest, under either waiting rule, if its ports have ranks, what it did has a linearization
-- after which its processes, side by side on one transputer, stand still too
abbrev pub QuietNetworksAreQuiet : Type 0
QuietNetworksAreQuiet =
    (p : Plan) (waiting : Waiting) (es : List (ActBy Act)) (s : Network (Actor Process) Token) → IsAccepted p → HasRanks p
    → HappenAll (network_of p) waiting does (begins (network_of p) (begin_of p)) es s → ((e : ActBy Act) → IsEnabled (network_of p) waiting does s e → ⊥)
    → (hs : List Atomic) × IsLinearizationOf p s hs × StandsStill p s hs
