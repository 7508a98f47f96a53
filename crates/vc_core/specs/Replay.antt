-- The opening state of an accepted plan, and what a replay of events answers.
use Rattle.std.specs.Prelude.{◌≡◌, ◌↔◌, ℕ, List, map, take, slice_get, Option, Some, None}
use Rattle.vc_network.specs.Headline.{Headline}
use Rattle.vc_network.specs.Network.{begins, HappenAll}
use Rattle.vc_placement.specs.OneNode.{RunsOnOneNode}
use Rattle.vc_placement.specs.Placement.{Linearizes}
use Rattle.vc_plan.specs.OneNode.{IsOneNodeOf}
use Rattle.vc_plan.specs.declared.plan.Plan.{Plan}
use Rattle.vc_accepted.specs.NetworkOf.{network_of}
use Rattle.vc_accepted.specs.OneList.{FollowsEvents}
use Rattle.vc_switch.specs.Waiting.{Wormhole}
use Rattle.vc_accepted.specs.Begin.{begin_of}
use Rattle.vc_core.specs.PossibleEvents.{NetworkState, CanHappen}
use Rattle.vc_plan.specs.Accepted.{IsAccepted}
use Rattle.vc_accepted.specs.Process.{does}
use Rattle.vc_core.specs.State.{State, shown, event_of, state_of, IsNetworkOf}
use Rattle.vc_core.specs.declared.event.Event.{Event}
use Rattle.vc_core.specs.declared.network.Network.{Network}
use Rattle.vc_core.specs.declared.refused.ReplayRefused.{ReplayRefused}
use Rattle.vc_core.specs.declared.refused.StepRefused.{StepRefused}
use Rattle.vc_core.specs.declared.refused.StepRefused.TheVariants as why

-- each process whole, all views empty, and no token anywhere
pub record IsOpening (p : Plan) (s : State) : Type 0 where
  pub is : IsNetworkOf p s
  pub begins : shown s ≡ begins (network_of p) (begin_of p)

-- the state after all these events, from the opening state on
pub record Reached (p : Plan) (events : List Event) (s : State) : Type 0 where
  pub is : IsNetworkOf p s
  pub happen : HappenAll (network_of p) Wormhole does (begins (network_of p) (begin_of p)) (map event_of events) (shown s)

-- these events lead from the opening state of an accepted plan to this one. There the headline holds, and one list tells all that the nodes
-- communicated and follows the events. It has a linearization: each message passes at one moment, and each node's part is a trace of its
-- process. One node that has all processes runs that linearization, where its plan is accepted too.
pub record RunsTo (p : Plan) (events : List Event) (x : NetworkState) : Type 0 where
  pub accepted : IsAccepted p
  pub happen : HappenAll (network_of p) Wormhole does (begins (network_of p) (begin_of p)) (map event_of events) x
  pub headline : Headline (network_of p) Wormhole does x
  pub linearizes : Linearizes p x
  pub follows : FollowsEvents p Wormhole (map event_of events) x linearizes.list
  pub on_one_node : (one : Plan) → IsOneNodeOf p one → IsAccepted one → RunsOnOneNode p one Wormhole x linearizes.atomics

-- and so for a state of the code
pub record Replays (p : Plan) (events : List Event) (s : State) : Type 0 where
  pub is : IsNetworkOf p s
  pub runs : RunsTo p events (shown s)

-- an event is refused for what it is, and not for want of memory, exactly where it is none of the network
abbrev pub IsWhyRefused : Plan → State → Event → StepRefused → Type 0
IsWhyRefused p s e cause = cause ≡ why.NotEnabled ↔ (CanHappen p s e → ⊥)

-- the first event that is refused, why, and the network before it
abbrev pub RefusedIn : Plan → List Event → ℕ → Option Network → StepRefused → Type 0
RefusedIn p events index None cause = (index ≡ 0) × (cause ≡ why.Memory)
RefusedIn p events index (Some network) cause = (e : Event) × (slice_get events index ≡ Some e) × Replays p (take index events) (state_of network) × IsWhyRefused p (state_of network) e cause

abbrev pub RefusedAt : Plan → List Event → ReplayRefused → Type 0
RefusedAt p events refused = RefusedIn p events refused.index refused.state refused.why
