-- The converse of placement: whatever the one node that runs a plan's processes side by side does, the plan's free network does too.
use Rattle.std.specs.Prelude.{◌≡◌, ℕ, ◌<◌, List, length}
use Rattle.vc_network.specs.Actors.{Network, ActBy}
use Rattle.vc_network.specs.Network.{Act, Actor, begins, HappenAll}
use Rattle.vc_network.specs.Views.{view}
use Rattle.vc_free.specs.Together.{KeepsOrder}
use Rattle.vc_occam.specs.Traces.{Comm}
use Rattle.vc_placement.specs.Linearization.{Atomic, all_comms, points}
use Rattle.vc_placement.specs.OneNode.{HaveEnded}
use Rattle.vc_placement.specs.Parallel.{without_nodes}
use Rattle.vc_plan.specs.Accepted.{IsAccepted}
use Rattle.vc_plan.specs.Dependencies.{HasRanks}
use Rattle.vc_plan.specs.OneNode.{IsOneNodeOf}
use Rattle.vc_plan.specs.declared.plan.Plan.{Plan}
use Rattle.vc_accepted.specs.Begin.{begin_of}
use Rattle.vc_accepted.specs.NetworkOf.{network_of}
use Rattle.vc_accepted.specs.OneList.{FollowsEvents, IsTold}
use Rattle.vc_accepted.specs.Process.{Process, does}
use Rattle.vc_switch.specs.Waiting.{Waiting}
use Rattle.vc_tokens.specs.Tokens.{Token}

-- A list that follows the events says what the one node did. Events of p's network, from its opening, do the same in the order of the
-- list: each message is received and each channel stopped at a node of p. They lead to a state in which each channel shows what it shows
-- on the one node in t. All processes have ended there if the one node's process has.
pub record RunsOnNetwork (p one : Plan) (waiting : Waiting) (es : List (ActBy Act)) (t : Network (Actor Process) Token) : Type 0 where
  pub list : List (ℕ × Comm)
  pub told : IsTold one t list
  pub follows : FollowsEvents one waiting es t list
  pub atomics : List Atomic
  pub same_points : without_nodes (points (all_comms atomics)) ≡ without_nodes (points list)
  pub events : List (ActBy Act)
  pub end : Network (Actor Process) Token
  pub happen : HappenAll (network_of p) waiting does (begins (network_of p) (begin_of p)) events end
  pub order : KeepsOrder p waiting atomics events
  pub on_channel : (c : ℕ) → c < length p.channels → view (network_of p) end c ≡ view (network_of one) t c
  pub ended : HaveEnded one t → HaveEnded p end

-- whatever the one node of an accepted plan did, where it is accepted too, the plan's network runs, under either waiting rule, if its
-- ports have ranks
abbrev pub NetworkRunsIt : Type 0
NetworkRunsIt =
    (p one : Plan) (waiting : Waiting) (es : List (ActBy Act)) (t : Network (Actor Process) Token) → IsAccepted p → IsOneNodeOf p one → IsAccepted one → HasRanks p
    → HappenAll (network_of one) waiting does (begins (network_of one) (begin_of one)) es t → RunsOnNetwork p one waiting es t
