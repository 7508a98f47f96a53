-- What the plan of one node can do, which runs all processes of another plan side by side.
use Rattle.std.specs.Prelude.{◌≡◌, ℕ, ◌<◌, List, length, map}
use Rattle.vc_network.specs.Actors.{Network, ActBy}
use Rattle.vc_network.specs.Network.{Act, Node, Actor, IsNode, begins, HappenAll}
use Rattle.vc_network.specs.Views.{view}
use Rattle.vc_occam.specs.NodeTraces.{NodeTrace}
use Rattle.vc_occam.specs.Remains.{Done}
use Rattle.vc_occam.specs.Traces.{Comm, End}
use Rattle.vc_placement.specs.Linearization.{Atomic, all_comms, completed}
use Rattle.vc_placement.specs.Parallel.{without_nodes, IsEnded}
use Rattle.vc_placement.specs.Placement.{IsLinearizationOf}
use Rattle.vc_plan.specs.Accepted.{IsAccepted}
use Rattle.vc_plan.specs.OneNode.{IsOnOneNode, IsOneNodeOf}
use Rattle.vc_plan.specs.declared.plan.Plan.{Plan}
use Rattle.vc_process.specs.Numbering.{written}
use Rattle.vc_accepted.specs.Begin.{node_plan, begin_of}
use Rattle.vc_accepted.specs.NetworkOf.{network_of}
use Rattle.vc_accepted.specs.OneList.{FollowsEvents}
use Rattle.vc_accepted.specs.Process.{Process, does}
use Rattle.vc_switch.specs.Waiting.{Waiting}
use Rattle.vc_tokens.specs.Tokens.{Token}

-- every process of the plan has ended
abbrev pub HaveEnded : Plan → Network (Actor Process) Token → Type 0
HaveEnded p s = (n : ℕ) → n < length p.nodes → (a : Node Process) × (s.state n ≡ IsNode a) × (a.process.state.rest ≡ Done)

-- what an accepted plan's network did, the one node can do, message for message, and it has ended where all processes have
abbrev pub OneNodeCanDoIt : Type 0
OneNodeCanDoIt =
    (p one : Plan) (s : Network (Actor Process) Token) (hs : List Atomic) → IsAccepted p → IsOnOneNode p one → IsLinearizationOf p s hs
    → (x : End) × NodeTrace (begin_of one 0).inside (written (node_plan one 0).process) (begin_of one 0).state.store (without_nodes (all_comms hs)) x × (HaveEnded p s → IsEnded x)

-- these communications, all of them made by the one node
abbrev pub of_one : List Comm → List (ℕ × Comm)
of_one ks = map (λ k. (0, k)) ks

-- events of the one node's network, from its opening: they tell exactly these atomic communications, in this order, each channel
-- shows what was completed on p's network in s, and the process has ended where all of p's have
pub record RunsOnOneNode (p one : Plan) (waiting : Waiting) (s : Network (Actor Process) Token) (hs : List Atomic) : Type 0 where
  pub events : List (ActBy Act)
  pub end : Network (Actor Process) Token
  pub happen : HappenAll (network_of one) waiting does (begins (network_of one) (begin_of one)) events end
  pub node : Node Process
  pub is_node : end.state 0 ≡ IsNode node
  pub told : FollowsEvents one waiting events end (of_one (without_nodes (all_comms hs)))
  pub on_channel : (c : ℕ) → c < length p.channels → view (network_of one) end c ≡ completed (view (network_of p) s c)
  pub ended : HaveEnded p s → node.process.state.rest ≡ Done

-- each linearization of what an accepted plan's network did the one node's network runs, under either waiting rule, where the plan of one
-- node is accepted too
abbrev pub OneNodeRunsIt : Type 0
OneNodeRunsIt =
    (p one : Plan) (waiting : Waiting) (s : Network (Actor Process) Token) (hs : List Atomic) → IsAccepted p → IsOneNodeOf p one → IsAccepted one → IsLinearizationOf p s hs
    → RunsOnOneNode p one waiting s hs
