-- Placement is invisible: whatever the network of a plan did, one transputer that runs the same processes side by side could have done.
use Rattle.std.specs.Prelude.{◌≡◌, ℕ, ◌≤◌, ◌<◌, List, [], length}
use Rattle.vc_accepted.specs.NetworkOf.{network_of}
use Rattle.vc_network.specs.Actors.{Network, ActBy}
use Rattle.vc_machine.specs.Rendezvous.{DoesAll, nothing_yet}
use Rattle.vc_network.specs.Network.{Act, Node, Actor, IsNode, begins, HappenAll}
use Rattle.vc_network.specs.Views.{view}
use Rattle.vc_occam.specs.Remains.{Done}
use Rattle.vc_occam.specs.States.{State}
use Rattle.vc_occam.specs.Traces.{Comm, End, Ended, Trace}
use Rattle.vc_placement.specs.Linearization.{Atomic, all_comms, AreFaithful, points, completed}
use Rattle.vc_plan.specs.Accepted.{IsAccepted}
use Rattle.vc_plan.specs.declared.plan.Plan.{Plan}
use Rattle.vc_process.specs.Numbering.{written}
use Rattle.vc_switch.specs.Waiting.{Waiting}
use Rattle.vc_accepted.specs.Begin.{node_plan, begin_of}
use Rattle.vc_accepted.specs.OneList.{by, on, FollowsEvents, IsTold}
use Rattle.vc_accepted.specs.Process.{Process, does}
use Rattle.vc_tokens.specs.Tokens.{Token}

-- node n can perform this list by its process, from its empty variables on, and has ended as it has on the network, if it has there
abbrev pub CanPerform : Plan → ℕ → List Comm → State → Type 0
CanPerform p n ks s = (x : End) × Trace (written (node_plan p n).process) (begin_of p n).state.store ks x × (s.rest ≡ Done → x ≡ Ended s.store)

-- A linearization of what p's network did up to s: each node's part is a trace of its process, nobody else has a part, each message is
-- got as it was sent, and each channel has exactly the messages that the network shows as taken, and is stopped where it is there.
pub record IsLinearizationOf (p : Plan) (s : Network (Actor Process) Token) (hs : List Atomic) : Type 0 where
  pub by_node : (n : ℕ) → n < length p.nodes → (a : Node Process) × (s.state n ≡ IsNode a) × CanPerform p n (by n (all_comms hs)) a.process.state
  pub by_no_other : (n : ℕ) → length p.nodes ≤ n → by n (all_comms hs) ≡ []
  pub faithful : AreFaithful hs
  pub on_channel : (c : ℕ) → c < length p.channels → DoesAll nothing_yet (on c (all_comms hs)) (completed (view (network_of p) s c))

-- one list tells what the nodes communicated, and it has a linearization with the same points in the same order
pub record Linearizes (p : Plan) (s : Network (Actor Process) Token) : Type 0 where
  pub list : List (ℕ × Comm)
  pub told : IsTold p s list
  pub atomics : List Atomic
  pub linearization : IsLinearizationOf p s atomics
  pub same_points : points (all_comms atomics) ≡ points list

-- after any events of an accepted plan's network, by a list that follows the events
abbrev pub PlacementIsInvisible : Type 0
PlacementIsInvisible =
    (p : Plan) (waiting : Waiting) (es : List (ActBy Act)) (s : Network (Actor Process) Token) → IsAccepted p →
    HappenAll (network_of p) waiting does (begins (network_of p) (begin_of p)) es s → (x : Linearizes p s) × FollowsEvents p waiting es s x.list
