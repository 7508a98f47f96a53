-- Two placements of one program: whatever one network does, another that is free does too, whatever carries its channels.
use Rattle.std.specs.Prelude.{◌≡◌, ℕ, ◌<◌, List, length}
use Rattle.vc_network.specs.Actors.{Network, ActBy}
use Rattle.vc_network.specs.Network.{Act, Actor, begins, HappenAll}
use Rattle.vc_network.specs.Views.{view}
use Rattle.vc_placement.specs.Linearization.{completed}
use Rattle.vc_placement.specs.OneNode.{HaveEnded}
use Rattle.vc_placement.specs.Placement.{Linearizes}
use Rattle.vc_plan.specs.Accepted.{IsAccepted}
use Rattle.vc_plan.specs.Dependencies.{HasRanks}
use Rattle.vc_plan.specs.Limits.{kinds_of}
use Rattle.vc_plan.specs.declared.plan.Plan.{Plan}
use Rattle.vc_accepted.specs.Begin.{node_plan, begin_of}
use Rattle.vc_accepted.specs.NetworkOf.{network_of}
use Rattle.vc_accepted.specs.OneList.{FollowsEvents}
use Rattle.vc_free.specs.Together.{KeepsOrder}
use Rattle.vc_accepted.specs.Process.{Process, does}
use Rattle.vc_switch.specs.Waiting.{Waiting}
use Rattle.vc_tokens.specs.Tokens.{Token}

-- two plans of one program: each node has the same process, over variables of the same kinds, whatever carries its channels
pub record SameProgram (p q : Plan) : Type 0 where
  pub process : (n : ℕ) → n < length p.nodes → (node_plan p n).process ≡ (node_plan q n).process
  pub kinds : (n : ℕ) → n < length p.nodes → kinds_of (node_plan p n).vars ≡ kinds_of (node_plan q n).vars

-- the plans have as many nodes, with the same processes, and as many channels
pub record IsOtherPlacement (p q : Plan) : Type 0 where
  pub program : SameProgram p q
  pub nodes : length p.nodes ≡ length q.nodes
  pub channels : length p.channels ≡ length q.channels

-- What p's network did by these events has a linearization, by a list that follows the events. Events of q's network, from its opening, do
-- that in its order, and lead to a state in which each channel shows what was completed on p's network in s. There all processes have
-- ended if all of p's have.
pub record RunsToo (p q : Plan) (rule other : Waiting) (es : List (ActBy Act)) (s : Network (Actor Process) Token) : Type 0 where
  pub did : Linearizes p s
  pub follows : FollowsEvents p rule es s did.list
  pub events : List (ActBy Act)
  pub end : Network (Actor Process) Token
  pub happen : HappenAll (network_of q) other does (begins (network_of q) (begin_of q)) events end
  pub order : KeepsOrder q other did.atomics events
  pub on_channel : (c : ℕ) → c < length p.channels → view (network_of q) end c ≡ completed (view (network_of p) s c)
  pub ended : HaveEnded p s → HaveEnded q end

-- whatever an accepted plan's network did, the network of another placement runs, each under its own waiting rule, if its ports have ranks
abbrev pub FreePlacementsDoTheSame : Type 0
FreePlacementsDoTheSame =
    (p q : Plan) (rule other : Waiting) (es : List (ActBy Act)) (s : Network (Actor Process) Token) → IsAccepted p → IsAccepted q → HasRanks q → IsOtherPlacement p q
    → HappenAll (network_of p) rule does (begins (network_of p) (begin_of p)) es s → RunsToo p q rule other es s
