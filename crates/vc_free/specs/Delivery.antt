-- A free network delivers by itself: where the ports have ranks, the wires, links and switches bring each packet to its receiver's half,
-- with no move of a process. So a message passes wherever its receiver inputs, as between two processes on one transputer.
use Rattle.std.specs.Prelude.{◌≡◌, ℕ, suc, ◌<◌, Bool, true, List, length}
use Rattle.std.specs.List.{AllByRecursion}
use Rattle.vc_network.specs.Actors.{Network, ActBy}
use Rattle.vc_network.specs.EnabledEvents.{IsEnabled}
use Rattle.vc_network.specs.Network.{Act, Actor, begins, HappenAll}
use Rattle.vc_network.specs.Plan.{Way, home}
use Rattle.vc_network.specs.Still.{IsNoMove}
use Rattle.vc_network.specs.Views.{vcps, sink_node, view}
use Rattle.vc_plan.specs.Accepted.{IsAccepted}
use Rattle.vc_plan.specs.Dependencies.{HasRanks}
use Rattle.vc_plan.specs.declared.plan.Plan.{Plan}
use Rattle.vc_accepted.specs.Begin.{begin_of}
use Rattle.vc_accepted.specs.NetworkOf.{network_of}
use Rattle.vc_accepted.specs.Process.{Process, does}
use Rattle.vc_core.specs.Still.{AllIsHeld, IsUnasked}
use Rattle.vc_switch.specs.Waiting.{Waiting}
use Rattle.vc_tokens.specs.Tokens.{Token}
use Rattle.vc_vcp.specs.Carrier.{InHalf}

-- the half by which a process inputs on channel c
abbrev pub in_half : Plan → Network (Actor Process) Token → ℕ → InHalf
in_half p s c = (vcps s (sink_node (network_of p) (home (network_of p) c))).carrier.into c

-- all that was offered on channel c is taken and finished
pub record IsThrough (p : Plan) (s : Network (Actor Process) Token) (c : ℕ) : Type 0 where
  pub taken : (view (network_of p) s c).taken ≡ (view (network_of p) s c).offered
  pub finished : (view (network_of p) s c).finished ≡ length (view (network_of p) s c).offered

-- Nothing can happen but moves of processes, every packet is in a receiver's half, and no way carries a token. On a virtual link all that
-- was offered is through where a process inputs, and an output that is not finished is held where none does.
pub record HasDelivered (p : Plan) (waiting : Waiting) (s : Network (Actor Process) Token) : Type 0 where
  pub still : (e : ActBy Act) → IsNoMove e.act → IsEnabled (network_of p) waiting does s e → ⊥
  pub held : AllIsHeld (network_of p) s
  pub asked : (c v : ℕ) (ab : Bool) → home (network_of p) c ≡ Way v ab → c < length p.channels → (in_half p s c).wants ≡ true → IsThrough p s c
  pub unasked : (c v : ℕ) (ab : Bool) → home (network_of p) c ≡ Way v ab → c < length p.channels →
      length (view (network_of p) s c).offered ≡ suc (view (network_of p) s c).finished → IsUnasked (network_of p) s c

-- events without moves of processes, from s to a state in which the network has delivered
pub record Delivers (p : Plan) (waiting : Waiting) (s : Network (Actor Process) Token) : Type 0 where
  pub events : List (ActBy Act)
  pub end : Network (Actor Process) Token
  pub no_moves : AllByRecursion (λ e. IsNoMove e.act) events
  pub happen : HappenAll (network_of p) waiting does s events end
  pub delivered : HasDelivered p waiting end

-- wherever an accepted plan's network has come, under either waiting rule, it delivers by itself, if its ports have ranks
abbrev pub FreeNetworksDeliver : Type 0
FreeNetworksDeliver =
    (p : Plan) (waiting : Waiting) (es : List (ActBy Act)) (s : Network (Actor Process) Token) → IsAccepted p → HasRanks p
    → HappenAll (network_of p) waiting does (begins (network_of p) (begin_of p)) es s → Delivers p waiting s
