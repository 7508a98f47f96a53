-- A plan, and the same in version 2, are run alike.
use Rattle.std.specs.Prelude.{◌≡◌, ◌↔◌, ℕ, List}
use Rattle.vc_accepted.specs.NetworkOf.{network_of}
use Rattle.vc_network.specs.Actors.{Network, ActBy}
use Rattle.vc_network.specs.Network.{Act, Actor, begins, HappenAll}
use Rattle.vc_network.specs.Views.{view}
use Rattle.vc_plan.specs.Accepted.{IsAccepted}
use Rattle.vc_plan.specs.Versions.{version_two}
use Rattle.vc_plan.specs.declared.plan.Plan.{Plan}
use Rattle.vc_switch.specs.Waiting.{Waiting}
use Rattle.vc_tokens.specs.Tokens.{Token}
use Rattle.vc_accepted.specs.Begin.{begin_of}
use Rattle.vc_accepted.specs.Process.{Process, does}

-- from the opening state of the plan's network these events happen, and lead here
abbrev pub Runs : Plan → Waiting → List (ActBy Act) → Network (Actor Process) Token → Type 0
Runs p waiting es s = HappenAll (network_of p) waiting does (begins (network_of p) (begin_of p)) es s

-- the same lists of events happen, to the same states, and each channel shows the same in them
pub record VersionsRunAlike : Type 0 where
  pub runs : (p : Plan) (waiting : Waiting) (es : List (ActBy Act)) (s : Network (Actor Process) Token) → IsAccepted p → Runs p waiting es s ↔ Runs (version_two p) waiting es s
  pub views : (p : Plan) (s : Network (Actor Process) Token) (c : ℕ) → view (network_of (version_two p)) s c ≡ view (network_of p) s c
