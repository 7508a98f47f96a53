-- A network whose packets may have more headers on the way.
use Rattle.std.specs.Prelude.{◌↔◌, ℕ, ◌≤◌, List}
use Rattle.vc_network.specs.Actors.{Network, ActBy}
use Rattle.vc_tokens.specs.Tokens.{Token}
use Rattle.vc_switch.specs.Waiting.{Waiting}
use Rattle.vc_network.specs.Plan.{Plan, IsAccepted}
use Rattle.vc_network.specs.Processes.{StepRelation}
use Rattle.vc_network.specs.Network.{Act, Actor, begins, HappenAll}

abbrev pub with_headers : Plan → ℕ → Plan
with_headers plan most = record plan { headers = most }

-- No packet of an accepted network needs the room: the same events happen, and lead to the same states.
abbrev pub MoreHeadersChangeNothing : {P : Type 0} → Plan → Waiting → StepRelation P → (ℕ → P) → Type 0
MoreHeadersChangeNothing {P} plan waiting Does begin =
    (most : ℕ) (es : List (ActBy Act)) (s : Network (Actor P) Token) → IsAccepted plan → plan.headers ≤ most →
    HappenAll plan waiting Does (begins plan begin) es s ↔ HappenAll (with_headers plan most) waiting Does (begins (with_headers plan most) begin) es s
