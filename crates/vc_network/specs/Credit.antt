-- Under credit: what comes over a way finds its place, and no packet grows past the limit.
use Rattle.std.specs.Prelude.{ℕ, ◌≤◌, ◌<◌, List, length}
use Rattle.vc_network.specs.Actors.{Network, ActBy}
use Rattle.vc_machine.specs.Paths.{Port, AtNode, AtSwitch}
use Rattle.vc_tokens.specs.Tokens.{Token}
use Rattle.vc_credit.specs.Credit.{IsUnderCredit}
use Rattle.vc_credit.specs.Ends.{Sender, Receiver}
use Rattle.vc_switch.specs.Waiting.{Waiting}
use Rattle.vc_vcp.specs.Links.{Vcp}
use Rattle.vc_switch.specs.Switch.{Switch}
use Rattle.vc_network.specs.Plan.{Plan, body_limit, ways, near, far, back, IsAccepted}
use Rattle.vc_network.specs.Processes.{StepRelation}
use Rattle.vc_network.specs.Network.{Act, Actor, begins, HappenAll}
use Rattle.vc_network.specs.Views.{vcps, switches, arrived}

-- the two ends of a link at a port
abbrev pub sender_at : (ℕ → Vcp) → (ℕ → Switch) → Port → Sender
sender_at vs sw (AtNode n l) = ((vs n).link l).sender
sender_at vs sw (AtSwitch k l) = (sw k).output l

abbrev pub receiver_at : (ℕ → Vcp) → (ℕ → Switch) → Port → Receiver
receiver_at vs sw (AtNode n l) = ((vs n).link l).receiver
receiver_at vs sw (AtSwitch k l) = ((sw k).input l).receiver

-- each way is under credit
abbrev pub AreUnderCredit : {P : Type 0} → Plan → Network (Actor P) Token → Type 0
AreUnderCredit plan s =
    (w : ℕ) → w < ways plan → IsUnderCredit (sender_at (vcps s) (switches plan s) (near plan w)) (s.way (back w)) (s.way w) (receiver_at (vcps s) (switches plan s) (far plan w))

-- no link's end keeps more bytes than a packet may have
abbrev pub AreWithinLimit : {P : Type 0} → Plan → Network (Actor P) Token → Type 0
AreWithinLimit plan s = (w : ℕ) → w < ways plan → length (arrived (vcps s) (switches plan s) (far plan w)).got ≤ body_limit plan

-- so it is after any list of events
abbrev pub CreditHolds : {P : Type 0} → Plan → Waiting → StepRelation P → (ℕ → P) → Type 0
CreditHolds {P} plan waiting Does begin =
    (es : List (ActBy Act)) (s : Network (Actor P) Token) → IsAccepted plan → HappenAll plan waiting Does (begins plan begin) es s → AreUnderCredit plan s

abbrev pub BodiesFit : {P : Type 0} → Plan → Waiting → StepRelation P → (ℕ → P) → Type 0
BodiesFit {P} plan waiting Does begin =
    (es : List (ActBy Act)) (s : Network (Actor P) Token) → IsAccepted plan → HappenAll plan waiting Does (begins plan begin) es s → AreWithinLimit plan s
