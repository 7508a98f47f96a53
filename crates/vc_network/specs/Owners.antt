-- Whose each packet of the network is, and how long it is at most.
use Rattle.std.specs.Prelude.{ℕ, ◌≤◌, List, length}
use Rattle.std.specs.List.{Contains}
use Rattle.vc_network.specs.Actors.{Network, ActBy}
use Rattle.vc_packets.specs.declared.packet.Packet.{Packet}
use Rattle.vc_tokens.specs.Tokens.{Token}
use Rattle.vc_switch.specs.Waiting.{Waiting}
use Rattle.vc_machine.specs.Owners.{HasOwner}
use Rattle.vc_machine.specs.Places.{Place}
use Rattle.vc_network.specs.Plan.{Plan, body_limit, ways, net_of, IsAccepted}
use Rattle.vc_network.specs.Processes.{StepRelation}
use Rattle.vc_network.specs.Network.{Act, Actor, begins, HappenAll}
use Rattle.vc_network.specs.Views.{in_ways}

-- each packet in a queue, on a way or in a switch belongs to a channel
abbrev pub HaveOwners : {P : Type 0} → Plan → Network (Actor P) Token → Type 0
HaveOwners plan s = (x : Place × Packet) → Contains (in_ways plan s (ways plan)) x → HasOwner (net_of plan) x

-- and none is longer than the limit
abbrev pub AreShort : {P : Type 0} → Plan → Network (Actor P) Token → Type 0
AreShort plan s = (x : Place × Packet) → Contains (in_ways plan s (ways plan)) x → length x.1.body ≤ body_limit plan

-- so it is after any list of events
abbrev pub EachHasOwner : {P : Type 0} → Plan → Waiting → StepRelation P → (ℕ → P) → Type 0
EachHasOwner {P} plan waiting Does begin =
    (es : List (ActBy Act)) (s : Network (Actor P) Token) → IsAccepted plan → HappenAll plan waiting Does (begins plan begin) es s → HaveOwners plan s

abbrev pub PacketsAreShort : {P : Type 0} → Plan → Waiting → StepRelation P → (ℕ → P) → Type 0
PacketsAreShort {P} plan waiting Does begin =
    (es : List (ActBy Act)) (s : Network (Actor P) Token) → IsAccepted plan → HappenAll plan waiting Does (begins plan begin) es s → AreShort plan s
