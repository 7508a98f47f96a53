-- What the tokens and packets of an accepted plan's network do, whatever happens.
use Rattle.std.specs.Prelude.{List}
use Rattle.vc_accepted.specs.NetworkOf.{network_of}
use Rattle.vc_network.specs.Actors.{Network, ActBy}
use Rattle.vc_network.specs.Credit.{AreUnderCredit, AreWithinLimit}
use Rattle.vc_network.specs.Network.{Act, Actor, begins, HappenAll}
use Rattle.vc_network.specs.Owners.{HaveOwners, AreShort}
use Rattle.vc_network.specs.Packets.{IsRunOfPackets}
use Rattle.vc_network.specs.Plan as network
use Rattle.vc_plan.specs.Accepted.{IsAccepted}
use Rattle.vc_plan.specs.declared.plan.Plan.{Plan}
use Rattle.vc_switch.specs.Waiting.{Waiting}
use Rattle.vc_tokens.specs.Tokens.{Token}
use Rattle.vc_accepted.specs.Begin.{begin_of}
use Rattle.vc_accepted.specs.Process.{Process, does}

-- it holds after any events of an accepted plan's network, under both waiting rules
abbrev pub AlwaysHolds : (Waiting → network.Plan → Network (Actor Process) Token → Type 0) → Type 0
AlwaysHolds Holds =
    (p : Plan) (waiting : Waiting) (es : List (ActBy Act)) (s : Network (Actor Process) Token) → IsAccepted p →
    HappenAll (network_of p) waiting does (begins (network_of p) (begin_of p)) es s → Holds waiting (network_of p) s

abbrev pub NetworksKeepCredit : Type 0
NetworksKeepCredit = AlwaysHolds (λ waiting. AreUnderCredit)

abbrev pub NetworksKeepLimits : Type 0
NetworksKeepLimits = AlwaysHolds (λ waiting. AreWithinLimit)

abbrev pub PacketsHaveOwners : Type 0
PacketsHaveOwners = AlwaysHolds (λ waiting. HaveOwners)

abbrev pub NoPacketIsLonger : Type 0
NoPacketIsLonger = AlwaysHolds (λ waiting. AreShort)

-- each event is at most two steps of the packet machine
abbrev pub PacketsAreMoved : Type 0
PacketsAreMoved = AlwaysHolds (λ waiting p. IsRunOfPackets p waiting does)
