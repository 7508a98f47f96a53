-- What the channels show, where the packets are, and the one list of communications.
use Rattle.std.specs.Prelude.{ℕ, zero, suc, ◌+◌, not, List, [], ◌∷◌, ◌++◌, length, map, Option, Some, None, ◌==◌, if◌then◌else◌}
use Rattle.vc_network.specs.Actors.{Network}
use Rattle.vc_packets.specs.declared.mark.Mark.{Mark}
use Rattle.vc_packets.specs.declared.packet.Packet.{Packet}
use Rattle.vc_machine.specs.Paths.{Port, AtNode, AtSwitch}
use Rattle.vc_machine.specs.Rendezvous.{View, Comm, nothing_yet}
use Rattle.vc_machine.specs.Places.{Place, Queue, OnWire, Inside, Held, at_place, of_held}
use Rattle.vc_tokens.specs.Tokens.{Token}
use Rattle.vc_machine.specs.PacketsOfTokens.{read, passed_on}
use Rattle.vc_vcp.specs.Carrier.{Carrier, OutHalf, InHalf}
use Rattle.vc_vcp.specs.Links.{Vcp, new_vcp}
use Rattle.vc_switch.specs.Switch.{Switch, new_switch}
use Rattle.vc_network.specs.Plan.{Plan, Home, Way, home, ways, near, far, end_of, virtual_link, net_of, Inside as InNode}
use Rattle.vc_network.specs.Network.{Actor, IsNode, IsSwitch}

abbrev pub vcp_of : {P : Type 0} → Actor P → Vcp
vcp_of (IsNode a) = a.vcp
vcp_of (IsSwitch s) = new_vcp

abbrev pub inner_of : {P : Type 0} → Actor P → ℕ → View
inner_of (IsNode a) c = a.inner c
inner_of (IsSwitch s) c = nothing_yet

abbrev pub switch_of : {P : Type 0} → Actor P → Switch
switch_of (IsNode a) = new_switch
switch_of (IsSwitch s) = s

-- each node's halves, queues and links, and each switch
abbrev pub vcps : {P : Type 0} → Network (Actor P) Token → ℕ → Vcp
vcps s n = vcp_of (s.state n)

abbrev pub switches : {P : Type 0} → Plan → Network (Actor P) Token → ℕ → Switch
switches plan s k = switch_of (s.state (plan.nodes + k))

-- the node that outputs on a channel, and the one that inputs
abbrev pub source_node : Plan → Home → ℕ
source_node plan (Way v ab) = (end_of (virtual_link plan v) ab).node
source_node plan (InNode n) = n

abbrev pub sink_node : Plan → Home → ℕ
sink_node plan (Way v ab) = (end_of (virtual_link plan v) (not ab)).node
sink_node plan (InNode n) = n

-- what two halves show together
abbrev pub halves_view : OutHalf → InHalf → View
halves_view x y = record { offered = x.offered; taken = y.taken; finished = x.finished; stopped = y.stopped }

abbrev pub view_at : {P : Type 0} → Plan → Network (Actor P) Token → ℕ → Home → View
view_at plan s c (Way v ab) = halves_view ((vcps s (source_node plan (Way v ab))).carrier.out c) ((vcps s (sink_node plan (Way v ab))).carrier.into c)
view_at plan s c (InNode n) = inner_of (s.state n) c

-- what channel c shows
abbrev pub view : {P : Type 0} → Plan → Network (Actor P) Token → ℕ → View
view plan s c = view_at plan s c (home plan c)

-- the packets that wait at a way's near end, of the first of which some tokens may be on the way
abbrev pub queue_at : (ℕ → Carrier) → Port → List Packet
queue_at car (AtNode n link) = (car n).queue link
queue_at car (AtSwitch k link) = []

-- the far end of a way: what waits to pass, and what has passed of one packet
pub record Arrived : Type 0 where
  pub buffer : List Token
  pub got : List ℕ
  pub mark : Option Mark

abbrev pub arrived : (ℕ → Vcp) → (ℕ → Switch) → Port → Arrived
arrived vs sw (AtNode n link) = let x = (vs n).link link in record { buffer = x.receiver.buffer; got = x.passed; mark = None }
arrived vs sw (AtSwitch k link) = let x = (sw k).input link in record { buffer = x.receiver.buffer; got = x.got; mark = x.mark }

-- A packet stands where its mark stands: these packets' marks are on the wire or in the buffer at its far end
abbrev pub on_wire : Plan → Port → Arrived → List Token → List Packet
on_wire plan port a wire = read (passed_on (net_of plan) port a.got a.mark) (a.buffer ++ wire)

-- the packet that has come whole into a switch
abbrev pub marked : List ℕ → Option Mark → List Packet
marked got None = []
marked got (Some m) = record { body = got; mark = m } ∷ []

abbrev pub inside : Arrived → List Packet
inside a = marked a.got a.mark

abbrev pub in_ways : {P : Type 0} → Plan → Network (Actor P) Token → ℕ → List (Place × Packet)
in_ways plan s zero = []
in_ways plan s (suc w) =
    let a = arrived (vcps s) (switches plan s) (far plan w) in
    ((at_place (Queue w) (queue_at (λ n. (vcps s n).carrier) (near plan w)) ++ at_place (OnWire w) (on_wire plan (far plan w) a (s.way w))) ++ at_place (Inside w) (inside a)) ++ in_ways plan s w

abbrev pub in_halves : {P : Type 0} → Plan → Network (Actor P) Token → ℕ → List (Place × Packet)
in_halves plan s zero = []
in_halves plan s (suc c) = at_place (Held c) (of_held ((vcps s (sink_node plan (home plan c))).carrier.into c).held) ++ in_halves plan s c

-- every packet in the network, with its place
abbrev pub everywhere : {P : Type 0} → Plan → Network (Actor P) Token → List (Place × Packet)
everywhere plan s = in_ways plan s (ways plan) ++ in_halves plan s (length plan.channels)

-- a communication with the node that makes it; the parts of such a list
abbrev pub Said : Type 0
Said = ℕ × (ℕ × Comm)

abbrev pub said_by : ℕ → List Said → List (ℕ × Comm)
said_by n [] = []
said_by n ((m, k) ∷ ks) = if m == n then k ∷ said_by n ks else said_by n ks

abbrev pub all_said : List Said → List (ℕ × Comm)
all_said ks = map (λ k. k.1) ks
