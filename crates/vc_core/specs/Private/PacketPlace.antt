-- Where the packet of a channel stands, and how the place is named.
use Rattle.std.specs.Prelude.{◌≡◌, ◌⊎◌, ℕ, List, Option, Some, None}
use Rattle.std.specs.List.{Contains}
use Rattle.vc_network.specs.Actors.{Network}
use Rattle.vc_packets.specs.declared.packet.Packet.{Packet}
use Rattle.vc_tokens.specs.Tokens.{Token}
use Rattle.vc_machine.specs.Places.{Place, Queue, OnWire, Inside, Held, BelongsTo, of_held}
use Rattle.vc_network.specs.Plan.{Plan, ways, near, far, home, net_of}
use Rattle.vc_network.specs.Network.{Actor}
use Rattle.vc_network.specs.Views.{sink_node, vcps, switches, queue_at, arrived, on_wire, inside, in_ways}
use Rattle.vc_core.specs.Private.Targets.{Has, IsOwned}
use Rattle.vc_core.specs.declared.place.Place.{Place as Name}
use Rattle.vc_core.specs.PacketPlace.{IsNamed}

-- each packet in a queue, on a way or in a switch belongs to a channel, and is no longer than the limit
abbrev pub AreOwned : {P : Type 0} → Plan → Network (Actor P) Token → Type 0
AreOwned plan s = (x : Place × Packet) → Contains (in_ways plan s (ways plan)) x → IsOwned plan x

-- the packets at a place
abbrev pub packets_at : {P : Type 0} → Plan → Network (Actor P) Token → Place → List Packet
packets_at plan s (Queue w) = queue_at (λ n. (vcps s n).carrier) (near plan w)
packets_at plan s (OnWire w) = on_wire plan (far plan w) (arrived (vcps s) (switches plan s) (far plan w)) (s.way w)
packets_at plan s (Inside w) = inside (arrived (vcps s) (switches plan s) (far plan w))
packets_at plan s (Held c) = of_held ((vcps s (sink_node plan (home plan c))).carrier.into c).held

-- one of channel c's is there
abbrev pub HasIts : {P : Type 0} → Plan → Network (Actor P) Token → ℕ → Place → Type 0
HasIts plan s c place = Has (λ q. BelongsTo (net_of plan) c (place, q)) (packets_at plan s place)

-- where one of channel c's packets is at this place, its name
abbrev pub FindsAt : {P : Type 0} → Plan → Network (Actor P) Token → ℕ → Place → Option Name → Type 0
FindsAt plan s c place None = HasIts plan s c place → ⊥
FindsAt plan s c place (Some x) = HasIts plan s c place × IsNamed plan place x

-- the queue at the near end of way w, the way, and the input of the switch at its far end
abbrev pub IsAt : ℕ → Place → Type 0
IsAt w place = (place ≡ Queue w) ⊎ ((place ≡ OnWire w) ⊎ (place ≡ Inside w))

-- where at way w one of channel c's packets stands
abbrev pub FindsOn : {P : Type 0} → Plan → Network (Actor P) Token → ℕ → ℕ → Option Name → Type 0
FindsOn plan s c w None = (place : Place) → IsAt w place → HasIts plan s c place → ⊥
FindsOn plan s c w (Some x) = (place : Place) × IsAt w place × FindsAt plan s c place (Some x)
