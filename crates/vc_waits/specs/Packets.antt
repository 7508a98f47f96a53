-- Where the packets of a network are, as lines of text.
use Rattle.std.specs.Prelude.{◌≡◌, ℕ, true, false, List, [], ◌++◌, length, codes, decimal, Bool, Option, Some, None, Result, OnOk, ⊤, slice_get}
use Rattle.std.specs.List.{enumerate_from, flat_map}
use Rattle.std.specs.Option.{option_map_or}
use Rattle.vc_accepted.specs.NetworkOf.{network_of}
use Rattle.vc_core.specs.PossibleEvents.{NetworkState}
use Rattle.vc_core.specs.PacketPlace.{IsNamed}
use Rattle.vc_core.specs.declared.place.Place.{Place as Name}
use Rattle.vc_core.specs.declared.place.Place.TheVariants.{Queue, Wire, Inside, Held}
use Rattle.vc_machine.specs.Places.{Place}
use Rattle.vc_network.specs.Headline.{IsPlaceOf}
use Rattle.vc_network.specs.Plan.{home, is_virtual}
use Rattle.vc_packets.specs.declared.memory.Memory.{Memory}
use Rattle.vc_plan.specs.Names.{channel_name, node_name, switch_name}
use Rattle.vc_plan.specs.declared.plan.Plan.{Plan}
use Rattle.vc_plan.specs.declared.port.Wire.{Wire as PlanWire}
use Rattle.vc_waits.specs.Ports.{port_text}
use Rattle.vc_waits.specs.Waits.{newline, processes_text}

-- a packet of channel c stands there, and the channel is on a virtual link
pub record Stands (p : Plan) (x : NetworkState) (c : ℕ) (place : Place) : Type 0 where
  pub on_link : is_virtual (home (network_of p) c) ≡ true
  pub here : IsPlaceOf (network_of p) x c place

-- where a packet of channel c stands, or nowhere where none does
abbrev pub FindsPlace : Plan → NetworkState → ℕ → Option Name → Type 0
FindsPlace p x c None = (place : Place) → Stands p x c place → ⊥
FindsPlace p x c (Some name) = (place : Place) × Stands p x c place × IsNamed (network_of p) place name

-- so for each channel in order
pub record ArePlaces (p : Plan) (x : NetworkState) (places : List (Option Name)) : Type 0 where
  pub count : length places ≡ length p.channels
  pub each : (c : ℕ) (found : Option Name) → slice_get places c ≡ Some found → FindsPlace p x c found

-- a wire from the port where the packet went in
abbrev pub ports_text : Plan → PlanWire → Bool → List ℕ
ports_text plan w true = port_text plan w.one ++ codes " " ++ port_text plan w.two
ports_text plan w false = port_text plan w.two ++ codes " " ++ port_text plan w.one

-- the wire of a number, by its ports
abbrev pub wire_text : Plan → ℕ → Bool → List ℕ
wire_text plan w from_one = option_map_or (λ wire. ports_text plan wire from_one) (slice_get plan.wires w) []

abbrev pub place_text : Plan → Name → List ℕ
place_text plan (Queue n) = codes " queued at " ++ node_name plan n
place_text plan (Wire w from_one) = codes " on the wire " ++ wire_text plan w from_one
place_text plan (Inside k link) = codes " in " ++ switch_name plan k ++ codes " at link " ++ decimal link
place_text plan (Held n) = codes " held at " ++ node_name plan n

-- the packet of channel c, where it has one
abbrev pub packet_line : Plan → ℕ × Option Name → List ℕ
packet_line plan (c, None) = []
packet_line plan (c, Some place) = codes "packet " ++ channel_name plan c ++ place_text plan place ++ newline

abbrev pub packets_text : Plan → List (Option Name) → List ℕ
packets_text plan places = flat_map (packet_line plan) (enumerate_from 0 places)

-- the text of who waits for what, and of where the packets are
abbrev pub IsWaitsText : Plan → NetworkState → List ℕ → Type 0
IsWaitsText p x text = (places : List (Option Name)) × ArePlaces p x places × (text ≡ processes_text p x ++ packets_text p places)

-- where there is memory such a text stands behind what stood there
abbrev pub AddsWaits : Plan → NetworkState → List ℕ → List ℕ → Result ⊤ Memory → Type 0
AddsWaits p x old new result = OnOk result ((text : List ℕ) × IsWaitsText p x text × (new ≡ old ++ text))
