-- Where the packet of a channel stands, and how the place is named.
use Rattle.std.specs.Prelude.{◌≡◌, ℕ, suc, ◌/◌, ◌%◌, ◌==◌, true, length, Option, Some, None}
use Rattle.vc_machine.specs.Paths.{AtNode, AtSwitch}
use Rattle.vc_machine.specs.Places.{Place, Queue, OnWire, Inside, Held}
use Rattle.vc_network.specs.Headline.{IsPlaceOf}
use Rattle.vc_network.specs.Plan.{Plan, near, far, home, is_virtual}
use Rattle.vc_network.specs.Views.{view, sink_node}
use Rattle.vc_plan.specs.declared.plan.Plan.{Plan as Given}
use Rattle.vc_accepted.specs.NetworkOf.{network_of}
use Rattle.vc_core.specs.PossibleEvents.{NetworkState}
use Rattle.vc_core.specs.State.{State, shown}
use Rattle.vc_core.specs.declared.place.Place.{Place as Name}
use Rattle.vc_core.specs.declared.place.Place.TheVariants as name

-- a queue is named by its node, a way by its wire and whether it goes from port one, an input by its switch and link, and what is held by its node
abbrev pub IsNamed : Plan → Place → Name → Type 0
IsNamed plan (Queue w) x = (n link : ℕ) × (near plan w ≡ AtNode n link) × (x ≡ name.Queue n)
IsNamed plan (OnWire w) x = x ≡ name.Wire (w / 2) (w % 2 == 0)
IsNamed plan (Inside w) x = (k link : ℕ) × (far plan w ≡ AtSwitch k link) × (x ≡ name.Inside k link)
IsNamed plan (Held c) x = x ≡ name.Held (sink_node plan (home plan c))

-- a packet of channel c stands there, and the channel is on a virtual link: one inside a node has no packets
pub record Stands (p : Given) (s : State) (c : ℕ) (place : Place) : Type 0 where
  pub on_link : is_virtual (home (network_of p) c) ≡ true
  pub here : IsPlaceOf (network_of p) (shown s) c place

-- where a packet of channel c stands, or nowhere where none does
abbrev pub FindsPlace : Given → State → ℕ → Option Name → Type 0
FindsPlace p s c None = (place : Place) → Stands p s c place → ⊥
FindsPlace p s c (Some x) = (place : Place) × Stands p s c place × IsNamed (network_of p) place x

-- one output on the channel is not finished
abbrev pub IsUnfinishedIn : Given → NetworkState → ℕ → Type 0
IsUnfinishedIn p x c = length (view (network_of p) x c).offered ≡ suc (view (network_of p) x c).finished

abbrev pub IsUnfinished : Given → State → ℕ → Type 0
IsUnfinished p s c = IsUnfinishedIn p (shown s) c
