-- Where no event can happen but moves of processes, where the packets are then, and how many other events can come before.
use Rattle.std.specs.Prelude.{◌≡◌, ℕ, ◌≤◌, ◌<◌, Bool, false, List, [], length, map, Some}
use Rattle.std.specs.List.{AllByRecursion, Contains}
use Rattle.vc_network.specs.Actors.{Network}
use Rattle.vc_packets.specs.declared.packet.Packet.{Packet}
use Rattle.vc_tokens.specs.Tokens.{Token}
use Rattle.vc_machine.specs.Places.{Place, Queue, OnWire, Inside, Held}
use Rattle.vc_network.specs.Network.{Actor, HappenAll}
use Rattle.vc_network.specs.Plan.{Plan, Way, home, ways}
use Rattle.vc_network.specs.Views.{vcps, sink_node, everywhere}
use Rattle.vc_accepted.specs.NetworkOf.{network_of}
use Rattle.vc_accepted.specs.Process.{does}
use Rattle.vc_switch.specs.Waiting.{Wormhole}
use Rattle.vc_plan.specs.Dependencies.{HasRanks}
use Rattle.vc_plan.specs.declared.plan.Plan.{Plan as Given}
use Rattle.vc_actor.specs.declared.act.Act.{Act}
use Rattle.vc_actor.specs.declared.act.Act.TheVariants.{Proc, Take, Put, Route, Fct, Pass}
use Rattle.vc_core.specs.PossibleEvents.{NetworkState, CanHappen}
use Rattle.vc_core.specs.PacketPlace.{IsUnfinishedIn}
use Rattle.vc_core.specs.Replay.{Reached}
use Rattle.vc_core.specs.State.{State, shown, event_of}
use Rattle.vc_core.specs.declared.event.Event.{Event}

-- a move of the actor's process
abbrev pub IsMove : Act → Type 0
IsMove (Proc made) = Unit {0}
IsMove (Take link word) = ⊥
IsMove (Put link) = ⊥
IsMove (Route input output) = ⊥
IsMove (Fct link) = ⊥
IsMove (Pass link) = ⊥

-- each event that can happen is a move of a process
abbrev pub OnlyMoves : Given → State → Type 0
OnlyMoves p s = (e : Event) → CanHappen p s e → IsMove e.act

-- it is no move of a process
abbrev pub NoMove : Event → Type 0
NoMove e = IsMove e.act → ⊥

-- the place is a receiver's half
abbrev pub IsHeld : Place → Type 0
IsHeld (Queue w) = ⊥
IsHeld (OnWire w) = ⊥
IsHeld (Inside w) = ⊥
IsHeld (Held c) = Unit {0}

-- every packet is held at its receiver, and no way carries a token
pub record AllIsHeld {P : Type 0} (plan : Plan) (s : Network (Actor P) Token) : Type 0 where
  pub packets : (x : Place × Packet) → Contains (everywhere plan s) x → IsHeld x.0
  pub ways : (w : ℕ) → w < ways plan → s.way w ≡ []

-- a packet is held at the inputting end of channel c, where no input has begun
pub record IsUnasked {P : Type 0} (plan : Plan) (s : Network (Actor P) Token) (c : ℕ) : Type 0 where
  pub packet : Packet
  pub held : ((vcps s (sink_node plan (home plan c))).carrier.into c).held ≡ Some packet
  pub unasked : ((vcps s (sink_node plan (home plan c))).carrier.into c).wants ≡ false

-- Every packet is held at its receiver, and no way carries a token. The packet of each unfinished output is held where no input has begun.
pub record IsHeldUp (p : Given) (x : NetworkState) : Type 0 where
  pub packets : AllIsHeld (network_of p) x
  pub outputs : (c v : ℕ) (ab : Bool) → home (network_of p) c ≡ Way v ab → c < length (network_of p).channels →
      IsUnfinishedIn p x c → IsUnasked (network_of p) x c

-- wherever a run has come, if the network's ports have ranks, and no event can happen but moves of processes, it is held up so
abbrev pub OnlyProcessesHold : Type 0
OnlyProcessesHold = (p : Given) (made : List Event) (s : State) → HasRanks p → Reached p made s → OnlyMoves p s → IsHeldUp p (shown s)

-- no list of events without moves of processes that can happen from here on is longer
abbrev pub BoundsEvents : Given → State → ℕ → Type 0
BoundsEvents p s bound =
    (later : List Event) (x : NetworkState) → AllByRecursion NoMove later → HappenAll (network_of p) Wormhole does (shown s) (map event_of later) x → length later ≤ bound

-- wherever a run has come, if the network's ports have ranks, there is such a bound
abbrev pub EndsWithoutMoves : Type 0
EndsWithoutMoves = (p : Given) (made : List Event) (s : State) → HasRanks p → Reached p made s → (bound : ℕ) × BoundsEvents p s bound
