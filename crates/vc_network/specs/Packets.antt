-- The packets of a network: the state of the packet machine that its tokens stand for. A packet stands where its mark stands.
use Rattle.std.specs.Prelude.{◌≡◌, ℕ, ◌<◌, List, [], ◌∷◌, Option, Some, None}
use Rattle.vc_network.specs.Actors.{Network, ActBy}
use Rattle.vc_machine.specs.Machine.{State, ChanState, Input, Empty, Full, Event, Enter, Route, Run, start}
use Rattle.vc_machine.specs.Paths.{Port, AtNode, AtSwitch}
use Rattle.vc_packets.specs.declared.mark.Mark.{Mark}
use Rattle.vc_switch.specs.Switch.{Switch}
use Rattle.vc_switch.specs.Switch as switch
use Rattle.vc_switch.specs.Waiting.{Waiting}
use Rattle.vc_tokens.specs.Tokens.{Token}
use Rattle.vc_vcp.specs.Carrier.{OutHalf, InHalf}
use Rattle.vc_network.specs.Network.{Act, Actor, begins, Happens, HappenAll}
use Rattle.vc_network.specs.Plan.{Plan, home, ways, near, far, net_of, IsOutOf, IsAccepted}
use Rattle.vc_network.specs.Processes.{StepRelation}
use Rattle.vc_network.specs.Views.{vcps, switches, source_node, sink_node, queue_at, arrived, on_wire}

-- a channel from its two halves
abbrev pub of_halves : OutHalf → InHalf → ChanState
of_halves x y = record {
  unacked = x.unacked;
  offered = x.offered;
  finished = x.finished;
  wants = y.wants;
  stopped = y.stopped;
  held = y.held;
  stored = y.stored;
  taken = y.taken;
}

-- bound to the link, and to the way that leaves by it
abbrev pub SameBound : Plan → ℕ → Option ℕ → Option ℕ → Type 0
SameBound plan k None b = b ≡ None
SameBound plan k (Some l) b = (out : ℕ) × (b ≡ Some out) × IsOutOf plan out (AtSwitch k l)

-- a packet is in the input where its mark is
abbrev pub IsMarked : Plan → ℕ → Option Mark → switch.Input → Input → Type 0
IsMarked plan k None x input = input ≡ Empty
IsMarked plan k (Some m) x input = (b : Option ℕ) × (input ≡ Full (record { body = x.got; mark = m }) b) × SameBound plan k x.bound b

-- what a way's far end keeps: a node keeps no packet there
abbrev pub IsInputAt : Plan → (ℕ → Switch) → Port → Input → Type 0
IsInputAt plan sw (AtNode n l) input = input ≡ Empty
IsInputAt plan sw (AtSwitch k l) input = IsMarked plan k ((sw k).input l).mark ((sw k).input l) input

-- the tokens of the network stand for the packets of x
pub record StandsForPackets {P : Type 0} (plan : Plan) (s : Network (Actor P) Token) (x : State) : Type 0 where
  pub queue : (w : ℕ) → w < ways plan → (x.ways w).queue ≡ queue_at (λ n. (vcps s n).carrier) (near plan w)
  pub line : (w : ℕ) → w < ways plan → (x.ways w).line ≡ on_wire plan (far plan w) (arrived (vcps s) (switches plan s) (far plan w)) (s.way w)
  pub input : (w : ℕ) → w < ways plan → IsInputAt plan (switches plan s) (far plan w) (x.ways w).input
  pub chan : (c : ℕ) → x.chans c ≡ of_halves ((vcps s (source_node plan (home plan c))).carrier.out c) ((vcps s (sink_node plan (home plan c))).carrier.into c)

-- no step, one step, or a packet enters a switch and is bound at once
pub data AtMostTwoSteps : List Event → Type 0 where
  no_step : AtMostTwoSteps []
  one_step : (e : Event) → AtMostTwoSteps (e ∷ [])
  enters_bound : (w out : ℕ) (drawn : Option ℕ) → AtMostTwoSteps (Enter w drawn ∷ Route w out ∷ [])

-- the network's packets are where a run of the packet machine leads, and one event more is at most two steps more
pub record IsRunOfPackets {P : Type 0} (plan : Plan) (waiting : Waiting) (Does : StepRelation P) (s : Network (Actor P) Token) : Type 0 where
  pub state : State
  pub events : List Event
  pub run : Run (net_of plan) start events state
  pub stands : StandsForPackets plan s state
  pub next : (e : ActBy Act) (u : Network (Actor P) Token) → Happens plan waiting Does s e u →
      (y : State) × (steps : List Event) × AtMostTwoSteps steps × Run (net_of plan) state steps y × StandsForPackets plan u y

-- so it is after any list of events
abbrev pub EventsAreSteps : {P : Type 0} → Plan → Waiting → StepRelation P → (ℕ → P) → Type 0
EventsAreSteps {P} plan waiting Does begin =
    (es : List (ActBy Act)) (s : Network (Actor P) Token) → IsAccepted plan → HappenAll plan waiting Does (begins plan begin) es s → IsRunOfPackets plan waiting Does s
