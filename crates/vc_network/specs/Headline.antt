-- The headline: first in, first out, each once.
use Rattle.std.specs.Prelude.{◌≡◌, ◌⊎◌, ℕ, suc, ◌≤◌, ◌<◌, Bool, true, List, [], ◌∷◌, length, Some, Contains}
use Rattle.vc_network.specs.Actors.{Network, ActBy}
use Rattle.vc_packets.specs.declared.packet.Packet.{Packet}
use Rattle.vc_tokens.specs.Tokens.{Token}
use Rattle.vc_switch.specs.Waiting.{Waiting}
use Rattle.vc_vcp.specs.Links.{new_link}
use Rattle.vc_machine.specs.Rendezvous.{Comm, Out, In, Fin, IsPrefixOf, DoesAll, part}
use Rattle.vc_machine.specs.Paths.{AtNode, AtSwitch}
use Rattle.vc_switch.specs.Switch.{new_input}
use Rattle.vc_machine.specs.Places.{Place, BelongsTo, Number}
use Rattle.vc_network.specs.Plan.{Plan, Home, Way, Inside, home, net_of, IsOutOf, IsInto, IsAccepted}
use Rattle.vc_network.specs.Processes.{StepRelation, Trace}
use Rattle.vc_network.specs.Network.{Act, Node, Actor, IsNode, begins, Happens, HappenAll}
use Rattle.vc_network.specs.Views.{vcps, switches, sink_node, view, everywhere, Said, said_by, all_said}

-- what holds of channel c
pub record IsFaithful {P : Type 0} (plan : Plan) (s : Network (Actor P) Token) (c : ℕ) : Type 0 where
  pub in_order : IsPrefixOf (view plan s c).taken (view plan s c).offered
  pub finished : (view plan s c).finished ≤ length (view plan s c).taken
  -- at most one output is unfinished
  pub one_output : length (view plan s c).offered ≤ suc (view plan s c).finished

-- what holds besides of a channel on a virtual link: while an output is unfinished, one packet belongs to it
pub record HasItsPacket {P : Type 0} (plan : Plan) (s : Network (Actor P) Token) (c : ℕ) : Type 0 where
  pub one_packet : length (view plan s c).offered ≡ suc (view plan s c).finished → Number (BelongsTo (net_of plan) c) (everywhere plan s) 1
  pub no_packet : length (view plan s c).offered ≡ (view plan s c).finished → Number (BelongsTo (net_of plan) c) (everywhere plan s) 0

-- the place of channel c's packet
abbrev pub IsPlaceOf : {P : Type 0} → Plan → Network (Actor P) Token → ℕ → Place → Type 0
IsPlaceOf plan s c place = (p : Packet) × Contains (everywhere plan s) (place, p) × BelongsTo (net_of plan) c (place, p)

-- one list of all communications from a state to a later one: each node's part is a trace of its process, nobody else has a part, and each
-- channel's part is a run of the channel
pub record AreTold {P : Type 0} (plan : Plan) (Does : StepRelation P) (s t : Network (Actor P) Token) (ks : List Said) : Type 0 where
  pub by_node : (n : ℕ) → n < plan.nodes → (a : Node P) × (b : Node P) × (s.state n ≡ IsNode a) × (t.state n ≡ IsNode b) × Trace Does a.process (said_by n ks) b.process
  pub by_no_other : (n : ℕ) → plan.nodes ≤ n → said_by n ks ≡ []
  pub on_channel : (c : ℕ) → DoesAll (view plan s c) (part c (all_said ks)) (view plan t c)

-- packets and tokens stand nowhere but where `everywhere` counts them
pub record NowhereElse {P : Type 0} (plan : Plan) (s : Network (Actor P) Token) : Type 0 where
  pub queued : (n link : ℕ) (p : Packet) (ps : List Packet) → (vcps s n).carrier.queue link ≡ p ∷ ps → (w : ℕ) × IsOutOf plan w (AtNode n link)
  pub at_node : (n link : ℕ) → ((vcps s n).link link ≡ new_link) ⊎ ((w : ℕ) × IsInto plan w (AtNode n link))
  pub at_switch : (k link : ℕ) → ((switches plan s k).input link ≡ new_input) ⊎ ((w : ℕ) × IsInto plan w (AtSwitch k link))
  pub held : (n c : ℕ) (p : Packet) → ((vcps s n).carrier.into c).held ≡ Some p → (c < length plan.channels) × (sink_node plan (home plan c) ≡ n)

-- what one event is to a channel: no step, one, or, where an output and an input meet inside a node, an offer, its input and its end
pub data ByOneEvent (h : Home) : List Comm → Type 0 where
  no_step : ByOneEvent h []
  one_step : (k : Comm) → ByOneEvent h (k ∷ [])
  exchange : (n : ℕ) (m : List ℕ) → h ≡ Inside n → ByOneEvent h (Out m ∷ In m ∷ Fin ∷ [])

pub record Headline {P : Type 0} (plan : Plan) (waiting : Waiting) (Does : StepRelation P) (s : Network (Actor P) Token) : Type 0 where
  pub faithful : (c : ℕ) → c < length plan.channels → IsFaithful plan s c
  pub packets : (c v : ℕ) (ab : Bool) → c < length plan.channels → home plan c ≡ Way v ab → HasItsPacket plan s c
  pub nowhere_else : NowhereElse plan s
  -- whatever happens from here on is told by a list behind what was told before; one event is a step of a channel at most, or an exchange
  -- inside a node
  pub along : (es : List (ActBy Act)) (t : Network (Actor P) Token) → HappenAll plan waiting Does s es t → (ks : List Said) × AreTold plan Does s t ks
  pub by_event : (c : ℕ) (e : ActBy Act) (t : Network (Actor P) Token) → Happens plan waiting Does s e t → (ks : List Comm) × ByOneEvent (home plan c) ks × DoesAll (view plan s c) ks (view plan t c)
  -- after a stop nothing more is taken
  pub stopped : (c : ℕ) (es : List (ActBy Act)) (t : Network (Actor P) Token) → c < length plan.channels → HappenAll plan waiting Does s es t →
      (view plan s c).stopped ≡ true → (view plan t c).taken ≡ (view plan s c).taken
  -- nothing is dropped
  pub no_strays : (n : ℕ) → (vcps s n).carrier.strays ≡ 0
  pub none_lost : (k : ℕ) → (switches plan s k).lost ≡ 0

-- the headline, and one list of all communications from the opening state on
abbrev pub HeadlineAndList : {P : Type 0} → Plan → Waiting → StepRelation P → (ℕ → P) → Network (Actor P) Token → Type 0
HeadlineAndList plan waiting Does begin s = Headline plan waiting Does s × ((ks : List Said) × AreTold plan Does (begins plan begin) s ks)

-- after any list of events that happens from the opening state of an accepted network
abbrev pub HeadlineHolds : {P : Type 0} → Plan → Waiting → StepRelation P → (ℕ → P) → Type 0
HeadlineHolds {P} plan waiting Does begin =
    (es : List (ActBy Act)) (s : Network (Actor P) Token) → IsAccepted plan → HappenAll plan waiting Does (begins plan begin) es s → HeadlineAndList plan waiting Does begin s
