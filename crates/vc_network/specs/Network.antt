-- The network as actors and ways that carry tokens: nodes with their processes, then switches.
use Rattle.std.specs.Prelude.{◌≡◌, ◌⊎◌, ℕ, suc, ◌+◌, ◌<◌, true, false, nat_lt, List, [], ◌∷◌, ◌++◌, Option, Some, None, if◌then◌else◌}
use Rattle.vc_network.specs.Actors.{Label, Steps, Step, Network, Alike, ActBy, act_of, opening}
use Rattle.vc_network.specs.Actors.Label.{Own, Takes, Puts}
use Rattle.vc_machine.specs.Paths.{Port, AtNode, AtSwitch}
use Rattle.vc_machine.specs.Rendezvous.{View, nothing_yet}
use Rattle.vc_packets.specs.Functions.{put}
use Rattle.vc_tokens.specs.Tokens.{Token}
use Rattle.vc_tokens.specs.Tokens as tokens
use Rattle.vc_switch.specs.Waiting.{Waiting}
use Rattle.vc_vcp.specs.Carrier.{End}
use Rattle.vc_vcp.specs.Steps as node
use Rattle.vc_vcp.specs.Links as links
use Rattle.vc_vcp.specs.Links.{Vcp, new_vcp}
use Rattle.vc_switch.specs.Switch.{Switch, new_switch}
use Rattle.vc_switch.specs.Switch as switch
use Rattle.vc_network.specs.Plan.{Plan, Inside, body_limit, home, ends, switch_plan, IsOutOf, IsInto}
use Rattle.vc_network.specs.Processes.{Move, Offer, Want, Choose, Stopch, Inner, Quiet, StepRelation}
use Rattle.vc_process.specs.ProcessStep.{Offers, Wants, Chooses, Stops, Meets, Rests, Finishes, Receives}

-- what an actor does in one step; a switch's Put names the output
pub data Act : Type 0 where
  Proc : Move → Act
  Take : (link word : ℕ) → Act
  Put : (link : ℕ) → Act
  Route : (input output : ℕ) → Act
  Fct : (link : ℕ) → Act  -- puts one FCT
  Pass : (link : ℕ) → Act  -- a token passes from the link's buffer

-- a node: its halves, send queues and links, its process, and the views of its inner channels
pub record Node (P : Type 0) : Type 0 where
  pub vcp : Vcp
  pub process : P
  pub inner : ℕ → View

pub data Actor (P : Type 0) : Type 0 where
  IsNode : Node P → Actor P
  IsSwitch : Switch → Actor P

-- a message is offered, taken and finished at once
abbrev pub exchanged : View → List ℕ → View
exchanged v m = record v { offered = v.offered ++ m ∷ []; taken = v.taken ++ m ∷ []; finished = suc v.finished }

-- the halves and queues change, and neither the links nor the inner channels
pub record ByHalves {P : Type 0} (old new : Node P) : Type 0 where
  pub link : new.vcp.link ≡ old.vcp.link
  pub inner : new.inner ≡ old.inner

-- channel c is inside node n
abbrev pub IsInside : Plan → ℕ → ℕ → Type 0
IsInside plan n c = home plan c ≡ Inside n

-- stopping a channel: in the halves, or inside the node
abbrev pub StopsChannel : {P : Type 0} → Plan → ℕ → Node P → ℕ → Node P → Type 0
StopsChannel plan n old c new =
    (node.Stops (ends plan n) old.vcp.carrier c new.vcp.carrier × ByHalves old new)
    ⊎ (IsInside plan n c × (new.vcp ≡ old.vcp) × (new.inner ≡ put old.inner c (record (old.inner c) { stopped = true })))

-- a move of the node's process
abbrev pub Moves : {P : Type 0} → Plan → StepRelation P → ℕ → Node P → Move → Node P → Type 0
Moves plan Does n old (Offer site c) new =
    (m : List ℕ) × Does old.process (Offers site c m) new.process × node.Offers (ends plan n) old.vcp.carrier c m new.vcp.carrier × ByHalves old new
Moves plan Does n old (Want site c) new =
    (answer : Option (List ℕ)) × (end : End) × Does old.process (Wants site c answer) new.process
    × node.IsOpen (ends plan n) old.vcp.carrier c end × node.Wants old.vcp.carrier c end answer new.vcp.carrier × ByHalves old new
Moves plan Does n old (Choose site guard c) new =
    (answer : Option (List ℕ)) × (end : End) × Does old.process (Chooses site guard c answer) new.process
    × node.IsOpen (ends plan n) old.vcp.carrier c end × node.Fetches old.vcp.carrier c end answer new.vcp.carrier × ByHalves old new
Moves plan Does n old (Stopch site c) new = Does old.process (Stops site c) new.process × StopsChannel plan n old c new
Moves plan Does n old (Inner sender receiver guard c) new =
    (m : List ℕ) × Does old.process (Meets sender receiver guard c m) new.process × IsInside plan n c × ((old.inner c).stopped ≡ false)
    × (new.vcp ≡ old.vcp) × (new.inner ≡ put old.inner c (exchanged (old.inner c) m))
Moves plan Does n old (Quiet site) new = Does old.process (Rests site) new.process × (new.vcp ≡ old.vcp) × (new.inner ≡ old.inner)

-- the process goes on where its message came or its output finished
abbrev pub GoesOn : {P : Type 0} → StepRelation P → P → Option node.Taken → P → Type 0
GoesOn Does old (Some (node.Complete c m)) new = Does old (Receives c m) new
GoesOn Does old (Some (node.Finished c)) new = Does old (Finishes c) new
GoesOn Does old (Some (node.Held c)) new = new ≡ old
GoesOn Does old (Some (node.Stored c)) new = new ≡ old
GoesOn Does old (Some (node.More c)) new = new ≡ old
GoesOn Does old (Some node.Stray) new = new ≡ old
GoesOn Does old None new = new ≡ old

-- only the links and queues change
pub record ByLinks {P : Type 0} (old new : Node P) : Type 0 where
  pub process : new.process ≡ old.process
  pub inner : new.inner ≡ old.inner

-- one step of node n
abbrev pub NodeStep : {P : Type 0} → Plan → StepRelation P → ℕ → Node P → Label Act Token → Node P → Type 0
NodeStep plan Does n old (Own (Proc move)) new = Moves plan Does n old move new
NodeStep plan Does n old (Own (Pass l)) new =
    (taken : Option node.Taken) × links.Passes (body_limit plan) (ends plan n) old.vcp l taken new.vcp × GoesOn Does old.process taken new.process × (new.inner ≡ old.inner)
NodeStep plan Does n old (Takes (Take l word) way k) new = IsInto plan way (AtNode n l) × links.Comes old.vcp l k new.vcp × ByLinks old new
NodeStep plan Does n old (Puts (Put l) way k) new = IsOutOf plan way (AtNode n l) × links.Sends old.vcp l k new.vcp × ByLinks old new
NodeStep plan Does n old (Puts (Fct l) way k) new = IsOutOf plan way (AtNode n l) × (k ≡ tokens.Fct) × links.SendsFct old.vcp l new.vcp × ByLinks old new
NodeStep plan Does n old _ new = ⊥

-- one step of switch i
abbrev pub SwitchStep : Plan → Waiting → ℕ → Switch → Label Act Token → Switch → Type 0
SwitchStep plan waiting i old (Own (Route input output)) new = switch.Routes (switch_plan plan i) waiting old input output new
SwitchStep plan waiting i old (Own (Pass l)) new = switch.Passes (body_limit plan) (switch_plan plan i) old l new
SwitchStep plan waiting i old (Takes (Take l word) way k) new = IsInto plan way (AtSwitch i l) × switch.Comes old l word k new
SwitchStep plan waiting i old (Puts (Put l) way k) new = IsOutOf plan way (AtSwitch i l) × switch.Sends (switch_plan plan i) waiting old l k new
SwitchStep plan waiting i old (Puts (Fct l) way k) new = IsOutOf plan way (AtSwitch i l) × (k ≡ tokens.Fct) × switch.SendsFct old l new
SwitchStep plan waiting i old _ new = ⊥

-- the steps of all actors
abbrev pub Local : {P : Type 0} → Plan → Waiting → StepRelation P → Steps (Actor P) Act Token
Local plan waiting Does actor (IsNode old) label (IsNode new) = (actor < plan.nodes) × NodeStep plan Does actor old label new
Local plan waiting Does actor (IsSwitch old) label (IsSwitch new) = (i : ℕ) × (actor ≡ plan.nodes + i) × SwitchStep plan waiting i old label new
Local plan waiting Does actor _ label _ = ⊥

-- each actor at first, where begin n is the process of node n
abbrev pub first : {P : Type 0} → Plan → (ℕ → P) → ℕ → Actor P
first plan begin actor =
    if nat_lt actor plan.nodes then IsNode (record { vcp = new_vcp; process = begin actor; inner = λ c. nothing_yet }) else IsSwitch new_switch

-- the opening state
abbrev pub begins : {P : Type 0} → Plan → (ℕ → P) → Network (Actor P) Token
begins plan begin = opening (first plan begin)

-- the actor at a port: a way's source is at its near end, and its sink at its far end
abbrev pub actor_at : Plan → Port → ℕ
actor_at plan (AtNode n link) = n
actor_at plan (AtSwitch i link) = plan.nodes + i

-- A step of the network by an event: one actor's act, whatever item it takes or puts.
abbrev pub Happens : {P : Type 0} → Plan → Waiting → StepRelation P → Network (Actor P) Token → ActBy Act → Network (Actor P) Token → Type 0
Happens plan waiting Does old e new = (label : Label Act Token) × (act_of label ≡ e.act) × Step (Local plan waiting Does) old e.actor label new

-- a list of events, each in its turn
abbrev pub HappenAll : {P : Type 0} → Plan → Waiting → StepRelation P → Network (Actor P) Token → List (ActBy Act) → Network (Actor P) Token → Type 0
HappenAll plan waiting Does old [] new = Alike old new
HappenAll {P} plan waiting Does old (e ∷ es) new = (mid : Network (Actor P) Token) × Happens plan waiting Does old e mid × HappenAll plan waiting Does mid es new
