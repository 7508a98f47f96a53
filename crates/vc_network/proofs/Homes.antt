-- Packets and tokens stand only where a way leads: in queues of wired links, in inputs that a way enters, and in the half that inputs.
use Rattle.std.proofs.Common.{◌≡◌, ℕ, ◌<◌, ◌⊎◌, inl, inr, Bool, true, List, [], ◌∷◌, ◌++◌, Option, Some, refl, sym, ap, subst, ◌∙◌, length}
use Rattle.vc_packets.specs.Functions.{put}
use Rattle.vc_packets.specs.declared.packet.Packet.{Packet}
use Rattle.vc_packets.specs.Headers.{spelled}
use Rattle.vc_machine.specs.Paths.{AtNode, AtSwitch}
use Rattle.vc_switch.specs.Forward.{without_portals}
use Rattle.vc_machine.proofs.Basics.{every_put}
use Rattle.vc_vcp.specs.Carrier.{Carrier, InHalf, set_in, set_out, enqueue, new_carrier, End as NodeEnd}
use Rattle.vc_vcp.specs.Steps as node
use Rattle.vc_network.specs.Plan.{body_limit, Plan, home, ends, switch_plan, IsWired, IsInto, IsAccepted}
use Rattle.vc_tokens.specs.Tokens.{Token, Byte, Fct, EndMark}
use Rattle.vc_vcp.specs.Links.{Link, Vcp, new_link, new_vcp, unqueued, Passes, passes_byte, drops_byte, passes_mark}
use Rattle.vc_switch.specs.Switch.{Switch, Input, new_input}
use Rattle.vc_switch.specs.Switch as switch
use Rattle.vc_network.specs.Views.{sink_node}
use Rattle.vc_network.proofs.Wiring.{OutputsHere, InputsHere, outputs_here, inputs_here}

-- node n inputs on channel c
abbrev pub IsHome : Plan → ℕ → ℕ → Type 0
IsHome plan n c = (c < length plan.channels) × (sink_node plan (home plan c) ≡ n)

pub record CarrierHomed (plan : Plan) (n : ℕ) (a : Carrier) : Type 0 where
  pub queue : (link : ℕ) (p : Packet) (ps : List Packet) → a.queue link ≡ p ∷ ps → IsWired plan (AtNode n link)
  pub held : (c : ℕ) (p : Packet) → (a.into c).held ≡ Some p → IsHome plan n c

pub new_homed : (plan : Plan) (n : ℕ) → CarrierHomed plan n new_carrier
new_homed plan n = record { queue = λ link p ps e. absurd (cc); held = λ c p e. absurd (cc) }

enqueue_homed : (plan : Plan) (n link : ℕ) (a : Carrier) (p : Packet) → IsWired plan (AtNode n link) → CarrierHomed plan n a → CarrierHomed plan n (enqueue a link p)
enqueue_homed plan n link a p wired h =
    record {
      queue = every_put (λ j y. (p : Packet) (ps : List Packet) → y ≡ p ∷ ps → IsWired plan (AtNode n j)) a.queue link (a.queue link ++ p ∷ []) (λ p ps e. wired) (λ j ne. h.queue j);
      held = h.held;
    }

in_homed : (plan : Plan) (n c : ℕ) (a : Carrier) (y : InHalf) → ((p : Packet) → y.held ≡ Some p → IsHome plan n c) → CarrierHomed plan n a → CarrierHomed plan n (set_in a c y)
in_homed plan n c a y ok h =
    record {
      queue = h.queue;
      held = every_put (λ j z. (p : Packet) → z.held ≡ Some p → IsHome plan n j) a.into c y ok (λ j ne. h.held j);
    }

out_wired : (plan : Plan) (n c : ℕ) (end : NodeEnd) → OutputsHere plan n c end → IsWired plan (AtNode n end.link)
out_wired plan n c end o = subst (λ z. IsWired plan (AtNode n z.link)) (sym o.end_is) (subst (λ m. IsWired plan (AtNode m o.plan_end.link)) o.node (_, o.wired))

in_wired : (plan : Plan) (n c : ℕ) (end : NodeEnd) → InputsHere plan n c end → IsWired plan (AtNode n end.link)
in_wired plan n c end o = subst (λ z. IsWired plan (AtNode n z.link)) (sym o.end_is) (subst (λ m. IsWired plan (AtNode m o.plan_end.link)) o.node (_, o.wired))

pub offers_homed : (plan : Plan) (n c : ℕ) (m : List ℕ) (a b : Carrier) → IsAccepted plan → node.Offers (ends plan n) a c m b → CarrierHomed plan n a → CarrierHomed plan n b
offers_homed plan n c m a b acc h i =
    subst (CarrierHomed plan n) (sym h.after) (enqueue_homed plan n h.end.link (set_out a c _) _ (out_wired plan n c h.end (outputs_here plan n c h.end acc h.here)) (record { queue = i.queue; held = i.held }))

accept_homed : (plan : Plan) (n c : ℕ) (end : NodeEnd) (load : List ℕ) (last : Bool) (a : Carrier) → InputsHere plan n c end → CarrierHomed plan n a → CarrierHomed plan n (node.accept a c end load last)
accept_homed plan n c end load last a o h =
    enqueue_homed plan n end.link (set_in a c (node.store (a.into c) load last)) _ (in_wired plan n c end o) (in_homed plan n c a (node.store (a.into c) load last) (λ p e. (o.carries.0, o.sink)) h)

pub fetches_homed : (plan : Plan) (n c : ℕ) (end : NodeEnd) (answer : Option (List ℕ)) (a b : Carrier) → IsAccepted plan → node.IsOpen (ends plan n) a c end → node.Fetches a c end answer b → CarrierHomed plan n a → CarrierHomed plan n b
fetches_homed plan n c end answer a b acc able h i = subst (CarrierHomed plan n) (sym h.after) (accept_homed plan n c end h.load h.last a (inputs_here plan n c end acc able.here) i)

pub wants_homed : (plan : Plan) (n c : ℕ) (end : NodeEnd) (answer : Option (List ℕ)) (a b : Carrier) → IsAccepted plan → node.IsOpen (ends plan n) a c end → node.Wants a c end answer b → CarrierHomed plan n a → CarrierHomed plan n b
wants_homed plan n c end answer a b acc able (node.fetches h) i = fetches_homed plan n c end answer a b acc able h i
wants_homed plan n c end answer a b acc able (node.waits held none after) i =
    subst (CarrierHomed plan n) (sym after) (in_homed plan n c a (record (a.into c) { wants = true }) (λ p e. i.held c p e) i)

pub stops_homed : (plan : Plan) (n c : ℕ) (a b : Carrier) → node.Stops (ends plan n) a c b → CarrierHomed plan n a → CarrierHomed plan n b
stops_homed plan n c a b h i = subst (CarrierHomed plan n) (sym h.after) (in_homed plan n c a (record (a.into c) { stopped = true }) (λ p e. i.held c p e) i)

-- a packet leaves its queue
queue_homed : (plan : Plan) (n link : ℕ) (p : Packet) (rest : List Packet) (a : Carrier) → a.queue link ≡ p ∷ rest → CarrierHomed plan n a → CarrierHomed plan n (record a { queue = put a.queue link rest })
queue_homed plan n link p rest a front h =
    record {
      queue = every_put (λ j y. (p : Packet) (ps : List Packet) → y ≡ p ∷ ps → IsWired plan (AtNode n j)) a.queue link rest (λ q qs e. h.queue link p rest front) (λ j ne. h.queue j);
      held = h.held;
    }

advance_homed : (plan : Plan) (n c : ℕ) (end : NodeEnd) (later : List (List ℕ)) (a : Carrier) → OutputsHere plan n c end → CarrierHomed plan n a → CarrierHomed plan n (node.advance a c end later)
advance_homed plan n c end [] a o h = record { queue = h.queue; held = h.held }
advance_homed plan n c end (d ∷ later) a o h = enqueue_homed plan n end.link (set_out a c _) _ (out_wired plan n c end o) (record { queue = h.queue; held = h.held })

pub arrives_homed : (plan : Plan) (n : ℕ) (p : Packet) (taken : node.Taken) (a b : Carrier) → IsAccepted plan → node.Arrives (ends plan n) a p taken b → CarrierHomed plan n a → CarrierHomed plan n b
arrives_homed plan n p taken a b acc (node.takes (node.stores c end load last here piece wants answer after)) i =
    subst (CarrierHomed plan n) (sym after) (accept_homed plan n c end load last a (inputs_here plan n c end acc here) i)
arrives_homed plan n p taken a b acc (node.takes (node.holds c end load last here piece wants held answer after)) i =
    subst (CarrierHomed plan n) (sym after) (in_homed plan n c a (record (a.into c) { held = Some p }) (λ q e. ((inputs_here plan n c end acc here).carries.0, (inputs_here plan n c end acc here).sink)) i)
arrives_homed plan n p taken a b acc (node.takes (node.advances c end now later here ack unacked answer after)) i =
    subst (CarrierHomed plan n) (sym after) (advance_homed plan n c end later a (outputs_here plan n c end acc here) i)
arrives_homed plan n p taken a b acc (node.stray nobody e after) i = subst (CarrierHomed plan n) (sym after) (record { queue = i.queue; held = i.held })

pub unqueued_homed : (plan : Plan) (n link : ℕ) (a : Carrier) (p : Packet) (rest : List Packet) (k : Token) → a.queue link ≡ p ∷ rest → CarrierHomed plan n a → CarrierHomed plan n (unqueued a link rest k)
unqueued_homed plan n link a p rest (EndMark m) front h = queue_homed plan n link p rest a front h
unqueued_homed plan n link a p rest (Byte b) front h = h
unqueued_homed plan n link a p rest Fct front h = h

-- a link's end is as at first where no way comes
pub record VcpHomed (plan : Plan) (n : ℕ) (a : Vcp) : Type 0 where
  pub carrier : CarrierHomed plan n a.carrier
  pub link : (l : ℕ) → (a.link l ≡ new_link) ⊎ ((w : ℕ) × IsInto plan w (AtNode n l))

abbrev pub SwitchHomed : Plan → ℕ → Switch → Type 0
SwitchHomed plan k a = (l : ℕ) → (a.input l ≡ new_input) ⊎ ((w : ℕ) × IsInto plan w (AtSwitch k l))

pub new_vcp_homed : (plan : Plan) (n : ℕ) → VcpHomed plan n new_vcp
new_vcp_homed plan n = record { carrier = new_homed plan n; link = λ l. inl refl }

-- the link of a way changes
pub link_homed : (plan : Plan) (n l w : ℕ) (a b : Vcp) (x : Link) → IsInto plan w (AtNode n l) → b.link ≡ put a.link l x → CarrierHomed plan n b.carrier → VcpHomed plan n a → VcpHomed plan n b
link_homed plan n l w a b x into e c h =
    record {
      carrier = c;
      link = subst (λ f. (j : ℕ) → (f j ≡ new_link) ⊎ ((w : ℕ) × IsInto plan w (AtNode n j))) (sym e)
          (every_put (λ j y. (y ≡ new_link) ⊎ ((w : ℕ) × IsInto plan w (AtNode n j))) a.link l x (inr (w, into)) (λ j ne. h.link j));
    }

pub halves_homed : (plan : Plan) (n : ℕ) (a b : Vcp) → b.link ≡ a.link → CarrierHomed plan n b.carrier → VcpHomed plan n a → VcpHomed plan n b
halves_homed plan n a b e c h = record { carrier = c; link = λ l. subst (λ f. (f l ≡ new_link) ⊎ ((w : ℕ) × IsInto plan w (AtNode n l))) (sym e) (h.link l) }

pub passes_carrier : (plan : Plan) (n l : ℕ) (taken : Option node.Taken) (a b : Vcp) → IsAccepted plan → Passes (body_limit plan) (ends plan n) a l taken b → CarrierHomed plan n a.carrier → CarrierHomed plan n b.carrier
passes_carrier plan n l taken a b acc (passes_byte c rest front none short h) i = subst (CarrierHomed plan n) (sym (ap (λ z. z.carrier) h)) i
passes_carrier plan n l taken a b acc (drops_byte c rest front none long h) i = subst (CarrierHomed plan n) (sym (ap (λ z. z.carrier) h)) (record { queue = i.queue; held = i.held })
passes_carrier plan n l taken a b acc (passes_mark m rest what carrier front some arrives h) i =
    subst (CarrierHomed plan n) (sym (ap (λ z. z.carrier) h)) (arrives_homed plan n (record { body = (a.link l).passed; mark = m }) what a.carrier carrier acc arrives i)

empty_buffer : (ts : List Token) (k : Token) (rest : List Token) → ts ≡ k ∷ rest → ts ≡ [] → ⊥
empty_buffer ts k rest e f = let q : [] ≡ k ∷ rest = sym f ∙ e in absurd (cc)

-- what passes came by a way
pub link_way : (plan : Plan) (n l : ℕ) (a b : Vcp) (taken : Option node.Taken) → VcpHomed plan n a → Passes (body_limit plan) (ends plan n) a l taken b → (w : ℕ) × IsInto plan w (AtNode n l)
link_way plan n l a b taken h p = elim (h.link l) [ inl e ↦ absurd (none_passes p (ap (λ (z : Link). z.receiver.buffer) e)) | inr w ↦ w ]
  where
    none_passes : Passes (body_limit plan) (ends plan n) a l taken b → (a.link l).receiver.buffer ≡ [] → ⊥
    none_passes (passes_byte c rest front none short h) e = empty_buffer (a.link l).receiver.buffer (Byte c) rest front e
    none_passes (drops_byte c rest front none long h) e = empty_buffer (a.link l).receiver.buffer (Byte c) rest front e
    none_passes (passes_mark m rest what carrier front some arrives h) e = empty_buffer (a.link l).receiver.buffer (EndMark m) rest front e

pub input_homed : (plan : Plan) (k l w : ℕ) (a b : Switch) (x : Input) → IsInto plan w (AtSwitch k l) → b.input ≡ put a.input l x → SwitchHomed plan k a → SwitchHomed plan k b
input_homed plan k l w a b x into e h =
    subst (λ f. (j : ℕ) → (f j ≡ new_input) ⊎ ((w : ℕ) × IsInto plan w (AtSwitch k j))) (sym e)
    (every_put (λ j y. (y ≡ new_input) ⊎ ((w : ℕ) × IsInto plan w (AtSwitch k j))) a.input l x (inr (w, into)) (λ j ne. h j))

pub input_way : (plan : Plan) (k l : ℕ) (a b : Switch) → SwitchHomed plan k a → switch.Passes (body_limit plan) (switch_plan plan k) a l b → (w : ℕ) × IsInto plan w (AtSwitch k l)
input_way plan k l a b h p = elim (h l) [ inl e ↦ absurd (none_passes p (ap (λ (z : Input). z.receiver.buffer) e)) | inr w ↦ w ]
  where
    none_passes : switch.Passes (body_limit plan) (switch_plan plan k) a l b → (a.input l).receiver.buffer ≡ [] → ⊥
    none_passes (switch.passes_byte c rest unmarked front short h) e = empty_buffer (a.input l).receiver.buffer (Byte c) rest front e
    none_passes (switch.drops_byte c rest unmarked front long h) e = empty_buffer (a.input l).receiver.buffer (Byte c) rest front e
    none_passes (switch.passes_mark m rest unmarked front group h) e = empty_buffer (a.input l).receiver.buffer (EndMark m) rest front e
    none_passes (switch.loses m rest unmarked front group h) e = empty_buffer (a.input l).receiver.buffer (EndMark m) rest front e

-- without bytes there is no header
no_header : (plan : Plan) (k o : ℕ) (d : List ℕ) → switch.BodyLeaves (switch_plan plan k) [] o d → ⊥
no_header plan k o d h = by_stack h.stack h.before_is (h.leaves).front
  where
    by_stack : (s : List ℕ) → [] ≡ spelled s ++ h.rest → without_portals (switch_plan plan k).table s ≡ (h.leaves).header ∷ (h.leaves).rest → ⊥
    by_stack [] e f = absurd (cc)
    by_stack (x ∷ s) e f = absurd (cc)

pub routed_way : (plan : Plan) (k l o : ℕ) (a : Switch) (d : List ℕ) → SwitchHomed plan k a → switch.BodyLeaves (switch_plan plan k) (a.input l).got o d → (w : ℕ) × IsInto plan w (AtSwitch k l)
routed_way plan k l o a d h g = elim (h l) [ inl e ↦ absurd (no_header plan k o d (subst (λ (z : Input). switch.BodyLeaves (switch_plan plan k) z.got o d) e g)) | inr w ↦ w ]
