-- The token machine of ways as it is seen in each node's and each switch's links, and in the wires.
use Rattle.std.proofs.Common.{◌≡◌, ℕ, ◌<◌, ◌≤◌, ◌∷◌, List, None, refl, sym, ap, subst, ◌∙◌, inl, inr}
use Rattle.std.proofs.lemmas.Bool.{cases_eq}
use Rattle.vc_machine.specs.Paths.{Port, AtNode, AtSwitch}
use Rattle.vc_packets.specs.Functions.{put}
use Rattle.vc_machine.proofs.Basics.{put-same, put-other}
use Rattle.vc_tokens.specs.Tokens.{Token, Byte, Fct, EndMark}
use Rattle.vc_credit.specs.Ends.{Sender, IsDue, Receiver as LinkReceiver}
use Rattle.vc_machine.specs.Links.{Receiver, Tokens, Wires}
use Rattle.vc_machine.proofs.Update.{Changed}
use Rattle.vc_vcp.specs.Carrier.{Carrier}
use Rattle.vc_vcp.specs.Links.{Link, Vcp}
use Rattle.vc_switch.specs.Switch.{Switch, Input}
use Rattle.vc_network.proofs.Wires.{one_near, one_far}
use Rattle.vc_network.specs.Plan.{Plan, ways, near, far, IsAccepted, IsOutOf, IsInto, back, net_of}
use Rattle.vc_machine.specs.Private.View.{Credited}
use Rattle.vc_machine.proofs.CreditSum.{place_kept, credit_low}
use Rattle.vc_network.proofs.Backs.{back_back, near_back, back_out}
use Rattle.vc_network.specs.Credit.{sender_at, receiver_at}
use Rattle.vc_network.specs.Packets.{SameBound}
use Rattle.vc_network.proofs.Seen.{Sees, keep}

-- the receiving end of a way to a node, and of a way to a switch
pub record NodeEnd (x : Link) (r : Receiver) : Type 0 where
  pub buffer : r.buffer ≡ x.receiver.buffer
  pub promised : r.promised ≡ x.receiver.promised
  pub got : r.got ≡ x.passed
  pub mark : r.mark ≡ None
  pub bound : r.bound ≡ None

pub record SwitchEnd (plan : Plan) (k : ℕ) (x : Input) (r : Receiver) : Type 0 where
  pub buffer : r.buffer ≡ x.receiver.buffer
  pub promised : r.promised ≡ x.receiver.promised
  pub word : r.word ≡ x.word
  pub got : r.got ≡ x.got
  pub mark : r.mark ≡ x.mark
  pub bound : SameBound plan k x.bound r.bound

abbrev pub SameReceiver : Plan → (ℕ → Vcp) → (ℕ → Switch) → Port → Receiver → Type 0
SameReceiver plan vs sw (AtNode n l) r = NodeEnd ((vs n).link l) r
SameReceiver plan vs sw (AtSwitch k l) r = SwitchEnd plan k ((sw k).input l) r

abbrev pub carriers : (ℕ → Vcp) → ℕ → Carrier
carriers vs n = (vs n).carrier

abbrev pub losses : (ℕ → Switch) → ℕ → ℕ
losses sw k = (sw k).lost

pub record Shows (plan : Plan) (vs : ℕ → Vcp) (sw : ℕ → Switch) (lines : ℕ → List Token) (t : Tokens) : Type 0 where
  pub nodes : Sees plan (carriers vs) (losses sw) t.nodes
  pub sender : (w : ℕ) → w < ways plan → t.sender w ≡ sender_at vs sw (near plan w)
  pub wire : (w : ℕ) → t.wire w ≡ lines w
  pub receiver : (w : ℕ) → w < ways plan → SameReceiver plan vs sw (far plan w) (t.receiver w)

-- one sending end and one receiving end change
shown : (plan : Plan) (vs vs' : ℕ → Vcp) (sw sw' : ℕ → Switch) (lines lines' : ℕ → List Token) (t u : Tokens) (win wout : ℕ) (r : Receiver) (a : Sender) →
    IsAccepted plan → win < ways plan → wout < ways plan → Shows plan vs sw lines t → Sees plan (carriers vs') (losses sw') u.nodes →
    Changed wout t.sender u.sender a → a ≡ sender_at vs' sw' (near plan wout) → ((p : Port) → (p ≡ near plan wout → ⊥) → sender_at vs' sw' p ≡ sender_at vs sw p) →
    ((w : ℕ) → u.wire w ≡ lines' w) →
    Changed win t.receiver u.receiver r → SameReceiver plan vs' sw' (far plan win) r →
    ((p : Port) (r : Receiver) → (p ≡ far plan win → ⊥) → SameReceiver plan vs sw p r → SameReceiver plan vs' sw' p r) → Shows plan vs' sw' lines' u
shown plan vs vs' sw sw' lines lines' t u win wout r a acc rin rout s nodes ca here others wires cr end ends =
    record {
      nodes = nodes;
      sender = λ w real. (elim (cases_eq w wout) as (λ z. u.sender w ≡ sender_at vs' sw' (near plan w)) [
        | inl e ↦ subst (λ z. u.sender z ≡ sender_at vs' sw' (near plan z)) (sym e) (ca.here ∙ here)
        | inr ne ↦ ca.there w ne ∙ s.sender w real ∙ sym (others (near plan w) (λ e. ne (one_near plan acc w wout real rout e)))
      ]);
      wire = wires;
      receiver = λ w real. (elim (cases_eq w win) as (λ z. SameReceiver plan vs' sw' (far plan w) (u.receiver w)) [
        | inl e ↦ subst (λ z. SameReceiver plan vs' sw' (far plan z) (u.receiver z)) (sym e) (subst (SameReceiver plan vs' sw' (far plan win)) (sym cr.here) end)
        | inr ne ↦ subst (SameReceiver plan vs' sw' (far plan w)) (sym (cr.there w ne)) (ends (far plan w) (t.receiver w) (λ e. ne (one_far plan acc w win real rin e)) (s.receiver w real))
      ]);
    }

pub link_here : (vs : ℕ → Vcp) (n l : ℕ) (b : Vcp) (x : Link) → b.link ≡ put (vs n).link l x → (put vs n b n).link l ≡ x
link_here vs n l b x e = ap (λ a. a.link l) (put-same vs n b) ∙ ap (λ f. f l) e ∙ put-same (vs n).link l x

link_there : (vs : ℕ → Vcp) (n l : ℕ) (b : Vcp) (x : Link) → b.link ≡ put (vs n).link l x → (m j : ℕ) → (AtNode m j ≡ AtNode n l → ⊥) → (put vs n b m).link j ≡ (vs m).link j
link_there vs n l b x e m j ne =
    elim (cases_eq m n) [
      | inl q ↦ subst (λ z. (put vs n b z).link j ≡ (vs z).link j) (sym q)
          (ap (λ a. a.link j) (put-same vs n b) ∙ ap (λ f. f j) e ∙ put-other (vs n).link l x j (λ k. ne (λ i. AtNode (q i) (k i))))
      | inr o ↦ ap (λ a. a.link j) (put-other vs n b m o)
    ]

-- a link of node n changes
pub node_shown : (plan : Plan) (vs : ℕ → Vcp) (sw : ℕ → Switch) (lines lines' : ℕ → List Token) (t u : Tokens) (n l win wout : ℕ) (b : Vcp) (x : Link) (r : Receiver) (a : Sender) →
    IsAccepted plan → IsInto plan win (AtNode n l) → IsOutOf plan wout (AtNode n l) → Shows plan vs sw lines t → b.link ≡ put (vs n).link l x →
    Sees plan (carriers (put vs n b)) (losses sw) u.nodes → Changed wout t.sender u.sender a → a ≡ x.sender → ((w : ℕ) → u.wire w ≡ lines' w) →
    Changed win t.receiver u.receiver r → NodeEnd x r → Shows plan (put vs n b) sw lines' u
node_shown plan vs sw lines lines' t u n l win wout b x r a acc into out s e nodes ca same wires cr end =
    shown plan vs (put vs n b) sw sw lines lines' t u win wout r a acc into.0 out.0 s nodes ca
    (same ∙ sym (ap (sender_at (put vs n b) sw) out.1 ∙ ap (λ (z : Link). z.sender) (link_here vs n l b x e))) senders wires cr
    (subst (λ p. SameReceiver plan (put vs n b) sw p r) (sym into.1) (subst (λ z. NodeEnd z r) (sym (link_here vs n l b x e)) end)) receivers
  where
    senders : (p : Port) → (p ≡ near plan wout → ⊥) → sender_at (put vs n b) sw p ≡ sender_at vs sw p
    senders (AtNode m j) ne = ap (λ (z : Link). z.sender) (link_there vs n l b x e m j (λ q. ne (q ∙ sym out.1)))
    senders (AtSwitch m j) ne = refl

    receivers : (p : Port) (r : Receiver) → (p ≡ far plan win → ⊥) → SameReceiver plan vs sw p r → SameReceiver plan (put vs n b) sw p r
    receivers (AtNode m j) r ne h = subst (λ z. NodeEnd z r) (sym (link_there vs n l b x e m j (λ q. ne (q ∙ sym into.1)))) h
    receivers (AtSwitch m j) r ne h = h

-- the links of node n stay
pub halves_shown : (plan : Plan) (vs : ℕ → Vcp) (sw : ℕ → Switch) (lines : ℕ → List Token) (t u : Tokens) (n : ℕ) (b : Vcp) → Shows plan vs sw lines t → b.link ≡ (vs n).link →
    Sees plan (carriers (put vs n b)) (losses sw) u.nodes → u.sender ≡ t.sender → u.wire ≡ t.wire → u.receiver ≡ t.receiver → Shows plan (put vs n b) sw lines u
halves_shown plan vs sw lines t u n b s e nodes senders wires receivers =
    record {
      nodes = nodes;
      sender = λ w real. ap (λ f. f w) senders ∙ s.sender w real ∙ sym (sent (near plan w));
      wire = λ w. ap (λ f. f w) wires ∙ s.wire w;
      receiver = λ w real. came (far plan w) (u.receiver w) (subst (λ f. SameReceiver plan vs sw (far plan w) (f w)) (sym receivers) (s.receiver w real));
    }
  where
    links : (m j : ℕ) → (put vs n b m).link j ≡ (vs m).link j
    links m j = ap (λ f. f j) (keep (λ a. a.link) vs n b e m)

    sent : (p : Port) → sender_at (put vs n b) sw p ≡ sender_at vs sw p
    sent (AtNode m j) = ap (λ (z : Link). z.sender) (links m j)
    sent (AtSwitch m j) = refl

    came : (p : Port) (r : Receiver) → SameReceiver plan vs sw p r → SameReceiver plan (put vs n b) sw p r
    came (AtNode m j) r h = subst (λ z. NodeEnd z r) (sym (links m j)) h
    came (AtSwitch m j) r h = h

-- an input and an output of switch k change
pub input_here : (sw : ℕ → Switch) (k l : ℕ) (b : Switch) (x : Input) → b.input ≡ put (sw k).input l x → (put sw k b k).input l ≡ x
input_here sw k l b x e = ap (λ a. a.input l) (put-same sw k b) ∙ ap (λ f. f l) e ∙ put-same (sw k).input l x

input_there : (sw : ℕ → Switch) (k l : ℕ) (b : Switch) (x : Input) → b.input ≡ put (sw k).input l x → (m j : ℕ) → (AtSwitch m j ≡ AtSwitch k l → ⊥) → (put sw k b m).input j ≡ (sw m).input j
input_there sw k l b x e m j ne =
    elim (cases_eq m k) [
      | inl q ↦ subst (λ z. (put sw k b z).input j ≡ (sw z).input j) (sym q)
          (ap (λ a. a.input j) (put-same sw k b) ∙ ap (λ f. f j) e ∙ put-other (sw k).input l x j (λ r. ne (λ i. AtSwitch (q i) (r i))))
      | inr o ↦ ap (λ a. a.input j) (put-other sw k b m o)
    ]

output_here : (sw : ℕ → Switch) (k l : ℕ) (b : Switch) (y : Sender) → b.output ≡ put (sw k).output l y → (put sw k b k).output l ≡ y
output_here sw k l b y e = ap (λ a. a.output l) (put-same sw k b) ∙ ap (λ f. f l) e ∙ put-same (sw k).output l y

output_there : (sw : ℕ → Switch) (k l : ℕ) (b : Switch) (y : Sender) → b.output ≡ put (sw k).output l y → (m j : ℕ) → (AtSwitch m j ≡ AtSwitch k l → ⊥) → (put sw k b m).output j ≡ (sw m).output j
output_there sw k l b y e m j ne =
    elim (cases_eq m k) [
      | inl q ↦ subst (λ z. (put sw k b z).output j ≡ (sw z).output j) (sym q)
          (ap (λ a. a.output j) (put-same sw k b) ∙ ap (λ f. f j) e ∙ put-other (sw k).output l y j (λ r. ne (λ i. AtSwitch (q i) (r i))))
      | inr o ↦ ap (λ a. a.output j) (put-other sw k b m o)
    ]

pub switch_shown : (plan : Plan) (vs : ℕ → Vcp) (sw : ℕ → Switch) (lines lines' : ℕ → List Token) (t u : Tokens) (k i o win wout : ℕ) (b : Switch) (x : Input) (y : Sender) (r : Receiver) (a : Sender) →
    IsAccepted plan → IsInto plan win (AtSwitch k i) → IsOutOf plan wout (AtSwitch k o) → Shows plan vs sw lines t → b.input ≡ put (sw k).input i x → b.output ≡ put (sw k).output o y →
    Sees plan (carriers vs) (losses (put sw k b)) u.nodes → Changed wout t.sender u.sender a → a ≡ y → ((w : ℕ) → u.wire w ≡ lines' w) →
    Changed win t.receiver u.receiver r → SwitchEnd plan k x r → Shows plan vs (put sw k b) lines' u
switch_shown plan vs sw lines lines' t u k i o win wout b x y r a acc into out s ei eo nodes ca same wires cr end =
    shown plan vs vs sw (put sw k b) lines lines' t u win wout r a acc into.0 out.0 s nodes ca
    (same ∙ sym (ap (sender_at vs (put sw k b)) out.1 ∙ output_here sw k o b y eo)) senders wires cr
    (subst (λ p. SameReceiver plan vs (put sw k b) p r) (sym into.1) (subst (λ z. SwitchEnd plan k z r) (sym (input_here sw k i b x ei)) end)) receivers
  where
    senders : (p : Port) → (p ≡ near plan wout → ⊥) → sender_at vs (put sw k b) p ≡ sender_at vs sw p
    senders (AtNode m j) ne = refl
    senders (AtSwitch m j) ne = output_there sw k o b y eo m j (λ q. ne (q ∙ sym out.1))

    receivers : (p : Port) (r : Receiver) → (p ≡ far plan win → ⊥) → SameReceiver plan vs sw p r → SameReceiver plan vs (put sw k b) p r
    receivers (AtNode m j) r ne h = h
    receivers (AtSwitch m j) r ne h = subst (λ z. SwitchEnd plan m z r) (sym (input_there sw k i b x ei m j (λ q. ne (q ∙ sym into.1)))) h

pub wires : (plan : Plan) → Wires (net_of plan) back
wires plan = record { twice = back_back; near = near_back plan }

pub same_end : (plan : Plan) (vs : ℕ → Vcp) (sw : ℕ → Switch) (q : Port) (r : Receiver) → SameReceiver plan vs sw q r → record { buffer = r.buffer; promised = r.promised } ≡ receiver_at vs sw q
same_end plan vs sw (AtNode n l) r e = λ i. record { buffer = e.buffer i; promised = e.promised i }
same_end plan vs sw (AtSwitch k l) r e = λ i. record { buffer = e.buffer i; promised = e.promised i }

-- what is at the front of a way into the port is due there
pub is_due : (plan : Plan) (vs : ℕ → Vcp) (sw : ℕ → Switch) (lines : ℕ → List Token) (t : Tokens) (w : ℕ) (p : Port) (k : Token) (rest : List Token) → Credited back t → Shows plan vs sw lines t → IsInto plan w p →
    lines w ≡ k ∷ rest → IsDue (sender_at vs sw p) (receiver_at vs sw p) k
is_due plan vs sw lines t w p Fct rest all s into front =
    let out = back_out plan w p into in
    subst (λ a. a.credit ≤ 8) (s.sender (back w) out.0 ∙ ap (sender_at vs sw) out.1) (credit_low (net_of plan) back (wires plan) t w rest all (s.wire w ∙ front))
is_due plan vs sw lines t w p (Byte b) rest all s into front =
    subst (λ (r : LinkReceiver). 0 < r.promised) (same_end plan vs sw (far plan w) (t.receiver w) (s.receiver w into.0) ∙ ap (receiver_at vs sw) into.1) (place_kept back t w (Byte b) rest all refl (s.wire w ∙ front)).0
is_due plan vs sw lines t w p (EndMark m) rest all s into front =
    subst (λ (r : LinkReceiver). 0 < r.promised) (same_end plan vs sw (far plan w) (t.receiver w) (s.receiver w into.0) ∙ ap (receiver_at vs sw) into.1) (place_kept back t w (EndMark m) rest all refl (s.wire w ∙ front)).0
