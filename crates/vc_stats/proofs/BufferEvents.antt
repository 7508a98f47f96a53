-- Which events change what the receive buffers hold.
use Rattle.std.proofs.Common.{◌≡◌, ℕ, Bool, true, false, List, length, Option, Some, None, nat_lt, refl, sym, ap, ◌∙◌, subst, inl, inr, if◌then◌else◌}
use Rattle.std.proofs.lemmas.Bool.{cases_eq}
use Rattle.vc_accepted.specs.Process.{Process}
use Rattle.vc_core.specs.PossibleEvents.{NetworkState}
use Rattle.vc_core.specs.Links.{buffer_at, buffered_in}
use Rattle.vc_machine.proofs.Basics.{put-same, put-other}
use Rattle.vc_machine.specs.Rendezvous.{nothing_yet}
use Rattle.vc_packets.specs.Functions.{put}
use Rattle.vc_network.specs.Actors.{ActBy, Label, act_of}
use Rattle.vc_network.specs.Actors.Label.{Own, Takes, Puts}
use Rattle.vc_network.specs.Network.{Act, Proc, Take, Put, Route, Fct, Pass, Actor, IsNode, IsSwitch, Node, NodeStep, SwitchStep, Local, Happens, begins}
use Rattle.vc_network.specs.Plan.{Plan, body_limit, ends, switch_plan}
use Rattle.vc_network.specs.Processes.{StepRelation, Offer, Want, Choose, Stopch, Inner, Quiet}
use Rattle.vc_switch.specs.Forward.{SwitchPlan}
use Rattle.vc_switch.specs.Switch.{Input, Switch, new_switch}
use Rattle.vc_switch.specs.Switch as switch
use Rattle.vc_switch.specs.Waiting.{Waiting}
use Rattle.vc_tokens.specs.Tokens.{Token, Byte, EndMark}
use Rattle.vc_tokens.specs.Tokens as tokens
use Rattle.vc_vcp.specs.Carrier.{Ends}
use Rattle.vc_vcp.specs.Links.{Link, Vcp, new_vcp}
use Rattle.vc_vcp.specs.Links as node
use Rattle.vc_vcp.specs.Steps.{Taken}

-- the link whose buffer may hold another number of tokens after the act
abbrev pub buffer_by : Act → Option ℕ
buffer_by (Take link word) = Some link
buffer_by (Pass link) = Some link
buffer_by act = None

-- ---- a node

abbrev held : (ℕ → Link) → ℕ → List Token
held f l = (f l).receiver.buffer

-- a link is as another one, or has the buffer that it had
put_link : (f : ℕ → Link) (i : ℕ) (x : Link) (l : ℕ) → x.receiver.buffer ≡ held f i → held (put f i x) l ≡ held f l
put_link f i x l same = elim (cases_eq l i) [
  | inl here ↦ ap (held (put f i x)) here ∙ ap (λ (y : Link). y.receiver.buffer) (put-same f i x) ∙ same ∙ ap (held f) (sym here)
  | inr ne ↦ ap (λ (y : Link). y.receiver.buffer) (put-other f i x l ne)
]

-- another link is as it was
away : (f : ℕ → Link) (i : ℕ) (x : Link) (l : ℕ) → (l ≡ i → ⊥) → held (put f i x) l ≡ held f l
away f i x l ne = ap (λ (y : Link). y.receiver.buffer) (put-other f i x l ne)

comes_held : (old new : Vcp) (link : ℕ) (k : Token) (l : ℕ) → node.Comes old link k new → (l ≡ link → ⊥) → held new.link l ≡ held old.link l
comes_held old new link k l (node.due is after) ne = ap (λ (v : Vcp). held v.link l) after ∙ away old.link link _ l ne
comes_held old new link k l (node.not_due is after) ne = ap (λ (v : Vcp). held v.link l) after

passes_held : (limit : ℕ) (ends : Ends) (old new : Vcp) (link : ℕ) (taken : Option Taken) (l : ℕ) → node.Passes limit ends old link taken new → (l ≡ link → ⊥) → held new.link l ≡ held old.link l
passes_held limit ends old new link taken l (node.passes_byte b rest here none room after) ne = ap (λ (v : Vcp). held v.link l) after ∙ away old.link link _ l ne
passes_held limit ends old new link taken l (node.drops_byte b rest here none full after) ne = ap (λ (v : Vcp). held v.link l) after ∙ away old.link link _ l ne
passes_held limit ends old new link taken l (node.passes_mark m rest what carrier here is arrives after) ne = ap (λ (v : Vcp). held v.link l) after ∙ away old.link link _ l ne

node_held : {P : Type 0} (plan : Plan) (Does : StepRelation P) (n : ℕ) (old new : Node P) (label : Label Act Token) (l : ℕ) → NodeStep plan Does n old label new → (buffer_by (act_of label) ≡ Some l → ⊥) →
    held new.vcp.link l ≡ held old.vcp.link l
node_held plan Does n old new (Own (Proc (Offer site c))) l h not = ap (λ f. held f l) h.3.link
node_held plan Does n old new (Own (Proc (Want site c))) l h not = ap (λ f. held f l) h.5.link
node_held plan Does n old new (Own (Proc (Choose site guard c))) l h not = ap (λ f. held f l) h.5.link
node_held plan Does n old new (Own (Proc (Stopch site c))) l h not = elim h.1 [
  | inl halves ↦ ap (λ f. held f l) halves.1.link
  | inr inside ↦ ap (λ (v : Vcp). held v.link l) inside.1
]
node_held plan Does n old new (Own (Proc (Inner sender receiver guard c))) l h not = ap (λ (v : Vcp). held v.link l) h.4
node_held plan Does n old new (Own (Proc (Quiet site))) l h not = ap (λ (v : Vcp). held v.link l) h.1
node_held plan Does n old new (Own (Pass link)) l h not = passes_held (body_limit plan) (ends plan n) old.vcp new.vcp link h.0 l h.1 (λ e. not (ap Some (sym e)))
node_held plan Does n old new (Takes (Take link word) way k) l h not = comes_held old.vcp new.vcp link k l h.1 (λ e. not (ap Some (sym e)))
node_held plan Does n old new (Puts (Put link) way k) l h not = ap (λ (v : Vcp). held v.link l) h.1.after ∙ put_link old.vcp.link link _ l refl
node_held plan Does n old new (Puts (Fct link) way k) l h not = ap (λ (v : Vcp). held v.link l) h.2.after ∙ put_link old.vcp.link link _ l (ap (λ r. r.buffer) h.2.grants.after)
node_held plan Does n old new d l h not = absurd h

-- ---- a switch

abbrev kept : Switch → ℕ → List Token
kept s l = (s.input l).receiver.buffer

abbrev kept_by : (ℕ → Input) → ℕ → List Token
kept_by f l = (f l).receiver.buffer

put_input : (f : ℕ → Input) (i : ℕ) (x : Input) (l : ℕ) → x.receiver.buffer ≡ kept_by f i → kept_by (put f i x) l ≡ kept_by f l
put_input f i x l same = elim (cases_eq l i) [
  | inl here ↦ ap (kept_by (put f i x)) here ∙ ap (λ (y : Input). y.receiver.buffer) (put-same f i x) ∙ same ∙ ap (kept_by f) (sym here)
  | inr ne ↦ ap (λ (y : Input). y.receiver.buffer) (put-other f i x l ne)
]

beside : (f : ℕ → Input) (i : ℕ) (x : Input) (l : ℕ) → (l ≡ i → ⊥) → kept_by (put f i x) l ≡ kept_by f l
beside f i x l ne = ap (λ (y : Input). y.receiver.buffer) (put-other f i x l ne)

token_kept : (s : Switch) (link word : ℕ) (k : Token) (l : ℕ) → (l ≡ link → ⊥) → kept (switch.with_token s link word k) l ≡ kept s l
token_kept s link word tokens.Fct l ne = beside s.input link _ l ne
token_kept s link word t l ne = beside s.input link _ l ne

comes_kept : (old new : Switch) (link word : ℕ) (k : Token) (l : ℕ) → switch.Comes old link word k new → (l ≡ link → ⊥) → kept new l ≡ kept old l
comes_kept old new link word k l (switch.due is after) ne = ap (λ s. kept s l) after ∙ token_kept old link word k l ne
comes_kept old new link word k l (switch.not_due is after) ne = ap (λ s. kept s l) after ∙ beside old.input link _ l ne

passes_kept : (limit : ℕ) (plan : SwitchPlan) (old new : Switch) (link l : ℕ) → switch.Passes limit plan old link new → (l ≡ link → ⊥) → kept new l ≡ kept old l
passes_kept limit plan old new link l (switch.passes_byte b rest none here room after) ne = ap (λ s. kept s l) after ∙ beside old.input link _ l ne
passes_kept limit plan old new link l (switch.drops_byte b rest none here full after) ne = ap (λ s. kept s l) after ∙ beside old.input link _ l ne
passes_kept limit plan old new link l (switch.passes_mark m rest none here group after) ne = ap (λ s. kept s l) after ∙ beside old.input link _ l ne
passes_kept limit plan old new link l (switch.loses m rest none here group after) ne = ap (λ s. kept s l) after ∙ beside old.input link _ l ne

released_kept : (s : Switch) (link : ℕ) (k : Token) (l : ℕ) → kept (switch.released s link k) l ≡ kept s l
released_kept s link (EndMark m) l = put_input s.input link _ l refl
released_kept s link (Byte b) l = refl
released_kept s link tokens.Fct l = refl

switch_kept : (plan : Plan) (W : Waiting) (i : ℕ) (old new : Switch) (label : Label Act Token) (l : ℕ) → SwitchStep plan W i old label new → (buffer_by (act_of label) ≡ Some l → ⊥) → kept new l ≡ kept old l
switch_kept plan W i old new (Own (Route input output)) l h not = ap (λ s. kept s l) h.after ∙ put_input old.input input _ l refl
switch_kept plan W i old new (Own (Pass link)) l h not = passes_kept (body_limit plan) (switch_plan plan i) old new link l h (λ e. not (ap Some (sym e)))
switch_kept plan W i old new (Takes (Take link word) way k) l h not = comes_kept old new link word k l h.1 (λ e. not (ap Some (sym e)))
switch_kept plan W i old new (Puts (Put link) way k) l h not = ap (λ s. kept s l) h.1.after ∙ released_kept old h.1.link k l
switch_kept plan W i old new (Puts (Fct link) way k) l h not = ap (λ s. kept s l) h.2.after ∙ put_input old.input link _ l (ap (λ r. r.buffer) h.2.grants.after)
switch_kept plan W i old new d l h not = absurd h

-- ---- all of them

actor_same : (plan : Plan) (W : Waiting) (Does : StepRelation Process) (k : ℕ) (a b : Actor Process) (label : Label Act Token) (l : ℕ) → Local plan W Does k a label b → (buffer_by (act_of label) ≡ Some l → ⊥) →
    buffer_at b l ≡ buffer_at a l
actor_same plan W Does k (IsNode old) (IsNode new) label l h not = node_held plan Does k old new label l h.1 not
actor_same plan W Does k (IsSwitch old) (IsSwitch new) label l h not = switch_kept plan W h.0 old new label l h.2 not
actor_same plan W Does k (IsNode old) (IsSwitch new) label l h not = absurd h
actor_same plan W Does k (IsSwitch old) (IsNode new) label l h not = absurd h

-- an event changes at most the buffer that its act may, of a link of its actor
pub same_buffer : (plan : Plan) (W : Waiting) (Does : StepRelation Process) (x y : NetworkState) (e : ActBy Act) (k l : ℕ) → Happens plan W Does x e y → (e.actor ≡ k → buffer_by e.act ≡ Some l → ⊥) →
    buffered_in y k l ≡ buffered_in x k l
same_buffer plan W Does x y e k l h not = elim (cases_eq k e.actor) [
  | inl own ↦ ap (λ j. length (buffer_at (y.state j) l)) own
      ∙ ap length (actor_same plan W Does e.actor (x.state e.actor) (y.state e.actor) h.0 l h.2.local (λ is. not (sym own) (subst (λ act. buffer_by act ≡ Some l) h.1 is)))
      ∙ ap (λ j. length (buffer_at (x.state j) l)) (sym own)
  | inr ne ↦ ap (λ a. length (buffer_at a l)) (h.2.others k ne)
]

-- a node or a switch about to begin
abbrev fresh : (ℕ → Process) → ℕ → Bool → Actor Process
fresh begin k b = if b then IsNode (record { vcp = new_vcp; process = begin k; inner = λ c. nothing_yet }) else IsSwitch new_switch

fresh_buffer : (begin : ℕ → Process) (k l : ℕ) (b : Bool) → length (buffer_at (fresh begin k b) l) ≡ 0
fresh_buffer begin k l true = refl
fresh_buffer begin k l false = refl

-- in the opening state each buffer is empty
pub empty_first : (plan : Plan) (begin : ℕ → Process) (k l : ℕ) → buffered_in (begins plan begin) k l ≡ 0
empty_first plan begin k l = fresh_buffer begin k l (nat_lt k plan.nodes)
