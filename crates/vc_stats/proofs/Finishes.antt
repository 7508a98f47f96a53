-- Which events change whether an output on a channel is finished.
use Rattle.std.proofs.Common.{◌≡◌, ◌==◌, ℕ, suc, Bool, true, false, List, [], ◌∷◌, ◌++◌, length, length-append, Option, Some, refl, sym, ap, ◌∙◌, subst, arith, inl, inr}
use Rattle.std.proofs.lemmas.Bool.{cases_eq}
use Rattle.std.proofs.lemmas.Bool.Decides.{nat_tests}
use Rattle.vc_machine.specs.Rendezvous.{View}
use Rattle.vc_machine.proofs.Basics.{put-same, put-other}
use Rattle.vc_packets.specs.Functions.{put}
use Rattle.vc_packets.specs.declared.packet.Packet.{Packet}
use Rattle.vc_network.specs.Actors.{Network, ActBy, Label, Step, act_of}
use Rattle.vc_network.specs.Actors.Label.{Own, Takes, Puts}
use Rattle.vc_network.specs.Network.{Act, Proc, Take, Put, Fct, Pass, Actor, IsNode, IsSwitch, Node, NodeStep, Local, Happens, exchanged}
use Rattle.vc_network.specs.Plan.{Plan, Home, Way, Inside, home}
use Rattle.vc_network.specs.Processes.{StepRelation, Offer, Want, Choose, Stopch, Inner, Quiet}
use Rattle.vc_network.specs.Views.{inner_of, source_node, vcp_of, view, view_at}
use Rattle.vc_switch.specs.Waiting.{Waiting}
use Rattle.vc_tokens.specs.Tokens.{Token, EndMark}
use Rattle.vc_vcp.specs.Carrier.{Carrier, OutHalf, End}
use Rattle.vc_vcp.specs.Links.{Vcp, Comes, due, not_due, unqueued}
use Rattle.vc_vcp.specs.Steps as node
use Rattle.vc_stats.specs.Times.{source_on}
use Rattle.vc_stats.specs.StateFigures.{is_open}

-- an output on a virtual link may begin or be finished by the act
abbrev pub turns : Act → Bool
turns (Proc (Offer site chan)) = true
turns (Pass link) = true
turns act = false

-- ---- the halves that output

wants_out : (old new : Carrier) (c : ℕ) (end : End) (answer : Option (List ℕ)) → node.Wants old c end answer new → new.out ≡ old.out
wants_out old new c end answer (node.fetches f) = ap (λ s. s.out) f.after
wants_out old new c end answer (node.waits held none after) = ap (λ s. s.out) after

comes_out : (old new : Vcp) (link : ℕ) (k : Token) → Comes old link k new → new.carrier.out ≡ old.carrier.out
comes_out old new link k (due is after) = ap (λ v. v.carrier.out) after
comes_out old new link k (not_due is after) = ap (λ v. v.carrier.out) after

unqueued_out : (a : Carrier) (link : ℕ) (rest : List Packet) (k : Token) → (unqueued a link rest k).out ≡ a.out
unqueued_out a link rest (EndMark m) = refl
unqueued_out a link rest t = refl

abbrev outs : {P : Type 0} → Node P → ℕ → OutHalf
outs a = a.vcp.carrier.out

node_out : {P : Type 0} (plan : Plan) (Does : StepRelation P) (n : ℕ) (old new : Node P) (label : Label Act Token) → NodeStep plan Does n old label new → (turns (act_of label) ≡ true → ⊥) → outs new ≡ outs old
node_out plan Does n old new (Own (Proc (Offer site c))) h not = absurd (not refl)
node_out plan Does n old new (Own (Proc (Want site c))) h not = wants_out old.vcp.carrier new.vcp.carrier c h.1 h.0 h.4
node_out plan Does n old new (Own (Proc (Choose site guard c))) h not = ap (λ s. s.out) h.4.after
node_out plan Does n old new (Own (Proc (Stopch site c))) h not = elim h.1 [
  | inl halves ↦ ap (λ s. s.out) halves.0.after
  | inr inside ↦ ap (λ v. v.carrier.out) inside.1
]
node_out plan Does n old new (Own (Proc (Inner sender receiver guard c))) h not = ap (λ v. v.carrier.out) h.4
node_out plan Does n old new (Own (Proc (Quiet site))) h not = ap (λ v. v.carrier.out) h.1
node_out plan Does n old new (Own (Pass link)) h not = absurd (not refl)
node_out plan Does n old new (Takes (Take link word) way k) h not = comes_out old.vcp new.vcp link k h.1
node_out plan Does n old new (Puts (Put link) way k) h not = ap (λ v. v.carrier.out) h.1.after ∙ unqueued_out old.vcp.carrier link h.1.rest k
node_out plan Does n old new (Puts (Fct link) way k) h not = ap (λ v. v.carrier.out) h.2.after
node_out plan Does n old new d h not = absurd h

own_out : {P : Type 0} (plan : Plan) (W : Waiting) (Does : StepRelation P) (k : ℕ) (a b : Actor P) (label : Label Act Token) → Local plan W Does k a label b → (turns (act_of label) ≡ true → ⊥) →
    (vcp_of b).carrier.out ≡ (vcp_of a).carrier.out
own_out plan W Does k (IsNode old) (IsNode new) label h not = node_out plan Does k old new label h.1 not
own_out plan W Does k (IsSwitch old) (IsSwitch new) label h not = refl
own_out plan W Does k (IsNode old) (IsSwitch new) label h not = absurd h
own_out plan W Does k (IsSwitch old) (IsNode new) label h not = absurd h

-- ---- the channels inside a node

one_more : (v : View) (m : List ℕ) → is_open (exchanged v m) ≡ is_open v
one_more v m = (let longer = length-append v.offered (m ∷ []) in
    let e : (length (v.offered ++ m ∷ []) == suc (suc v.finished)) ≡ (length v.offered == suc v.finished) = grind (arith, nat_tests) in e)

put_open : (f : ℕ → View) (i : ℕ) (v : View) (c : ℕ) → is_open v ≡ is_open (f i) → is_open (put f i v c) ≡ is_open (f c)
put_open f i v c same = elim (cases_eq c i) [
  | inl here ↦ (ap (λ j. is_open (put f i v j)) here ∙ ap is_open (put-same f i v) ∙ same ∙ ap (λ j. is_open (f j)) (sym here))
  | inr ne ↦ ap is_open (put-other f i v c ne)
]

node_inner : {P : Type 0} (plan : Plan) (Does : StepRelation P) (n : ℕ) (old new : Node P) (label : Label Act Token) (c : ℕ) → NodeStep plan Does n old label new → is_open (new.inner c) ≡ is_open (old.inner c)
node_inner plan Does n old new (Own (Proc (Offer site d))) c h = ap (λ f. is_open (f c)) h.3.inner
node_inner plan Does n old new (Own (Proc (Want site d))) c h = ap (λ f. is_open (f c)) h.5.inner
node_inner plan Does n old new (Own (Proc (Choose site guard d))) c h = ap (λ f. is_open (f c)) h.5.inner
node_inner plan Does n old new (Own (Proc (Stopch site d))) c h = elim h.1 [
  | inl halves ↦ ap (λ f. is_open (f c)) halves.1.inner
  | inr inside ↦ ap (λ f. is_open (f c)) inside.2 ∙ put_open old.inner d (record (old.inner d) { stopped = true }) c refl
]
node_inner plan Does n old new (Own (Proc (Inner sender receiver guard d))) c h =
    ap (λ f. is_open (f c)) h.5 ∙ put_open old.inner d (exchanged (old.inner d) h.0) c (one_more (old.inner d) h.0)
node_inner plan Does n old new (Own (Proc (Quiet site))) c h = ap (λ f. is_open (f c)) h.2
node_inner plan Does n old new (Own (Pass link)) c h = ap (λ f. is_open (f c)) h.3
node_inner plan Does n old new (Takes (Take link word) way k) c h = ap (λ f. is_open (f c)) h.2.inner
node_inner plan Does n old new (Puts (Put link) way k) c h = ap (λ f. is_open (f c)) h.2.inner
node_inner plan Does n old new (Puts (Fct link) way k) c h = ap (λ f. is_open (f c)) h.3.inner
node_inner plan Does n old new d c h = absurd h

own_inner : {P : Type 0} (plan : Plan) (W : Waiting) (Does : StepRelation P) (k : ℕ) (a b : Actor P) (label : Label Act Token) (c : ℕ) → Local plan W Does k a label b → is_open (inner_of b c) ≡ is_open (inner_of a c)
own_inner plan W Does k (IsNode old) (IsNode new) label c h = node_inner plan Does k old new label c h.1
own_inner plan W Does k (IsSwitch old) (IsSwitch new) label c h = refl
own_inner plan W Does k (IsNode old) (IsSwitch new) label c h = absurd h
own_inner plan W Does k (IsSwitch old) (IsNode new) label c h = absurd h

-- ---- all channels

abbrev out_open : {P : Type 0} → Actor P → ℕ → Bool
out_open a c = let x = (vcp_of a).carrier.out c in length x.offered == suc x.finished

stays_at : {P : Type 0} (plan : Plan) (W : Waiting) (Does : StepRelation P) (x y : Network (Actor P) Token) (k : ℕ) (label : Label Act Token) (c : ℕ) (h : Home) → Step (Local plan W Does) x k label y →
    (turns (act_of label) ≡ true → source_on plan h ≡ Some k → ⊥) → is_open (view_at plan y c h) ≡ is_open (view_at plan x c h)
stays_at plan W Does x y k label c (Way v ab) step not = (let n = source_node plan (Way v ab) in
    elim (cases_eq n k) [
      | inl own ↦ ap (λ j. out_open (y.state j) c) own
          ∙ ap (λ f. let o = f c in length o.offered == suc o.finished) (own_out plan W Does k (x.state k) (y.state k) label step.local (λ t. not t (ap Some own)))
          ∙ ap (λ j. out_open (x.state j) c) (sym own)
      | inr ne ↦ ap (λ a. out_open a c) (step.others n ne)
    ])
stays_at plan W Does x y k label c (Inside n) step not = elim (cases_eq n k) [
  | inl own ↦ ap (λ j. is_open (inner_of (y.state j) c)) own ∙ own_inner plan W Does k (x.state k) (y.state k) label c step.local ∙ ap (λ j. is_open (inner_of (x.state j) c)) (sym own)
  | inr ne ↦ ap (λ a. is_open (inner_of a c)) (step.others n ne)
]

-- an event changes it at most where its act may, on a channel of its actor
pub stays : {P : Type 0} (plan : Plan) (W : Waiting) (Does : StepRelation P) (x y : Network (Actor P) Token) (e : ActBy Act) (c : ℕ) → Happens plan W Does x e y →
    (turns e.act ≡ true → source_on plan (home plan c) ≡ Some e.actor → ⊥) → is_open (view plan y c) ≡ is_open (view plan x c)
stays plan W Does x y e c h not = stays_at plan W Does x y e.actor h.0 c (home plan c) h.2 (λ t. not (subst (λ a. turns a ≡ true) h.1 t))
