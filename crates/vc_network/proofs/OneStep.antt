-- An act says which step of its actor it is, so an event leads to one state, and a replay of a run is that run.
use Rattle.std.proofs.Common.{◌≡◌, ℕ, ◌<◌, map, refl, sym, ap, subst, ◌∙◌, arith}
use Rattle.vc_network.specs.Actors.{Label, Step, Alike, act_of}
use Rattle.vc_network.specs.Private.Actors.{AreOne, IsDetermined}
use Rattle.vc_network.specs.Actors.Label.{Own, Takes, Puts}
use Rattle.vc_network.proofs.Determinism.{step_determined}
use Rattle.vc_network.proofs.ThreadRuns.{never_refused, same_end}
use Rattle.vc_tokens.specs.Tokens.{Token}
use Rattle.vc_switch.specs.Waiting.{Waiting}
use Rattle.vc_vcp.specs.Links as links
use Rattle.vc_switch.specs.Switch as switch
use Rattle.vc_switch.specs.Switch.{Switch}
use Rattle.vc_network.proofs.Wires.{one_near, one_far}
use Rattle.vc_network.specs.Plan.{Plan, IsAccepted}
use Rattle.vc_network.specs.Processes.{StepRelation, IsDeterminate}
use Rattle.vc_network.specs.Network.{Act, Proc, Take, Put, Route, Fct, Pass, Node, Actor, IsNode, IsSwitch, GoesOn, NodeStep, SwitchStep, Local, begins}
use Rattle.vc_network.specs.Threads.{ended, made_by, ReplaysReach}
use Rattle.vc_network.proofs.Replays.{replayed}
use Rattle.vc_network.specs.EnabledEvents.{EventsAreOne}
use Rattle.vc_network.proofs.Determinate.{comes_same, switch_comes_same, passes_same, sends_same, sends_fct_same, enters_same, leaves_same, switch_fct_same, moves_same, goes_same, same_node}
use Rattle.vc_network.proofs.Threads.{threads_headline}

-- an act that takes nothing and puts nothing, one that takes, and one that puts
abbrev kind_of : Act → ℕ
kind_of (Take l x) = 1
kind_of (Put l) = 2
kind_of (Fct l) = 2
kind_of a = 0

data Form (label : Label Act Token) : Type 0 where
  own : (act : Act) → label ≡ Own act → kind_of act ≡ 0 → Form label
  takes : (act : Act) (w : ℕ) (k : Token) → label ≡ Takes act w k → kind_of act ≡ 1 → Form label
  puts : (act : Act) (w : ℕ) (k : Token) → label ≡ Puts act w k → kind_of act ≡ 2 → Form label

node_form : {P : Type 0} (plan : Plan) (Does : StepRelation P) (n : ℕ) (a b : Node P) (label : Label Act Token) → NodeStep plan Does n a label b → Form label
node_form plan Does n a b (Own (Proc move)) h = own (Proc move) refl refl
node_form plan Does n a b (Own (Pass l)) h = own (Pass l) refl refl
node_form plan Does n a b (Takes (Take l x) v k) h = takes (Take l x) v k refl refl
node_form plan Does n a b (Puts (Put l) v k) h = puts (Put l) v k refl refl
node_form plan Does n a b (Puts (Fct l) v k) h = puts (Fct l) v k refl refl
node_form plan Does n a b d h = absurd h

switch_form : (plan : Plan) (waiting : Waiting) (i : ℕ) (a b : Switch) (label : Label Act Token) → SwitchStep plan waiting i a label b → Form label
switch_form plan waiting j a b (Own (Route i o)) h = own (Route i o) refl refl
switch_form plan waiting j a b (Own (Pass l)) h = own (Pass l) refl refl
switch_form plan waiting j a b (Takes (Take l x) v k) h = takes (Take l x) v k refl refl
switch_form plan waiting j a b (Puts (Put l) v k) h = puts (Put l) v k refl refl
switch_form plan waiting j a b (Puts (Fct l) v k) h = puts (Fct l) v k refl refl
switch_form plan waiting j a b d h = absurd h

kinds : (m n : ℕ) → m < n → m ≡ n → ⊥
kinds m n h e = omega arith

-- what two steps of one actor by one act have to do with each other, whatever their forms
module _ {State : Type 0} (Makes : Label Act Token → State → Type 0) (b b' : State)
    (owns : (act act' : Act) → Makes (Own act) b → Makes (Own act') b' → act ≡ act' → b ≡ b')
    (takings : (act act' : Act) (v w : ℕ) (k k' : Token) → Makes (Takes act v k) b → Makes (Takes act' w k') b' → act ≡ act' → (v ≡ w) × (k ≡ k' → b ≡ b'))
    (puttings : (act act' : Act) (v w : ℕ) (k k' : Token) → Makes (Puts act v k) b → Makes (Puts act' w k') b' → act ≡ act' → (v ≡ w) × (k ≡ k') × (b ≡ b')) where
  by_form : (l l' : Label Act Token) → Makes l b → Makes l' b' → act_of l ≡ act_of l' → Form l → Form l' → AreOne l b l' b'
  by_form l l' h h' e f f' = both f f'
    where
      at : {x y : Label Act Token} → l ≡ x → l' ≡ y → AreOne x b y b' → AreOne l b l' b'
      at {x} {y} p q r = subst (λ z. AreOne z b l' b') (sym p) (subst (λ z. AreOne x b z b') (sym q) r)

      now : {x : Label Act Token} → l ≡ x → Makes x b
      now p = subst (λ z. Makes z b) p h

      now' : {x : Label Act Token} → l' ≡ x → Makes x b'
      now' p = subst (λ z. Makes z b') p h'

      acts : {x y : Label Act Token} → l ≡ x → l' ≡ y → act_of x ≡ act_of y
      acts p q = sym (ap act_of p) ∙ e ∙ ap act_of q

      both : Form l → Form l' → AreOne l b l' b'
      both (own x p i) (own y q j) = at p q (owns x y (now p) (now' q) (acts p q))
      both (takes x v k p i) (takes y w m q j) = at p q (takings x y v w k m (now p) (now' q) (acts p q))
      both (puts x v k p i) (puts y w m q j) = at p q (puttings x y v w k m (now p) (now' q) (acts p q))
      both (own x p i) (takes y w m q j) = absurd (kinds 0 1 (omega arith) (sym i ∙ ap kind_of (acts p q) ∙ j))
      both (own x p i) (puts y w m q j) = absurd (kinds 0 2 (omega arith) (sym i ∙ ap kind_of (acts p q) ∙ j))
      both (takes x v k p i) (own y q j) = absurd (kinds 0 1 (omega arith) (sym j ∙ sym (ap kind_of (acts p q)) ∙ i))
      both (takes x v k p i) (puts y w m q j) = absurd (kinds 1 2 (omega arith) (sym i ∙ ap kind_of (acts p q) ∙ j))
      both (puts x v k p i) (own y q j) = absurd (kinds 0 2 (omega arith) (sym j ∙ sym (ap kind_of (acts p q)) ∙ i))
      both (puts x v k p i) (takes y w m q j) = absurd (kinds 1 2 (omega arith) (sym j ∙ sym (ap kind_of (acts p q)) ∙ i))

module _ {P : Type 0} (plan : Plan) (Does : StepRelation P) (acc : IsAccepted plan) (det : IsDeterminate Does) (n : ℕ) (a b b' : Node P) where
  node_own : (act act' : Act) → NodeStep plan Does n a (Own act) b → NodeStep plan Does n a (Own act') b' → act ≡ act' → b ≡ b'
  node_own (Proc move) act' h h' e = moves_same plan Does acc det n a b b' move h (subst (λ z. NodeStep plan Does n a (Own z) b') (sym e) h')
  node_own (Pass l) act' h h0 e =
      let h' = subst (λ z. NodeStep plan Does n a (Own z) b') (sym e) h0 in
      let s = passes_same plan n l a.vcp h.0 h'.0 b.vcp b'.vcp acc h.1 h'.1 in
      same_node plan Does acc det n a b b' s.1 (goes_same plan Does acc det n a b b' h'.0 (subst (λ z. GoesOn Does a.process z b.process) s.0 h.2) h'.2) (h.3 ∙ sym h'.3)
  node_own a act' h h' e = absurd h

  node_take : (act act' : Act) (v w : ℕ) (k k' : Token) → NodeStep plan Does n a (Takes act v k) b → NodeStep plan Does n a (Takes act' w k') b' → act ≡ act' → (v ≡ w) × (k ≡ k' → b ≡ b')
  node_take (Take l x) act' v w k k' h h0 e =
      let h' = subst (λ z. NodeStep plan Does n a (Takes z w k') b') (sym e) h0 in (
        one_far plan acc v w h.0.0 h'.0.0 (h.0.1 ∙ sym h'.0.1),
        λ i. same_node plan Does acc det n a b b' (comes_same a.vcp l k' b.vcp b'.vcp (subst (λ z. links.Comes a.vcp l z b.vcp) i h.1) h'.1) (h.2.process ∙ sym h'.2.process) (h.2.inner ∙ sym h'.2.inner),
      )
  node_take a act' v w k k' h h' e = absurd h

  node_put : (act act' : Act) (v w : ℕ) (k k' : Token) → NodeStep plan Does n a (Puts act v k) b → NodeStep plan Does n a (Puts act' w k') b' → act ≡ act' → (v ≡ w) × (k ≡ k') × (b ≡ b')
  node_put (Put l) act' v w k k' h h0 e =
      let h' = subst (λ z. NodeStep plan Does n a (Puts z w k') b') (sym e) h0 in
      let s = sends_same a.vcp l k k' b.vcp b'.vcp h.1 h'.1 in
      (one_near plan acc v w h.0.0 h'.0.0 (h.0.1 ∙ sym h'.0.1), s.0, same_node plan Does acc det n a b b' s.1 (h.2.process ∙ sym h'.2.process) (h.2.inner ∙ sym h'.2.inner))
  node_put (Fct l) act' v w k k' h h0 e =
      let h' = subst (λ z. NodeStep plan Does n a (Puts z w k') b') (sym e) h0 in
      (one_near plan acc v w h.0.0 h'.0.0 (h.0.1 ∙ sym h'.0.1), h.1 ∙ sym h'.1, same_node plan Does acc det n a b b' (sends_fct_same a.vcp l b.vcp b'.vcp h.2 h'.2) (h.3.process ∙ sym h'.3.process) (h.3.inner ∙ sym h'.3.inner))
  node_put a act' v w k k' h h' e = absurd h

  to_node : (l l' : Label Act Token) → AreOne l b l' b' → AreOne l (IsNode b) l' (IsNode b')
  to_node (Own act) (Own act') h = ap IsNode h
  to_node (Takes act v p) (Takes act' w q) h = (h.0, λ e. ap IsNode (h.1 e))
  to_node (Puts act v p) (Puts act' w q) h = (h.0, h.1, ap IsNode h.2)
  to_node _ _ h = absurd h

  node_one : (l l' : Label Act Token) → NodeStep plan Does n a l b → NodeStep plan Does n a l' b' → act_of l ≡ act_of l' → AreOne l b l' b'
  node_one l l' h h' e = by_form (NodeStep plan Does n a) b b' node_own node_take node_put l l' h h' e (node_form plan Does n a b l h) (node_form plan Does n a b' l' h')

module _ (plan : Plan) (waiting : Waiting) (acc : IsAccepted plan) (i : ℕ) (a b b' : Switch) where
  switch_own : (act act' : Act) → SwitchStep plan waiting i a (Own act) b → SwitchStep plan waiting i a (Own act') b' → act ≡ act' → b ≡ b'
  switch_own (Route l o) act' h h0 e = let h' = subst (λ z. SwitchStep plan waiting i a (Own z) b') (sym e) h0 in h.after ∙ sym h'.after
  switch_own (Pass l) act' h h0 e = let h' = subst (λ z. SwitchStep plan waiting i a (Own z) b') (sym e) h0 in enters_same plan i l a b b' h h'
  switch_own a act' h h' e = absurd h

  switch_take : (act act' : Act) (v w : ℕ) (k k' : Token) → SwitchStep plan waiting i a (Takes act v k) b → SwitchStep plan waiting i a (Takes act' w k') b' → act ≡ act' → (v ≡ w) × (k ≡ k' → b ≡ b')
  switch_take (Take l x) act' v w k k' h h0 e =
      let h' = subst (λ z. SwitchStep plan waiting i a (Takes z w k') b') (sym e) h0 in
      (one_far plan acc v w h.0.0 h'.0.0 (h.0.1 ∙ sym h'.0.1), λ j. switch_comes_same a l x k' b b' (subst (λ z. switch.Comes a l x z b) j h.1) h'.1)
  switch_take a act' v w k k' h h' e = absurd h

  switch_put : (act act' : Act) (v w : ℕ) (k k' : Token) → SwitchStep plan waiting i a (Puts act v k) b → SwitchStep plan waiting i a (Puts act' w k') b' → act ≡ act' → (v ≡ w) × (k ≡ k') × (b ≡ b')
  switch_put (Put l) act' v w k k' h h0 e =
      let h' = subst (λ z. SwitchStep plan waiting i a (Puts z w k') b') (sym e) h0 in
      let s = leaves_same plan i l waiting a b b' k k' acc h.1 h'.1 in
      (one_near plan acc v w h.0.0 h'.0.0 (h.0.1 ∙ sym h'.0.1), s.0, s.1)
  switch_put (Fct l) act' v w k k' h h0 e =
      let h' = subst (λ z. SwitchStep plan waiting i a (Puts z w k') b') (sym e) h0 in
      (one_near plan acc v w h.0.0 h'.0.0 (h.0.1 ∙ sym h'.0.1), h.1 ∙ sym h'.1, switch_fct_same a l b b' h.2 h'.2)
  switch_put a act' v w k k' h h' e = absurd h

  switch_one : (l l' : Label Act Token) → SwitchStep plan waiting i a l b → SwitchStep plan waiting i a l' b' → act_of l ≡ act_of l' → AreOne l b l' b'
  switch_one l l' h h' e = by_form (SwitchStep plan waiting i a) b b' switch_own switch_take switch_put l l' h h' e (switch_form plan waiting i a b l h) (switch_form plan waiting i a b' l' h')

  to_switch : (P : Type 0) (l l' : Label Act Token) → AreOne l b l' b' → AreOne {State = Actor P} l (IsSwitch b) l' (IsSwitch b')
  to_switch P (Own act) (Own act') h = ap IsSwitch h
  to_switch P (Takes act v p) (Takes act' w q) h = (h.0, λ e. ap IsSwitch (h.1 e))
  to_switch P (Puts act v p) (Puts act' w q) h = (h.0, h.1, ap IsSwitch h.2)
  to_switch P _ _ h = absurd h

pub determined : {P : Type 0} (plan : Plan) (waiting : Waiting) (Does : StepRelation P) → IsAccepted plan → IsDeterminate Does → IsDetermined (Local plan waiting Does)
determined plan waiting Does acc det n (IsNode a) l l' (IsNode b) (IsNode b') h h' e = to_node plan Does acc det n a b b' l l' (node_one plan Does acc det n a b b' l l' h.1 h'.1 e)
determined {P} plan waiting Does acc det n (IsSwitch a) l l' (IsSwitch b) (IsSwitch b') h h' e =
    let k : h'.0 ≡ h.0 = (let p = h.1 in let q = h'.1 in omega arith) in
    to_switch plan waiting acc h.0 a b b' P l l' (switch_one plan waiting acc h.0 a b b' l l' h.2 (subst (λ z. SwitchStep plan waiting z a l' b') k h'.2) e)
determined plan waiting Does acc det n (IsNode a) l l' (IsNode b) (IsSwitch b') h h' e = absurd h'
determined plan waiting Does acc det n (IsNode a) l l' (IsSwitch b) b' h h' e = absurd h
determined plan waiting Does acc det n (IsSwitch a) l l' (IsSwitch b) (IsNode b') h h' e = absurd h'
determined plan waiting Does acc det n (IsSwitch a) l l' (IsNode b) b' h h' e = absurd h

pub events_are_one : {P : Type 0} (plan : Plan) (waiting : Waiting) (Does : StepRelation P) → EventsAreOne plan waiting Does
events_are_one plan waiting Does acc det old new new' e h h' =
    (step_determined (Local plan waiting Does) (determined plan waiting Does acc det) old old new new' e.actor h.0 h'.0 (record { states = λ n. refl; ways = λ w. refl }) h.2 h'.2 (h.1 ∙ sym h'.1)).1

pub replays_reach : {P : Type 0} (plan : Plan) (waiting : Waiting) (Does : StepRelation P) (begin : ℕ → P) → ReplaysReach plan waiting Does begin
replays_reach plan waiting Does begin last runs left acts acc det h =
    let start = begins plan begin in
    let alike : Alike start start = record { states = λ n. refl; ways = λ w. refl } in
    let t = replayed plan waiting Does start (ended last left) (map made_by acts) (threads_headline plan waiting Does begin last runs left acts acc h).0 in
    let d = determined plan waiting Does acc det in (
      λ done rest e mid split g.
          (let r = replayed plan waiting Does start mid done g in
          let x = never_refused (Local plan waiting Does) d start start mid (ended last left) t.0 r.0 done e rest alike t.1 (t.2 ∙ split) r.1 r.2 in
          (x.2.0, (x.0.label, ap (λ z. z.act) x.1, subst (λ z. Step (Local plan waiting Does) mid z x.0.label x.2.0) (ap (λ z. z.actor) x.1) x.2.1))),
      λ end g.
          (let r = replayed plan waiting Does start end (map made_by acts) g in
          same_end (Local plan waiting Does) d start start end (ended last left) t.0 r.0 alike t.1 r.1 (t.2 ∙ sym r.2)),
    )
