-- Each step is one actor's.
use Rattle.std.proofs.Common.{◌≡◌, ℕ, suc, ◌+◌, ◌-◌, List, [], ◌∷◌, ◌++◌, refl, sym, subst, ◌∙◌, Some, None}
use Rattle.vc_packets.specs.declared.mark.Mark.{Mark}
use Rattle.vc_machine.specs.Paths.{Port, AtNode, AtSwitch, Net}
use Rattle.vc_machine.specs.Machine.{State}
use Rattle.vc_packets.specs.Functions.{put}
use Rattle.vc_tokens.specs.Tokens.{Token, Byte, Fct, EndMark}
use Rattle.vc_credit.specs.Ends.{Sender}
use Rattle.vc_machine.specs.Links.{Receiver, Tokens, Wires, set_sender, set_wire, set_receiver}
use Rattle.vc_switch.specs.Waiting.{Waiting}
use Rattle.vc_machine.specs.TokenMachine.{TokenEvent, Proc, Take, Pass, Put, PutFct, arrive, Closes, keeps, loses, Passes, node_byte, node_mark, switch_byte, switch_mark, Puts}
use Rattle.vc_machine.specs.Atomic.{SameActor, neither, takes_one, puts_one, IsAtomic, SameNode, Homes, StepsAreAtomic}
use Rattle.vc_machine.proofs.NodeLocal.{node_self, queue_elsewhere, reaches_elsewhere, proc_elsewhere}
use Rattle.vc_machine.proofs.Basics.{put-other}

same_self : (p : Port) → SameActor p p
same_self (AtNode n i) = refl
same_self (AtSwitch n i) = refl

-- a change at a way whose port is the actor's
elsewhere : {X : Type 0} (f : ℕ → X) (v : ℕ) (x : X) (port : ℕ → Port) (p : Port) → SameActor (port v) p → (w : ℕ) → (SameActor (port w) p → ⊥) → put f v x w ≡ f w
elsewhere f v x port p here w other = put-other f v x w (λ e. other (subst (λ k. SameActor (port k) p) (sym e) here))

pub at_port : (q p : Port) → p ≡ q → SameActor q p
at_port q p e = subst (SameActor q) (sym e) (same_self q)

abbrev Elsewhere : Net → Port → State → State → Type 0
Elsewhere net p s v = (n i : ℕ) → (SameActor (AtNode n i) p → ⊥) → SameNode net n s v

no_nodes : (net : Net) (p : Port) (s : State) → Elsewhere net p s s
no_nodes net p s n i other = node_self net n s

not_node : (p : Port) (m j n i : ℕ) → p ≡ AtNode n i → (SameActor (AtNode m j) p → ⊥) → m ≡ n → ⊥
not_node p m j n i is other e = other (subst (SameActor (AtNode m j)) (sym is) e)

lost_elsewhere : (net : Net) (p : Port) (s : State) → Elsewhere net p s (record s { lost = suc s.lost })
lost_elsewhere net p s n i other = let k = node_self net n s in record { queues = k.queues; outs = k.outs; ins = k.ins }

-- only a receiving end
received : (net : Net) (p : Port) (t : Tokens) (v : ℕ) (r : Receiver) (n : State) → p ≡ net.far v → Elsewhere net p t.nodes n → IsAtomic net p t (record (set_receiver t v r) { nodes = n })
received net p t v r n is else_same = record { nodes = else_same; wires = neither refl; senders = λ w other. refl; receivers = elsewhere t.receiver v r net.far p (at_port (net.far v) p is) }

closes_atomic : (net : Net) (p : Port) (t : Tokens) (n w : ℕ) (got : List ℕ) (m : Mark) (rest : List Token) (u : Tokens) → p ≡ net.far w → Closes net t n w got m rest u → IsAtomic net p t u
closes_atomic net p t n w got m rest u is (keeps g after) = subst (IsAtomic net p t) (sym after) (received net p t w _ t.nodes is (no_nodes net p t.nodes))
closes_atomic net p t n w got m rest u is (loses alone after) = subst (IsAtomic net p t) (sym after) (received net p t w _ (record t.nodes { lost = suc t.nodes.lost }) is (lost_elsewhere net p t.nodes))

passes_atomic : (net : Net) → Homes net → (p : Port) (t : Tokens) (w : ℕ) (u : Tokens) → p ≡ net.far w → Passes net t w u → IsAtomic net p t u
passes_atomic net homes p t w u is (node_byte n i b rest far front after) = subst (IsAtomic net p t) (sym after) (received net p t w _ t.nodes is (no_nodes net p t.nodes))
passes_atomic net homes p t w u is (node_mark n i m rest v far front reach after) = subst (IsAtomic net p t) (sym after) (received net p t w _ v is (λ k j other. reaches_elsewhere net homes k n t.nodes (record { body = (t.receiver w).got; mark = m }) v (not_node p k j n i (is ∙ far) other) reach))
passes_atomic net homes p t w u is (switch_byte n i b rest far none front after) = subst (IsAtomic net p t) (sym after) (received net p t w _ t.nodes is (no_nodes net p t.nodes))
passes_atomic net homes p t w u is (switch_mark n i m rest far none front closes) = closes_atomic net p t n w _ m rest u is closes

-- only a sending end and its wire
put_atomic : (net : Net) (p : Port) (t : Tokens) (w : ℕ) (a : Sender) (k : Token) (n : State) → p ≡ net.near w → Elsewhere net p t.nodes n →
    IsAtomic net p t (record (set_wire (set_sender t w a) w (t.wire w ++ k ∷ [])) { nodes = n })
put_atomic net p t w a k n is else_same =
    record { nodes = else_same; wires = puts_one w k (sym is) refl; senders = elsewhere t.sender w a net.near p (at_port (net.near w) p is); receivers = λ v other. refl }

puts_atomic : (net : Net) (waiting : Waiting) (p : Port) (t : Tokens) (w : ℕ) (u : Tokens) → p ≡ net.near w → Puts net waiting t w u → IsAtomic net p t u
puts_atomic net waiting p t w u is (node_byte n i q rest b more near front e after) = subst (IsAtomic net p t) (sym after) (put_atomic net p t w _ (Byte b) t.nodes is (no_nodes net p t.nodes))
puts_atomic net waiting p t w u is (node_mark n i q rest near front e after) = subst (IsAtomic net p t) (sym after) (put_atomic net p t w _ (EndMark q.mark) _ is
    (λ m j other. queue_elsewhere net m t.nodes t.nodes w _ (node_self net m t.nodes) (λ x e. other (subst (SameActor (AtNode m j)) (sym (is ∙ e)) refl))))
puts_atomic net waiting p t w u is (switch_byte n v d b more h e after) = subst (IsAtomic net p t) (sym after) (put_atomic net p t w _ (Byte b) t.nodes is (no_nodes net p t.nodes))
puts_atomic net waiting p t w u is (switch_mark n v d m h mark e after) =
    let l = h.leaves in
    let k = l.leaves in
    let here : SameActor (net.far v) p = subst (λ q. SameActor q p) (sym h.far) (subst (SameActor (AtSwitch n h.link)) (sym (is ∙ k.near)) refl) in
    let r : Receiver = record (t.receiver v) { got = []; mark = None; bound = None } in
    subst (IsAtomic net p t) (sym after)
    (record {
      nodes = no_nodes net p t.nodes;
      wires = puts_one w (EndMark m) (sym is) refl;
      senders = elsewhere t.sender w (record { sent = []; credit = (t.sender w).credit - 1 }) net.near p (at_port (net.near w) p is);
      receivers = elsewhere t.receiver v r net.far p here;
    })

arrive_atomic : (net : Net) (back : ℕ → ℕ) → Wires net back → (p : Port) (t : Tokens) (w word : ℕ) (k : Token) (rest : List Token) → p ≡ net.far w → t.wire w ≡ k ∷ rest →
    IsAtomic net p t (arrive back (set_wire t w rest) w word k)
arrive_atomic net back wires p t w word Fct rest is front =
    record {
      nodes = no_nodes net p t.nodes;
      wires = takes_one w Fct rest (sym is) front refl;
      senders = elsewhere t.sender (back w) (record (t.sender (back w)) { credit = (t.sender (back w)).credit + 8 }) net.near p (at_port (net.near (back w)) p (is ∙ sym (wires.near w)));
      receivers = elsewhere t.receiver w (record (t.receiver w) { word = word }) net.far p (at_port (net.far w) p is);
    }
arrive_atomic net back wires p t w word (Byte b) rest is front =
    record { nodes = no_nodes net p t.nodes; wires = takes_one w (Byte b) rest (sym is) front refl; senders = λ v other. refl; receivers = elsewhere t.receiver w _ net.far p (at_port (net.far w) p is) }
arrive_atomic net back wires p t w word (EndMark m) rest is front =
    record { nodes = no_nodes net p t.nodes; wires = takes_one w (EndMark m) rest (sym is) front refl; senders = λ v other. refl; receivers = elsewhere t.receiver w _ net.far p (at_port (net.far w) p is) }

pub steps_are_atomic : (net : Net) (back : ℕ → ℕ) (waiting : Waiting) → Wires net back → Homes net → StepsAreAtomic net back waiting
steps_are_atomic net back waiting wires homes t (Proc e) u p is h =
    subst (IsAtomic net p t) (sym h.1.2) (record {
      wires = neither refl;
      senders = λ w other. refl;
      receivers = λ w other. refl;
      nodes = λ m j other. proc_elsewhere net homes m is.0 t.nodes e h.1.0 (not_node p m j is.0 is.1 is.2 other) is.3 h.1.1;
    })
steps_are_atomic net back waiting wires homes t (Take w word) u p is h =
    subst (IsAtomic net p t) (sym h.after) (arrive_atomic net back wires p t w word h.token h.rest is h.front)
steps_are_atomic net back waiting wires homes t (Pass w) u p is h = passes_atomic net homes p t w u is h.1
steps_are_atomic net back waiting wires homes t (Put w) u p is h = puts_atomic net waiting p t w u is h.2
steps_are_atomic net back waiting wires homes t (PutFct w) u p is h =
    let r : Receiver = record (t.receiver w) { promised = (t.receiver w).promised + 8 } in
    subst (IsAtomic net p t) (sym h.after)
    (record { nodes = no_nodes net p t.nodes; wires = puts_one (back w) Fct (wires.near w ∙ sym is) refl; senders = λ v other. refl; receivers = elsewhere t.receiver w r net.far p (at_port (net.far w) p is) })
steps_are_atomic net back waiting wires homes t (TokenEvent.Route w out) u p is h =
    subst (IsAtomic net p t) (sym h.after) (received net p t w (record (t.receiver w) { bound = Some out }) t.nodes is (no_nodes net p t.nodes))
