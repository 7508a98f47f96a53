-- An actor's step looks at its own parts only, and at the front of the wire that it takes from.
use Rattle.std.proofs.Common.{◌≡◌, ℕ, suc, ◌+◌, ◌-◌, ◌<◌, ◌≤◌, List, [], ◌∷◌, ◌++◌, length, refl, sym, ap, subst, ◌∙◌, Some, None}
use Rattle.vc_packets.specs.declared.mark.Mark.{Mark}
use Rattle.vc_packets.specs.declared.packet.Packet.{Packet}
use Rattle.vc_machine.specs.Paths.{Port, AtNode, AtSwitch, Net}
use Rattle.vc_machine.specs.Machine.{State, WayState, set_way, BodyLeaves, Reaches}
use Rattle.vc_tokens.specs.Tokens.{Token, Byte, Fct, EndMark}
use Rattle.vc_credit.specs.Ends.{Sender}
use Rattle.vc_machine.specs.Links.{Receiver, Tokens, set_sender, set_wire, set_receiver}
use Rattle.vc_switch.specs.Waiting.{Waiting, MayGo}
use Rattle.vc_machine.specs.TokenMachine.{TokenEvent, Proc, Take, Pass, Put, PutFct, arrive, with_header, Closes, keeps, loses, Passes, node_byte, node_mark, switch_byte, switch_mark, put_byte, put_mark, released, IsBoundTo, Puts, Binds}
use Rattle.vc_machine.specs.View.{Bindings}
use Rattle.vc_machine.specs.Atomic.{SameActor, SameNode, SameHere, StepsAreLocal}
use Rattle.vc_machine.proofs.Update.{every_put₂}
use Rattle.vc_machine.proofs.Heads.{same_switch}
use Rattle.vc_machine.proofs.Atoms.{at_port}
use Rattle.vc_machine.proofs.NodeLocal.{reaches_local, proc_local}

abbrev NodesToo : Net → Port → State → State → Type 0
NodesToo net p a b = (n i : ℕ) → p ≡ AtNode n i → SameNode net n a b

record Local (net : Net) (p : Port) (u : Tokens) (R : Tokens → Type 0) : Type 0 where
  pub after : Tokens
  pub step : R after
  pub same : SameHere net p u after

local : (net : Net) (p : Port) (u k x : Tokens) (R : Tokens → Type 0) → u ≡ k → R x → SameHere net p k x → Local net p u R
local net p u k x R e step same = record { after = x; step = step; same = subst (λ j. SameHere net p j x) (sym e) same }

received : (net : Net) (p : Port) (t t2 : Tokens) (v : ℕ) (f : Receiver → Receiver) (a b : State) → SameHere net p t t2 → NodesToo net p a b →
    SameHere net p (record (set_receiver t v (f (t.receiver v))) { nodes = a }) (record (set_receiver t2 v (f (t2.receiver v))) { nodes = b })
received net p t t2 v f a b h node =
    record {
      senders = h.senders;
      receivers = every_put₂ (λ j x y. SameActor (net.far j) p → y ≡ x) t.receiver t2.receiver v (f (t.receiver v)) (f (t2.receiver v)) (λ at. ap f (h.receivers v at)) h.receivers;
      node = node;
    }

sent : (net : Net) (p : Port) (t t2 : Tokens) (w : ℕ) (f : Sender → Sender) (ts ts2 : List Token) (a b : State) → SameHere net p t t2 → NodesToo net p a b →
    SameHere net p (record (set_wire (set_sender t w (f (t.sender w))) w ts) { nodes = a }) (record (set_wire (set_sender t2 w (f (t2.sender w))) w ts2) { nodes = b })
sent net p t t2 w f ts ts2 a b h node =
    record {
      senders = every_put₂ (λ j x y. SameActor (net.near j) p → y ≡ x) t.sender t2.sender w (f (t.sender w)) (f (t2.sender w)) (λ at. ap f (h.senders w at)) h.senders;
      receivers = h.receivers;
      node = node;
    }

lost_too : (net : Net) (p : Port) (t t2 : Tokens) → SameHere net p t t2 → NodesToo net p (record t.nodes { lost = suc t.nodes.lost }) (record t2.nodes { lost = suc t2.nodes.lost })
lost_too net p t t2 h n i e = let k = h.node n i e in record { queues = k.queues; outs = k.outs; ins = k.ins }

closes_local : (net : Net) (p : Port) (t t2 : Tokens) (n w : ℕ) (got : List ℕ) (m : Mark) (rest : List Token) (u : Tokens) → SameHere net p t t2 → Closes net t n w got m rest u →
    Local net p u (Closes net t2 n w got m rest)
closes_local net p t t2 n w got m rest u h (keeps g after) =
    local net p u _ (set_receiver t2 w (record (t2.receiver w) { buffer = rest; got = got; mark = Some m })) (Closes net t2 n w got m rest) after (keeps g refl)
    (received net p t t2 w (λ r. record r { buffer = rest; got = got; mark = Some m }) t.nodes t2.nodes h h.node)
closes_local net p t t2 n w got m rest u h (loses alone after) =
    local net p u _ (record (set_receiver t2 w (record (t2.receiver w) { buffer = rest; got = [] })) { nodes = record t2.nodes { lost = suc t2.nodes.lost } }) (Closes net t2 n w got m rest) after (loses alone refl)
    (received net p t t2 w (λ r. record r { buffer = rest; got = [] }) (record t.nodes { lost = suc t.nodes.lost }) (record t2.nodes { lost = suc t2.nodes.lost }) h (lost_too net p t t2 h))

node_one : (net : Net) (p : Port) (n i : ℕ) (a b : State) → p ≡ AtNode n i → SameNode net n a b → NodesToo net p a b
node_one net p n i a b e h m j f = subst (λ k. SameNode net k a b) (let c : AtNode n i ≡ AtNode m j = sym e ∙ f in let d : n ≡ m = cc in d) h

passes_local : (net : Net) (p : Port) (t t2 : Tokens) (w : ℕ) (u : Tokens) → p ≡ net.far w → SameHere net p t t2 → Passes net t w u → Local net p u (Passes net t2 w)
passes_local net p t t2 w u is h (node_byte n i b rest far front after) =
    let e = h.receivers w (at_port (net.far w) p is) in
    local net p u _ (set_receiver t2 w (record (t2.receiver w) { buffer = rest; got = (t2.receiver w).got ++ b ∷ [] })) (Passes net t2 w) after
    (node_byte n i b rest far (ap (λ (r : Receiver). r.buffer) e ∙ front) refl)
    (received net p t t2 w (λ r. record r { buffer = rest; got = r.got ++ b ∷ [] }) t.nodes t2.nodes h h.node)
passes_local net p t t2 w u is h (node_mark n i m rest v far front reach after) =
    let e = h.receivers w (at_port (net.far w) p is) in
    let f = reaches_local net n t.nodes t2.nodes v (record { body = (t.receiver w).got; mark = m }) (h.node n i (is ∙ far)) reach in
    local net p u _ (record (set_receiver t2 w (record (t2.receiver w) { buffer = rest; got = [] })) { nodes = f.after }) (Passes net t2 w) after
    (node_mark n i m rest f.after far (ap (λ (r : Receiver). r.buffer) e ∙ front)
    (subst (λ (r : Receiver). Reaches net t2.nodes n (record { body = r.got; mark = m }) f.after) (sym e) f.step) refl)
    (received net p t t2 w (λ r. record r { buffer = rest; got = [] }) v f.after h (node_one net p n i v f.after (is ∙ far) f.same))
passes_local net p t t2 w u is h (switch_byte n i b rest far none front after) =
    let e = h.receivers w (at_port (net.far w) p is) in
    local net p u _ (set_receiver t2 w (record (t2.receiver w) { buffer = rest; got = with_header net n i (t2.receiver w) ++ b ∷ [] })) (Passes net t2 w) after
    (switch_byte n i b rest far (ap (λ (r : Receiver). r.mark) e ∙ none) (ap (λ (r : Receiver). r.buffer) e ∙ front) refl)
    (received net p t t2 w (λ r. record r { buffer = rest; got = with_header net n i r ++ b ∷ [] }) t.nodes t2.nodes h h.node)
passes_local net p t t2 w u is h (switch_mark n i m rest far none front closes) =
    let e = h.receivers w (at_port (net.far w) p is) in
    let f = closes_local net p t t2 n w (with_header net n i (t.receiver w)) m rest u h closes in
    record {
      after = f.after;
      step = switch_mark n i m rest far (ap (λ (r : Receiver). r.mark) e ∙ none) (ap (λ (r : Receiver). r.buffer) e ∙ front)
          (subst (λ (r : Receiver). Closes net t2 n w (with_header net n i r) m rest f.after) (sym e) f.step);
      same = f.same;
    }

queue_here : (net : Net) (p : Port) (t t2 : Tokens) (w n i : ℕ) (rest : List Packet) → SameHere net p t t2 → p ≡ net.near w → net.near w ≡ AtNode n i →
    NodesToo net p (set_way t.nodes w (record (t.nodes.ways w) { queue = rest })) (set_way t2.nodes w (record (t2.nodes.ways w) { queue = rest }))
queue_here net p t t2 w n i rest h is near m j e =
    let k = h.node m j e in
    record {
      queues = every_put₂ (λ x (a b : WayState). (i : ℕ) → net.near x ≡ AtNode m i → b.queue ≡ a.queue) t.nodes.ways t2.nodes.ways w _ _ (λ i2 f. refl) k.queues;
      outs = k.outs;
      ins = k.ins;
    }

bound_here : (net : Net) (waiting : Waiting) (p : Port) (t t2 : Tokens) (n v w : ℕ) (d : List ℕ) → SameHere net p t t2 → p ≡ net.near w → IsBoundTo net waiting t n v w d →
    (t2.receiver v ≡ t.receiver v) × IsBoundTo net waiting t2 n v w d
bound_here net waiting p t t2 n v w d h is k =
    let l = k.leaves in
    let x = l.leaves in
    let e : t2.receiver v ≡ t.receiver v = h.receivers v (subst (λ q. SameActor q p) (sym k.far) (subst (SameActor (AtSwitch n k.link)) (sym (is ∙ x.near)) refl)) in (
      e,
      record {
        real = k.real;
        link = k.link;
        far = k.far;
        bound = ap (λ (r : Receiver). r.bound) e ∙ k.bound;
        leaves = subst (λ (r : Receiver). BodyLeaves net n r.got w d) (sym e) k.leaves;
        may_go = subst (λ (r : Receiver). MayGo waiting r.mark) (sym e) k.may_go;
      },
    )

puts_local : (net : Net) (waiting : Waiting) (p : Port) (t t2 : Tokens) (w : ℕ) (u : Tokens) → p ≡ net.near w → SameHere net p t t2 → Puts net waiting t w u → Local net p u (Puts net waiting t2 w)
puts_local net waiting p t t2 w u is h (node_byte n i q rest b more near front e after) =
    let s = h.senders w (at_port (net.near w) p is) in
    let k = h.node n i (is ∙ near) in
    local net p u _ (put_byte t2 w b) (Puts net waiting t2 w) after
    (node_byte n i q rest b more near (k.queues w i near ∙ front) (e ∙ ap (λ (x : Sender). x.sent ++ b ∷ more) (sym s)) refl)
    (sent net p t t2 w (λ x. record { sent = x.sent ++ b ∷ []; credit = x.credit - 1 }) _ _ t.nodes t2.nodes h h.node)
puts_local net waiting p t t2 w u is h (node_mark n i q rest near front e after) =
    let s = h.senders w (at_port (net.near w) p is) in
    let k = h.node n i (is ∙ near) in
    local net p u _ (record (put_mark t2 w q.mark) { nodes = set_way t2.nodes w (record (t2.nodes.ways w) { queue = rest }) }) (Puts net waiting t2 w) after
    (node_mark n i q rest near (k.queues w i near ∙ front) (e ∙ ap (λ (x : Sender). x.sent) (sym s)) refl)
    (sent net p t t2 w (λ x. record { sent = []; credit = x.credit - 1 }) _ _ _ _ h (queue_here net p t t2 w n i rest h is near))
puts_local net waiting p t t2 w u is h (switch_byte n v d b more k e after) =
    let s = h.senders w (at_port (net.near w) p is) in
    let x = bound_here net waiting p t t2 n v w d h is k in
    local net p u _ (put_byte t2 w b) (Puts net waiting t2 w) after
    (switch_byte n v d b more x.1 (e ∙ ap (λ (y : Sender). y.sent ++ b ∷ more) (sym s)) refl)
    (sent net p t t2 w (λ y. record { sent = y.sent ++ b ∷ []; credit = y.credit - 1 }) _ _ t.nodes t2.nodes h h.node)
puts_local net waiting p t t2 w u is h (switch_mark n v d m k mark e after) =
    let s = h.senders w (at_port (net.near w) p is) in
    let x = bound_here net waiting p t t2 n v w d h is k in
    let free : SameHere net p (released t v) (released t2 v) = received net p t t2 v (λ r. record r { got = []; mark = None; bound = None }) t.nodes t2.nodes h h.node in
    local net p u _ (put_mark (released t2 v) w m) (Puts net waiting t2 w) after
    (switch_mark n v d m x.1 (ap (λ (r : Receiver). r.mark) x.0 ∙ mark) (e ∙ ap (λ (y : Sender). y.sent) (sym s)) refl)
    (sent net p (released t v) (released t2 v) w (λ y. record { sent = []; credit = y.credit - 1 }) _ _ t.nodes t2.nodes free free.node)

arrive_local : (net : Net) (back : ℕ → ℕ) (p : Port) (t t2 : Tokens) (w word : ℕ) (k : Token) (rest more : List Token) → SameHere net p t t2 →
    SameHere net p (arrive back (set_wire t w rest) w word k) (arrive back (set_wire t2 w more) w word k)
arrive_local net back p t t2 w word Fct rest more h =
    record {
      senders = every_put₂ (λ j x y. SameActor (net.near j) p → y ≡ x) t.sender t2.sender (back w) _ _
          (λ at. ap (λ (a : Sender). record a { credit = a.credit + 8 }) (h.senders (back w) at)) h.senders;
      receivers = every_put₂ (λ j x y. SameActor (net.far j) p → y ≡ x) t.receiver t2.receiver w _ _ (λ at. ap (λ (r : Receiver). record r { word = word }) (h.receivers w at)) h.receivers;
      node = h.node;
    }
arrive_local net back p t t2 w word (Byte b) rest more h =
    record {
      senders = h.senders;
      receivers = every_put₂ (λ j x y. SameActor (net.far j) p → y ≡ x) t.receiver t2.receiver w _ _
          (λ at. ap (λ (r : Receiver). record r { buffer = r.buffer ++ Byte b ∷ []; promised = r.promised - 1; word = word }) (h.receivers w at)) h.receivers;
      node = h.node;
    }
arrive_local net back p t t2 w word (EndMark m) rest more h =
    record {
      senders = h.senders;
      receivers = every_put₂ (λ j x y. SameActor (net.far j) p → y ≡ x) t.receiver t2.receiver w _ _
          (λ at. ap (λ (r : Receiver). record r { buffer = r.buffer ++ EndMark m ∷ []; promised = r.promised - 1; word = word }) (h.receivers w at)) h.receivers;
      node = h.node;
    }

binds_local : (net : Net) (waiting : Waiting) (p : Port) (t t2 : Tokens) (w out : ℕ) (u : Tokens) → p ≡ net.far w → SameHere net p t t2 → Bindings net t2 → Binds net waiting t w out u →
    Local net p u (Binds net waiting t2 w out)
binds_local net waiting p t t2 w out u is h bindings k =
    let e = h.receivers w (at_port (net.far w) p is) in
    let l = k.group in
    let x = l.leaves in
    local net p u _ (set_receiver t2 w (record (t2.receiver w) { bound = Some out })) (Binds net waiting t2 w out) k.after
    (record {
      body = k.body;
      switch = k.switch;
      link = k.link;
      real = k.real;
      far = k.far;
      unbound = ap (λ (r : Receiver). r.bound) e ∙ k.unbound;
      group = subst (λ (r : Receiver). BodyLeaves net k.switch r.got out k.body) (sym e) k.group;
      may_go = subst (λ (r : Receiver). MayGo waiting r.mark) (sym e) k.may_go;
      free = λ v real b.
          let g = bindings.group v out b in
          let m = g.group in
          let y = m.leaves in
          let one : g.switch ≡ k.switch = same_switch g.switch y.link k.switch x.link (sym y.near ∙ x.near) in
          let same : t2.receiver v ≡ t.receiver v = h.receivers v (subst (λ q. SameActor q p) (sym g.far) (subst (SameActor (AtSwitch g.switch g.link)) (sym (is ∙ k.far)) one)) in
          k.free v real (sym (ap (λ (r : Receiver). r.bound) same) ∙ b);
      after = refl;
    })
    (received net p t t2 w (λ r. record r { bound = Some out }) t.nodes t2.nodes h h.node)

pub steps_are_local : (net : Net) (back : ℕ → ℕ) (waiting : Waiting) → StepsAreLocal net back waiting
steps_are_local net back waiting t t2 (Proc e) u p at h front bindings k =
    let n = at.0 in
    let f = proc_local net n t.nodes t2.nodes k.1.0 e at.3 (h.node n at.1 at.2) k.1.1 in (
      record t2 { nodes = f.after },
      (k.0, (f.after, f.step, refl)),
      subst (λ j. SameHere net p j (record t2 { nodes = f.after })) (sym k.1.2)
          (record { senders = h.senders; receivers = h.receivers; node = node_one net p n at.1 k.1.0 f.after at.2 f.same }),
    )
steps_are_local net back waiting t t2 (Take w word) u p at h front bindings k =
    let f = front k.token k.rest k.front in (
      arrive back (set_wire t2 w f.0) w word k.token,
      record { token = k.token; rest = f.0; real = k.real; front = f.1; after = refl },
      subst (λ j. SameHere net p j (arrive back (set_wire t2 w f.0) w word k.token)) (sym k.after) (arrive_local net back p t t2 w word k.token k.rest f.0 h),
    )
steps_are_local net back waiting t t2 (Pass w) u p at h front bindings k = (let f = passes_local net p t t2 w u at h k.1 in (f.after, (k.0, f.step), f.same))
steps_are_local net back waiting t t2 (Put w) u p at h front bindings k =
    let f = puts_local net waiting p t t2 w u at h k.2 in
    let s = h.senders w (at_port (net.near w) p at) in
    (f.after, (k.0, subst (λ (a : Sender). 0 < a.credit) (sym s) k.1, f.step), f.same)
steps_are_local net back waiting t t2 (PutFct w) u p at h front bindings k =
    let e = h.receivers w (at_port (net.far w) p at) in (
      set_wire (set_receiver t2 w (record (t2.receiver w) { promised = (t2.receiver w).promised + 8 })) (back w) (t2.wire (back w) ++ Fct ∷ []),
      record { real = k.real; room = subst (λ (r : Receiver). length r.buffer + r.promised + 8 ≤ 16) (sym e) k.room; after = refl },
      subst (λ j. SameHere net p j (set_wire (set_receiver t2 w (record (t2.receiver w) { promised = (t2.receiver w).promised + 8 })) (back w) (t2.wire (back w) ++ Fct ∷ []))) (sym k.after)
          (let s = received net p t t2 w (λ r. record r { promised = r.promised + 8 }) t.nodes t2.nodes h h.node in record { senders = s.senders; receivers = s.receivers; node = s.node }),
    )
steps_are_local net back waiting t t2 (TokenEvent.Route w out) u p at h front bindings k = (let f = binds_local net waiting p t t2 w out u at h bindings k in (f.after, f.step, f.same))
