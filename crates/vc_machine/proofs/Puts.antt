-- Put: a byte is no step, a mark is Send at a node and Leave at a switch. Route is a step where the mark has come.
use Rattle.std.proofs.Common.{◌≡◌, ℕ, ◌-◌, ◌<◌, List, [], ◌∷◌, ◌++◌, refl, sym, ap, subst, ◌∙◌, Some, None}
use Rattle.vc_packets.specs.declared.mark.Mark.{Mark}
use Rattle.vc_packets.specs.declared.packet.Packet.{Packet}
use Rattle.vc_machine.specs.Paths.{AtNode, Net}
use Rattle.vc_machine.specs.Machine.{State, WayState, Empty, Full, set_way, emptied, carry, Event, Send, Leave}
use Rattle.vc_tokens.specs.Tokens.{Byte, EndMark, Spells}
use Rattle.vc_machine.specs.Links.{Tokens, set_receiver}
use Rattle.vc_switch.specs.Waiting.{Waiting}
use Rattle.vc_machine.specs.TokenMachine.{put_byte, put_mark, IsBoundTo, released, Puts, node_byte, node_mark, switch_byte, switch_mark, Binds}
use Rattle.vc_machine.specs.View.{nothing, Inside, without_mark, with_mark, stream, TokenView, AtMostTwo, stays, moves}
use Rattle.vc_tokens.proofs.Spellings.{byte_spelled, mark_spelled}
use Rattle.vc_machine.proofs.Update.{changed, kept}
use Rattle.vc_machine.proofs.ViewChanges.{view_at, view_received, view_kept, wire_longer}
use Rattle.vc_machine.proofs.Heads.{inside_marked, seen_bound}

-- a byte goes out
byte_put : (net : Net) (t : Tokens) (s : State) (w b : ℕ) → TokenView net t s → TokenView net (put_byte t w b) s
byte_put net t s w b view =
    let i = view.ways w in
    view_at net t (put_byte t w b) s s w _ _ _ _ _ view
    (kept w t.nodes.ways)
    (changed w t.sender (record { sent = (t.sender w).sent ++ b ∷ []; credit = (t.sender w).credit - 1 }))
    (changed w t.wire (t.wire w ++ Byte b ∷ [])) (kept w t.receiver) (kept w s.ways) view.chans view.strays view.lost
    (record {
      passed = i.passed;
      same_queue = i.same_queue;
      line = wire_longer net t s w (Byte b) view ∙ byte_spelled _ (s.ways w).line (t.sender w).sent b i.line;
      inside = i.inside;
    })

-- the mark goes out, and so the packet is on the way. Its sender may be a node
mark_put : (net : Net) (t : Tokens) (s : State) (w : ℕ) (m : Mark) (n x : WayState) → TokenView net t s →
    x.queue ≡ n.queue → x.line ≡ (s.ways w).line ++ record { body = (t.sender w).sent; mark = m } ∷ [] → x.input ≡ (s.ways w).input →
    TokenView net (record (put_mark t w m) { nodes = set_way t.nodes w n }) (set_way s w x)
mark_put net t s w m n x view queue line input =
    let i = view.ways w in
    view_at net t (record (put_mark t w m) { nodes = set_way t.nodes w n }) s (set_way s w x) w n _ _ _ x view
    (changed w t.nodes.ways n)
    (changed w t.sender (record { sent = []; credit = (t.sender w).credit - 1 }))
    (changed w t.wire (t.wire w ++ EndMark m ∷ [])) (kept w t.receiver) (changed w s.ways x) view.chans view.strays view.lost
    (record {
      passed = i.passed;
      same_queue = queue;
      line = subst (λ k. Spells (stream i.passed (t.receiver w).buffer (t.wire w ++ EndMark m ∷ [])) k []) (sym line)
          (wire_longer net t s w (EndMark m) view ∙ mark_spelled _ (s.ways w).line (t.sender w).sent m i.line);
      inside = subst (λ k. Inside net (net.far w) (t.receiver w).got (t.receiver w).mark (t.receiver w).bound i.passed k) (sym input) i.inside;
    })

-- by a switch
mark_left : (net : Net) (t : Tokens) (s : State) (w : ℕ) (m : Mark) (d : List ℕ) → TokenView net t s → d ≡ (t.sender w).sent →
    TokenView net (put_mark t w m) (carry s w (record { body = d; mark = m }))
mark_left net t s w m d view e =
    let i = view.ways w in
    let x : WayState = record (s.ways w) { line = (s.ways w).line ++ record { body = d; mark = m } ∷ [] } in
    view_at net t (put_mark t w m) s (set_way s w x) w _ _ _ _ x view
    (kept w t.nodes.ways)
    (changed w t.sender (record { sent = []; credit = (t.sender w).credit - 1 }))
    (changed w t.wire (t.wire w ++ EndMark m ∷ [])) (kept w t.receiver) (changed w s.ways x) view.chans view.strays view.lost
    (record {
      passed = i.passed;
      same_queue = i.same_queue;
      line = subst (λ k. Spells (stream i.passed (t.receiver w).buffer (t.wire w ++ EndMark m ∷ [])) ((s.ways w).line ++ record { body = k; mark = m } ∷ []) []) (sym e)
          (wire_longer net t s w (EndMark m) view ∙ mark_spelled _ (s.ways w).line (t.sender w).sent m i.line);
      inside = i.inside;
    })

-- the input of way v gives up its packet
release_view : (net : Net) (t : Tokens) (s : State) (v : ℕ) (m : Mark) → TokenView net t s → (t.receiver v).mark ≡ Some m → TokenView net (released t v) (emptied s v)
release_view net t s v m view is =
    let i = view.ways v in
    let r = t.receiver v in
    let at = inside_marked net (net.far v) r.got r.mark r.bound i.passed (s.ways v).input m is i.inside in
    view_received net t s v (record r { got = []; mark = None; bound = None }) (record (s.ways v) { input = Empty }) view
    (record { passed = i.passed; same_queue = i.same_queue; line = i.line; inside = without_mark refl (nothing refl at.0) refl })

switch_mark_put : (net : Net) (waiting : Waiting) (t : Tokens) (s : State) (w n v : ℕ) (d : List ℕ) (m : Mark) → TokenView net t s → IsBoundTo net waiting t n v w d →
    (t.receiver v).mark ≡ Some m → d ≡ (t.sender w).sent → AtMostTwo net s (put_mark (released t v) w m)
switch_mark_put net waiting t s w n v d m view h is e =
    let i = view.ways v in
    let r = t.receiver v in
    let at = inside_marked net (net.far v) r.got r.mark r.bound i.passed (s.ways v).input m is i.inside in
    let p : Packet = record { body = r.got; mark = m } in
    moves (Leave v) (carry (emptied s v) w (record { body = d; mark = m }))
    (record {
      packet = p;
      out = w;
      body = d;
      switch = n;
      link = h.link;
      real = h.real;
      far = h.far;
      full = at.1 ∙ ap (Full p) h.bound;
      leaves = h.leaves;
      after = refl;
    })
    (mark_left net (released t v) (emptied s v) w m d (release_view net t s v m view is) e)

node_mark_put : (net : Net) (t : Tokens) (s : State) (w n i : ℕ) (p : Packet) (rest : List Packet) → w < net.ways → TokenView net t s → net.near w ≡ AtNode n i →
    (t.nodes.ways w).queue ≡ p ∷ rest → p.body ≡ (t.sender w).sent →
    AtMostTwo net s (record (put_mark t w p.mark) { nodes = set_way t.nodes w (record (t.nodes.ways w) { queue = rest }) })
node_mark_put net t s w n i p rest real view near front e =
    let x : WayState = record (s.ways w) { queue = rest; line = (s.ways w).line ++ p ∷ [] } in
    moves (Send w) (set_way s w x)
    (record { packet = p; rest = rest; node = n; link = i; real = real; near = near; front = (view.ways w).same_queue ∙ front; after = refl })
    (mark_put net t s w p.mark (record (t.nodes.ways w) { queue = rest }) x view refl
    (ap (λ (k : List ℕ). (s.ways w).line ++ record { body = k; mark = p.mark } ∷ []) e) refl)

pub puts_view : (net : Net) (waiting : Waiting) (t : Tokens) (s : State) (w : ℕ) (u : Tokens) → w < net.ways → TokenView net t s → Puts net waiting t w u → AtMostTwo net s u
puts_view net waiting t s w u real view (node_byte n i p rest b more near front e after) =
    stays (subst (λ k. TokenView net k s) (sym after) (byte_put net t s w b view))
puts_view net waiting t s w u real view (node_mark n i p rest near front e after) =
    subst (AtMostTwo net s) (sym after) (node_mark_put net t s w n i p rest real view near front e)
puts_view net waiting t s w u real view (switch_byte n v d b more h e after) =
    stays (subst (λ k. TokenView net k s) (sym after) (byte_put net t s w b view))
puts_view net waiting t s w u real view (switch_mark n v d m h is e after) =
    subst (AtMostTwo net s) (sym after) (switch_mark_put net waiting t s w n v d m view h is e)

-- Route

bind_inside : (net : Net) (waiting : Waiting) (t : Tokens) (s : State) (w out : ℕ) (u : Tokens) → TokenView net t s → (h : Binds net waiting t w out u) → (passed : List ℕ) →
    Inside net (net.far w) (t.receiver w).got (t.receiver w).mark (t.receiver w).bound passed (s.ways w).input →
    Spells (stream passed (t.receiver w).buffer (t.wire w)) (s.ways w).line (t.sender w).sent →
    AtMostTwo net s (set_receiver t w (record (t.receiver w) { bound = Some out }))
bind_inside net waiting t s w out u view h passed (without_mark none got empty) line =
    stays (view_kept net t s w (record (t.receiver w) { bound = Some out }) view
    (record { passed = passed; same_queue = (view.ways w).same_queue; line = line; inside = without_mark none got empty }))
bind_inside net waiting t s w out u view h passed (with_mark n i m far is none full) line =
    let p : Packet = record { body = (t.receiver w).got; mark = m } in
    let x : WayState = record (s.ways w) { input = Full p (Some out) } in
    moves (Event.Route w out) (set_way s w x)
    (record {
      packet = p;
      body = h.body;
      switch = h.switch;
      link = h.link;
      real = h.real;
      far = h.far;
      full = full ∙ ap (Full p) h.unbound;
      group = h.group;
      free = λ v q real seen. (let j = view.ways v in
          h.free v real (seen_bound net (net.far v) (t.receiver v).got (t.receiver v).mark (t.receiver v).bound j.passed (s.ways v).input q out j.inside seen));
      after = refl;
    })
    (view_received net t s w (record (t.receiver w) { bound = Some out }) x view
    (record { passed = passed; same_queue = (view.ways w).same_queue; line = line; inside = with_mark n i m far is none refl }))

pub binds_view : (net : Net) (waiting : Waiting) (t : Tokens) (s : State) (w out : ℕ) (u : Tokens) → TokenView net t s → Binds net waiting t w out u → AtMostTwo net s u
binds_view net waiting t s w out u view h =
    let i = view.ways w in
    subst (AtMostTwo net s) (sym h.after) (bind_inside net waiting t s w out u view h i.passed i.inside i.line)
