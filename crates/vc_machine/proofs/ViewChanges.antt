-- The view after a change at one way.
use Rattle.std.proofs.Common.{◌≡◌, ℕ, ◌+◌, ◌-◌, List, [], ◌∷◌, ◌++◌, sym, ap, subst, ◌∙◌, append-nil, append_assoc}
use Rattle.vc_packets.specs.declared.mark.Mark.{Mark}
use Rattle.vc_machine.specs.Paths.{Net}
use Rattle.vc_machine.specs.Machine.{State, WayState, set_way}
use Rattle.vc_tokens.specs.Tokens.{Token, Byte, Fct, EndMark, bytes, Spells, without_fcts}
use Rattle.vc_credit.specs.Ends.{Sender}
use Rattle.vc_machine.specs.Links.{Receiver, Tokens, set_sender, set_wire, set_receiver}
use Rattle.vc_machine.specs.TokenMachine.{arrive, Takes, Grants}
use Rattle.vc_machine.specs.View.{Inside, stream, StandsFor, TokenView}
use Rattle.vc_tokens.proofs.Spellings.{without_fcts-append, FirstPacket, first_packet}
use Rattle.vc_machine.proofs.Update.{Changed, changed, kept, every}
use Rattle.vc_machine.proofs.TokenNodes.{SameNodes, Framed}

pub view_at : (net : Net) (t u : Tokens) (s v : State) (w : ℕ) (n : WayState) (a : Sender) (ts : List Token) (r : Receiver) (x : WayState) → TokenView net t s →
    Changed w t.nodes.ways u.nodes.ways n → Changed w t.sender u.sender a → Changed w t.wire u.wire ts → Changed w t.receiver u.receiver r → Changed w s.ways v.ways x →
    v.chans ≡ u.nodes.chans → v.strays ≡ u.nodes.strays → v.lost ≡ u.nodes.lost →
    StandsFor net (net.far w) n.queue a ts r x → TokenView net u v
view_at net t u s v w n a ts r x view cn ca ct cr cx chans strays lost here =
    record {
      ways = every (λ j n2 a2 ts2 r2 x2. StandsFor net (net.far j) n2.queue a2 ts2 r2 x2) w
          t.nodes.ways u.nodes.ways t.sender u.sender t.wire u.wire t.receiver u.receiver s.ways v.ways n a ts r x cn ca ct cr cx view.ways here;
      chans = chans;
      strays = strays;
      lost = lost;
    }

-- the receiving end of way w is changed, and the way's packets
pub view_received : (net : Net) (t : Tokens) (s : State) (w : ℕ) (r : Receiver) (x : WayState) → TokenView net t s →
    StandsFor net (net.far w) (t.nodes.ways w).queue (t.sender w) (t.wire w) r x → TokenView net (set_receiver t w r) (set_way s w x)
view_received net t s w r x view here =
    view_at net t (set_receiver t w r) s (set_way s w x) w _ _ _ r x view
    (kept w t.nodes.ways) (kept w t.sender) (kept w t.wire) (changed w t.receiver r) (changed w s.ways x) view.chans view.strays view.lost here

-- the receiving end of way w is changed, and no packet moves
pub view_kept : (net : Net) (t : Tokens) (s : State) (w : ℕ) (r : Receiver) → TokenView net t s →
    StandsFor net (net.far w) (t.nodes.ways w).queue (t.sender w) (t.wire w) r (s.ways w) → TokenView net (set_receiver t w r) s
view_kept net t s w r view here =
    view_at net t (set_receiver t w r) s s w _ _ _ r _ view
    (kept w t.nodes.ways) (kept w t.sender) (kept w t.wire) (changed w t.receiver r) (kept w s.ways) view.chans view.strays view.lost here

-- the wire of way w gives its front token, which comes to the receiving end
pub view_came : (net : Net) (t : Tokens) (s : State) (w : ℕ) (rest : List Token) (r : Receiver) → TokenView net t s →
    StandsFor net (net.far w) (t.nodes.ways w).queue (t.sender w) rest r (s.ways w) → TokenView net (set_receiver (set_wire t w rest) w r) s
view_came net t s w rest r view here =
    view_at net t (set_receiver (set_wire t w rest) w r) s s w _ _ _ r _ view
    (kept w t.nodes.ways) (kept w t.sender) (changed w t.wire rest) (changed w t.receiver r) (kept w s.ways) view.chans view.strays view.lost here

pub view_credit : (net : Net) (t : Tokens) (s : State) (w c : ℕ) → TokenView net t s → TokenView net (set_sender t w (record (t.sender w) { credit = c })) s
view_credit net t s w c view =
    let i = view.ways w in
    view_at net t (set_sender t w (record (t.sender w) { credit = c })) s s w _ _ _ _ _ view
    (kept w t.nodes.ways) (changed w t.sender (record (t.sender w) { credit = c })) (kept w t.wire) (kept w t.receiver) (kept w s.ways) view.chans view.strays view.lost
    (record { passed = i.passed; same_queue = i.same_queue; line = i.line; inside = i.inside })

-- Take

data_came : (bs : List ℕ) (buffer : List Token) (k : Token) (ts : List Token) → bytes bs ++ ((buffer ++ k ∷ []) ++ ts) ≡ bytes bs ++ (buffer ++ k ∷ ts)
data_came bs buffer k ts = ap (λ x. bytes bs ++ x) (append_assoc buffer (k ∷ []) ts)

line_after : (net : Net) (t : Tokens) (s : State) (w : ℕ) (ts : List Token) (view : TokenView net t s) → t.wire w ≡ ts →
    Spells (stream (view.ways w).passed (t.receiver w).buffer ts) (s.ways w).line (t.sender w).sent
line_after net t s w ts view e =
    subst (λ k. Spells (stream (view.ways w).passed (t.receiver w).buffer k) (s.ways w).line (t.sender w).sent) e (view.ways w).line

arrive_view : (net : Net) (back : ℕ → ℕ) (t : Tokens) (s : State) (w word : ℕ) (k : Token) (rest : List Token) → TokenView net t s → t.wire w ≡ k ∷ rest →
    TokenView net (arrive back (set_wire t w rest) w word k) s
arrive_view net back t s w word Fct rest view e =
    let i = view.ways w in
    view_credit net (set_receiver (set_wire t w rest) w (record (t.receiver w) { word = word })) s (back w) ((t.sender (back w)).credit + 8)
    (view_came net t s w rest (record (t.receiver w) { word = word }) view
    (record { passed = i.passed; same_queue = i.same_queue; line = line_after net t s w (Fct ∷ rest) view e; inside = i.inside }))
arrive_view net back t s w word (Byte b) rest view e =
    let i = view.ways w in
    view_came net t s w rest (record (t.receiver w) { buffer = (t.receiver w).buffer ++ Byte b ∷ []; promised = (t.receiver w).promised - 1; word = word }) view
    (record {
      passed = i.passed;
      same_queue = i.same_queue;
      line = data_came i.passed (t.receiver w).buffer (Byte b) (without_fcts rest) ∙ line_after net t s w (Byte b ∷ rest) view e;
      inside = i.inside;
    })
arrive_view net back t s w word (EndMark m) rest view e =
    let i = view.ways w in
    view_came net t s w rest (record (t.receiver w) { buffer = (t.receiver w).buffer ++ EndMark m ∷ []; promised = (t.receiver w).promised - 1; word = word }) view
    (record {
      passed = i.passed;
      same_queue = i.same_queue;
      line = data_came i.passed (t.receiver w).buffer (EndMark m) (without_fcts rest) ∙ line_after net t s w (EndMark m ∷ rest) view e;
      inside = i.inside;
    })

pub takes_view : (net : Net) (back : ℕ → ℕ) (t : Tokens) (s : State) (w word : ℕ) (u : Tokens) → TokenView net t s → Takes net back t w word u → TokenView net u s
takes_view net back t s w word u view h = subst (λ k. TokenView net k s) (sym h.after) (arrive_view net back t s w word h.token h.rest view h.front)

-- PutFct

pub wire_longer : (net : Net) (t : Tokens) (s : State) (w : ℕ) (k : Token) (view : TokenView net t s) →
    stream (view.ways w).passed (t.receiver w).buffer (t.wire w ++ k ∷ []) ≡ stream (view.ways w).passed (t.receiver w).buffer (t.wire w) ++ without_fcts (k ∷ [])
wire_longer net t s w k view =
    let bs = bytes (view.ways w).passed in
    let b = (t.receiver w).buffer in
    ap (λ x. bs ++ (b ++ x)) (without_fcts-append (t.wire w) (k ∷ []))
    ∙ ap (λ x. bs ++ x) (sym (append_assoc b (without_fcts (t.wire w)) (without_fcts (k ∷ []))))
    ∙ sym (append_assoc bs (b ++ without_fcts (t.wire w)) (without_fcts (k ∷ [])))

view_fct : (net : Net) (t : Tokens) (s : State) (w : ℕ) → TokenView net t s → TokenView net (set_wire t w (t.wire w ++ Fct ∷ [])) s
view_fct net t s w view =
    let i = view.ways w in
    view_at net t (set_wire t w (t.wire w ++ Fct ∷ [])) s s w _ _ _ _ _ view
    (kept w t.nodes.ways) (kept w t.sender) (changed w t.wire (t.wire w ++ Fct ∷ [])) (kept w t.receiver) (kept w s.ways) view.chans view.strays view.lost
    (record { passed = i.passed; same_queue = i.same_queue; line = wire_longer net t s w Fct view ∙ append-nil _ ∙ i.line; inside = i.inside })

pub grants_view : (net : Net) (back : ℕ → ℕ) (t : Tokens) (s : State) (w : ℕ) (u : Tokens) → TokenView net t s → Grants net back t w u → TokenView net u s
grants_view net back t s w u view h =
    let i = view.ways w in
    let r : Receiver = record (t.receiver w) { promised = (t.receiver w).promised + 8 } in
    subst (λ k. TokenView net k s) (sym h.after)
    (view_fct net (set_receiver t w r) s (back w)
    (view_kept net t s w r view (record { passed = i.passed; same_queue = i.same_queue; line = i.line; inside = i.inside })))

-- the steps of nodes

pub same_nodes : (net : Net) (t : Tokens) (s : State) → TokenView net t s → SameNodes t.nodes s
same_nodes net t s view = record { queues = λ w. (view.ways w).same_queue; chans = view.chans; strays = view.strays; lost = view.lost }

pub framed_view : (net : Net) (t : Tokens) (s n : State) (R : State → Type 0) → TokenView net t s → (f : Framed s n R) → TokenView net (record t { nodes = n }) f.after
framed_view net t s n R view f =
    record {
      ways = λ w. let i = view.ways w in record {
        passed = i.passed;
        same_queue = f.nodes.queues w;
        line = subst (λ k. Spells (stream i.passed (t.receiver w).buffer (t.wire w)) k (t.sender w).sent) (sym (f.ways.lines w)) i.line;
        inside = subst (λ k. Inside net (net.far w) (t.receiver w).got (t.receiver w).mark (t.receiver w).bound i.passed k) (sym (f.ways.inputs w)) i.inside;
      };
      chans = f.nodes.chans;
      strays = f.nodes.strays;
      lost = f.nodes.lost;
    }

-- the packet whose mark is next in the buffer is the first of the way
pub front_packet : (net : Net) (t : Tokens) (s : State) (w : ℕ) (m : Mark) (rest : List Token) (view : TokenView net t s) → (t.receiver w).buffer ≡ EndMark m ∷ rest →
    FirstPacket (view.ways w).passed m (rest ++ without_fcts (t.wire w)) (s.ways w).line (t.sender w).sent
front_packet net t s w m rest view e =
    let i = view.ways w in
    first_packet i.passed m (rest ++ without_fcts (t.wire w)) (s.ways w).line (t.sender w).sent
    (subst (λ k. Spells (stream i.passed k (t.wire w)) (s.ways w).line (t.sender w).sent) e i.line)
