-- A step of a node's carrier is a step of the ways' machine.
use Rattle.vc_packets.specs.Counters.{one_more}
use Rattle.std.proofs.Common.{◌≡◌, ℕ, suc, ◌<◌, ◌⊎◌, inl, inr, Bool, true, false, List, [], ◌∷◌, ◌++◌, Option, Some, None, refl, sym, ap, subst, ◌∙◌, arith}
use Rattle.vc_packets.specs.declared.packet.Packet.{Packet}
use Rattle.vc_packets.specs.Headers.{spelled}
use Rattle.vc_packets.specs.Spellings.{piece_packet, ack_packet}
use Rattle.vc_machine.specs.Paths.{AtNode, Carries}
use Rattle.vc_machine.specs.Rendezvous.{Comm, Out, In, Fin, Stp}
use Rattle.vc_machine.specs.Machine as net
use Rattle.vc_machine.specs.Machine.{State, ChanState, set_chan, view_of, Step, Event}
use Rattle.vc_packets.specs.Functions.{put}
use Rattle.vc_machine.proofs.Basics.{put-same, every_put}
use Rattle.vc_vcp.specs.Carrier.{Carrier, OutHalf, InHalf, set_out, set_in, enqueue, End as NodeEnd}
use Rattle.vc_vcp.specs.Steps as node
use Rattle.vc_network.specs.Plan.{Plan, home, ends, ways, near, way_from, net_of, IsAccepted}
use Rattle.vc_network.specs.Processes.{input_of}
use Rattle.vc_network.specs.Views.{source_node, sink_node, queue_at}
use Rattle.vc_network.proofs.Wiring.{OutputsHere, InputsHere, outputs_here, inputs_here, outputs_there, inputs_there, node_end}
use Rattle.vc_network.specs.Packets.{of_halves}
use Rattle.vc_network.proofs.Seen.{Sees, put_twice, out_seen, in_seen, queue_seen, same_queues, keep}
use Rattle.vc_network.proofs.ChannelSteps.{Says, silent, one}

pub record Lifted (plan : Plan) (car : ℕ → Carrier) (sw : ℕ → ℕ) (t : State) (e : Event) (ks : List (ℕ × Comm)) : Type 0 where
  pub new : State
  pub step : Step (net_of plan) t e new
  pub sees : Sees plan car sw new
  pub says : Says (net_of plan) t new ks

abbrev out_of : ChanState → OutHalf
out_of x = record { unacked = x.unacked; offered = x.offered; finished = x.finished }

abbrev in_of : ChanState → InHalf
in_of x = record { wants = x.wants; stopped = x.stopped; held = x.held; stored = x.stored; taken = x.taken }

out_is : (plan : Plan) (car : ℕ → Carrier) (sw : ℕ → ℕ) (t : State) (n c : ℕ) → Sees plan car sw t → source_node plan (home plan c) ≡ n → out_of (t.chans c) ≡ (car n).out c
out_is plan car sw t n c s e = ap out_of (s.chan c) ∙ ap (λ m. (car m).out c) e

in_is : (plan : Plan) (car : ℕ → Carrier) (sw : ℕ → ℕ) (t : State) (n c : ℕ) → Sees plan car sw t → sink_node plan (home plan c) ≡ n → in_of (t.chans c) ≡ (car n).into c
in_is plan car sw t n c s e = ap in_of (s.chan c) ∙ ap (λ m. (car m).into c) e

-- a packet is queued
enqueued : (plan : Plan) (car : ℕ → Carrier) (sw : ℕ → ℕ) (t : State) (n link w : ℕ) (a : Carrier) (p : Packet) →
    IsAccepted plan → w < ways plan → near plan w ≡ AtNode n link → Sees plan (put car n a) sw t → Sees plan (put car n (enqueue a link p)) sw (net.enqueue t w p)
enqueued plan car sw t n link w a p acc real at s =
    let e : put car n a n ≡ a = put-same car n a in
    let q : (t.ways w).queue ++ p ∷ [] ≡ a.queue link ++ p ∷ [] = ap (λ k. k ++ p ∷ []) (s.queue w real ∙ ap (λ z. queue_at (put car n a) z) at ∙ ap (λ k. k.queue link) e) in
    let x = (t.ways w).queue ++ p ∷ [] in
    subst (λ k. Sees plan k sw (net.enqueue t w p))
    (put_twice car n a (record (put car n a n) { queue = put (put car n a n).queue link x }) ∙ (λ i. put car n (record (e i) { queue = put (e i).queue link (q i) })))
    (queue_seen plan (put car n a) sw t n link w x acc real at s)

pub offers : (plan : Plan) (car : ℕ → Carrier) (sw : ℕ → ℕ) (t : State) (n c : ℕ) (m : List ℕ) (b : Carrier) →
    IsAccepted plan → Sees plan car sw t → node.Offers (ends plan n) (car n) c m b → Lifted plan (put car n b) sw t (net.Offer c m) ((c, Out m) ∷ [])
offers plan car sw t n c m b acc s h =
    let o = outputs_here plan n c h.end acc h.here in
    let e = o.plan_end in
    let cs = h.now ∷ h.later in
    let w = way_from plan (AtNode e.node e.link) in
    let f : OutHalf → OutHalf = λ x. record x { unacked = cs; offered = x.offered ++ m ∷ [] } in
    let F : ChanState → ChanState = λ x. record x { unacked = cs; offered = x.offered ++ m ∷ [] } in
    let t1 = set_chan t c (F (t.chans c)) in
    let a = set_out (car n) c (f ((car n).out c)) in
    let u = net.enqueue t1 w (piece_packet e.route cs) in
    record {
      new = u;
      step = record {
        now = h.now;
        later = h.later;
        real = o.carries;
        idle = ap (λ x. x.unacked) (out_is plan car sw t n c s o.source) ∙ h.idle;
        pieces = h.pieces;
        after = ap (λ z. net.enqueue t1 z.way (piece_packet z.route cs)) (sym o.from);
      };
      sees = subst (λ z. Sees plan (put car n z) sw u) (sym (h.after ∙ ap (λ z. enqueue a z.link (piece_packet z.route cs)) o.end_is))
          (enqueued plan car sw t1 n e.link w a (piece_packet e.route cs) acc o.wired.0 (o.wired.1 ∙ ap (λ z. AtNode z e.link) o.node)
          (out_seen plan car sw t n c f F (λ x y. refl) o.source s));
      says = one c (Out m) (F (t.chans c)) refl o.carries (ap (λ x. x.unacked) (out_is plan car sw t n c s o.source) ∙ h.idle) refl refl;
    }

-- the in half stores a piece
store_fits : (load : List ℕ) (last : Bool) (x : OutHalf) (y : InHalf) → net.store (of_halves x y) load last ≡ of_halves x (node.store y load last)
store_fits load true x y = refl
store_fits load false x y = refl

accepted : (plan : Plan) (car : ℕ → Carrier) (sw : ℕ → ℕ) (t : State) (n c : ℕ) (end : NodeEnd) (load : List ℕ) (last : Bool) →
    IsAccepted plan → Sees plan car sw t → InputsHere plan n c end →
    Sees plan (put car n (node.accept (car n) c end load last)) sw (net.accept (net_of plan) t c load last)
accepted plan car sw t n c end load last acc s o =
    let e = o.plan_end in
    let w = way_from plan (AtNode e.node e.link) in
    let a = set_in (car n) c (node.store ((car n).into c) load last) in
    let t1 = set_chan t c (net.store (t.chans c) load last) in
    subst (λ z. Sees plan (put car n z) sw (net.accept (net_of plan) t c load last)) (sym (ap (λ z. enqueue a z.link (ack_packet z.route)) o.end_is))
    (subst (Sees plan (put car n (enqueue a e.link (ack_packet e.route))) sw) (ap (λ z. net.enqueue t1 z.way (ack_packet z.route)) (sym o.to))
    (enqueued plan car sw t1 n e.link w a (ack_packet e.route) acc o.wired.0 (o.wired.1 ∙ ap (λ z. AtNode z e.link) o.node)
    (in_seen plan car sw t n c (λ x. node.store x load last) (λ x. net.store x load last) (store_fits load last) o.sink s)))

accept_says : (plan : Plan) (t u : State) (c : ℕ) (load : List ℕ) (last : Bool) (x : InHalf) → Carries (net_of plan) c → in_of (t.chans c) ≡ x →
    ((t.chans c).wants ≡ true) ⊎ ((t.chans c).stopped ≡ false) → u.chans ≡ put t.chans c (net.store (t.chans c) load last) →
    Says (net_of plan) t u (input_of c (node.message x load last))
accept_says plan t u c load true x r e may chans = one c (In ((t.chans c).stored ++ load)) (net.store (t.chans c) load true) (ap (λ k. (c, In (k.stored ++ load)) ∷ []) (sym e)) r may chans refl
accept_says plan t u c load false x r e may chans =
    silent refl (λ d. ap (λ f. view_of (f d)) chans ∙ every_put (λ j y. view_of y ≡ view_of (t.chans j)) t.chans c (net.store (t.chans c) load false) refl (λ j ne. refl) d)

-- a piece for an end here is one for the channel's far end
pub piece_is : (plan : Plan) (n c : ℕ) (end : NodeEnd) (p : Packet) (load : List ℕ) (last : Bool) → (o : InputsHere plan n c end) → node.IsPieceFor end p load last → net.IsPieceFor (net_of plan) n p c load last
piece_is plan n c end p load last o h = record {
  real = o.carries;
  node = ap (λ z. z.node) o.to ∙ o.node;
  body = h.body ∙ ap (λ z. spelled (z.block ∷ []) ++ load) o.end_is ∙ sym (ap (λ z. spelled (z.block ∷ []) ++ load) o.to);
  kind = h.kind;
}

pub ack_is : (plan : Plan) (n c : ℕ) (end : NodeEnd) (p : Packet) → (o : OutputsHere plan n c end) → node.IsAckFor end p → net.IsAckFor (net_of plan) n p c
ack_is plan n c end p o h = record {
  real = o.carries;
  node = ap (λ z. z.node) o.from ∙ o.node;
  body = h.body ∙ ap (λ z. spelled (z.block ∷ [])) o.end_is ∙ sym (ap (λ z. spelled (z.block ∷ [])) o.from);
  kind = h.kind;
}

is_open : (plan : Plan) (car : ℕ → Carrier) (sw : ℕ → ℕ) (t : State) (n c : ℕ) (end : NodeEnd) → Sees plan car sw t →
    (o : InputsHere plan n c end) → node.IsOpen (ends plan n) (car n) c end → net.IsOpen (net_of plan) t c
is_open plan car sw t n c end s o h = record {
  real = o.carries;
  idle = ap (λ x. x.wants) (in_is plan car sw t n c s o.sink) ∙ h.idle;
  not_stopped = ap (λ x. x.stopped) (in_is plan car sw t n c s o.sink) ∙ h.not_stopped;
}

net_fetches : (plan : Plan) (car : ℕ → Carrier) (sw : ℕ → ℕ) (t : State) (n c : ℕ) (end : NodeEnd) (answer : Option (List ℕ)) (b : Carrier) → Sees plan car sw t →
    (o : InputsHere plan n c end) → (h : node.Fetches (car n) c end answer b) → net.Fetches (net_of plan) t c (net.accept (net_of plan) t c h.load h.last)
net_fetches plan car sw t n c end answer b s o h = record {
  packet = h.packet;
  load = h.load;
  last = h.last;
  held = ap (λ x. x.held) (in_is plan car sw t n c s o.sink) ∙ h.held;
  piece = piece_is plan ((net_of plan).chan c).to.node c end h.packet h.load h.last (at_home o) h.piece;
  after = refl;
}
  where
    at_home : InputsHere plan n c end → InputsHere plan ((net_of plan).chan c).to.node c end
    at_home o =
        let e : n ≡ ((net_of plan).chan c).to.node = sym (ap (λ z. z.node) o.to ∙ o.node) in
        record { plan_end = o.plan_end; carries = o.carries; to = o.to; sink = o.sink ∙ e; node = o.node ∙ e; end_is = o.end_is; wired = o.wired }

fetch_sees : (plan : Plan) (car : ℕ → Carrier) (sw : ℕ → ℕ) (t : State) (n c : ℕ) (end : NodeEnd) (answer : Option (List ℕ)) (b : Carrier) → IsAccepted plan → Sees plan car sw t →
    (o : InputsHere plan n c end) → (h : node.Fetches (car n) c end answer b) → Sees plan (put car n b) sw (net.accept (net_of plan) t c h.load h.last)
fetch_sees plan car sw t n c end answer b acc s o h =
    subst (λ z. Sees plan (put car n z) sw (net.accept (net_of plan) t c h.load h.last)) (sym h.after) (accepted plan car sw t n c end h.load h.last acc s o)

fetch_says : (plan : Plan) (car : ℕ → Carrier) (sw : ℕ → ℕ) (t : State) (n c : ℕ) (end : NodeEnd) (answer : Option (List ℕ)) (b : Carrier) → Sees plan car sw t →
    (o : InputsHere plan n c end) → node.IsOpen (ends plan n) (car n) c end → (h : node.Fetches (car n) c end answer b) → Says (net_of plan) t (net.accept (net_of plan) t c h.load h.last) (input_of c answer)
fetch_says plan car sw t n c end answer b s o able h =
    let u = net.accept (net_of plan) t c h.load h.last in
    subst (λ z. Says (net_of plan) t u (input_of c z)) (sym h.answer_is)
    (accept_says plan t u c h.load h.last ((car n).into c) o.carries (in_is plan car sw t n c s o.sink) (inr (is_open plan car sw t n c end s o able).not_stopped) refl)

pub chooses : (plan : Plan) (car : ℕ → Carrier) (sw : ℕ → ℕ) (t : State) (n c : ℕ) (end : NodeEnd) (answer : Option (List ℕ)) (b : Carrier) →
    IsAccepted plan → Sees plan car sw t → node.IsOpen (ends plan n) (car n) c end → node.Fetches (car n) c end answer b → Lifted plan (put car n b) sw t (net.Choose c) (input_of c answer)
chooses plan car sw t n c end answer b acc s able h =
    let o = inputs_here plan n c end acc able.here in
    record {
      new = net.accept (net_of plan) t c h.load h.last;
      step = (is_open plan car sw t n c end s o able, net_fetches plan car sw t n c end answer b s o h);
      sees = fetch_sees plan car sw t n c end answer b acc s o h;
      says = fetch_says plan car sw t n c end answer b s o able h;
    }

-- the channel's state changes, and shows the same
quiet : (plan : Plan) (t u : State) (c : ℕ) (x : ChanState) (ks : List (ℕ × Comm)) → ks ≡ [] → u.chans ≡ put t.chans c x → view_of x ≡ view_of (t.chans c) → Says (net_of plan) t u ks
quiet plan t u c x ks e chans same = silent e (λ d. ap (λ f. view_of (f d)) chans ∙ every_put (λ j y. view_of y ≡ view_of (t.chans j)) t.chans c x same (λ j ne. refl) d)

pub wants : (plan : Plan) (car : ℕ → Carrier) (sw : ℕ → ℕ) (t : State) (n c : ℕ) (end : NodeEnd) (answer : Option (List ℕ)) (b : Carrier) →
    IsAccepted plan → Sees plan car sw t → node.IsOpen (ends plan n) (car n) c end → node.Wants (car n) c end answer b → Lifted plan (put car n b) sw t (net.Want c) (input_of c answer)
wants plan car sw t n c end answer b acc s able (node.fetches h) =
    let o = inputs_here plan n c end acc able.here in
    record {
      new = net.accept (net_of plan) t c h.load h.last;
      step = (is_open plan car sw t n c end s o able, net.fetches (net_fetches plan car sw t n c end answer b s o h));
      sees = fetch_sees plan car sw t n c end answer b acc s o h;
      says = fetch_says plan car sw t n c end answer b s o able h;
    }
wants plan car sw t n c end answer b acc s able (node.waits held none after) =
    let o = inputs_here plan n c end acc able.here in
    let F : ChanState → ChanState = λ x. record x { wants = true } in
    let u = set_chan t c (F (t.chans c)) in
    record {
      new = u;
      step = (is_open plan car sw t n c end s o able, net.waits (ap (λ x. x.held) (in_is plan car sw t n c s o.sink) ∙ held) refl);
      sees = subst (λ z. Sees plan (put car n z) sw u) (sym after) (in_seen plan car sw t n c (λ x. record x { wants = true }) F (λ x y. refl) o.sink s);
      says = quiet plan t u c (F (t.chans c)) (input_of c answer) (ap (input_of c) none) refl refl;
    }

pub stops : (plan : Plan) (car : ℕ → Carrier) (sw : ℕ → ℕ) (t : State) (n c : ℕ) (b : Carrier) →
    IsAccepted plan → Sees plan car sw t → node.Stops (ends plan n) (car n) c b → Lifted plan (put car n b) sw t (net.Stop c) ((c, Stp) ∷ [])
stops plan car sw t n c b acc s h =
    let o = inputs_here plan n c h.end acc h.here in
    let F : ChanState → ChanState = λ x. record x { stopped = true } in
    let u = set_chan t c (F (t.chans c)) in
    record {
      new = u;
      step = record { real = o.carries; idle = ap (λ x. x.wants) (in_is plan car sw t n c s o.sink) ∙ h.idle; after = refl };
      sees = subst (λ z. Sees plan (put car n z) sw u) (sym h.after) (in_seen plan car sw t n c (λ x. record x { stopped = true }) F (λ x y. refl) o.sink s);
      says = one c Stp (F (t.chans c)) refl o.carries tt refl refl;
    }

-- what becomes of a packet at its node says this
abbrev pub said_by_taken : node.Taken → List (ℕ × Comm)
said_by_taken (node.Complete c m) = (c, In m) ∷ []
said_by_taken (node.Finished c) = (c, Fin) ∷ []
said_by_taken x = []

taken_said : (c : ℕ) (answer : Option (List ℕ)) → said_by_taken (node.taken_by c answer) ≡ input_of c answer
taken_said c (Some m) = refl
taken_said c None = refl

-- a packet that a half takes
pub record Reached (plan : Plan) (car : ℕ → Carrier) (sw : ℕ → ℕ) (t : State) (n : ℕ) (p : Packet) (ks : List (ℕ × Comm)) : Type 0 where
  pub new : State
  pub reaches : net.Reaches (net_of plan) t n p new
  pub sees : Sees plan car sw new
  pub says : Says (net_of plan) t new ks

advanced : (plan : Plan) (car : ℕ → Carrier) (sw : ℕ → ℕ) (t : State) (n c : ℕ) (end : NodeEnd) (later : List (List ℕ)) →
    IsAccepted plan → Sees plan car sw t → OutputsHere plan n c end → Sees plan (put car n (node.advance (car n) c end later)) sw (net.advance (net_of plan) t c later)
advanced plan car sw t n c end [] acc s o =
    out_seen plan car sw t n c (λ x. record x { unacked = []; finished = suc x.finished }) (λ x. record x { unacked = []; finished = suc x.finished }) (λ x y. refl) o.source s
advanced plan car sw t n c end (d ∷ later) acc s o =
    let e = o.plan_end in
    let cs = d ∷ later in
    let w = way_from plan (AtNode e.node e.link) in
    let a = set_out (car n) c (record ((car n).out c) { unacked = cs }) in
    let t1 = set_chan t c (record (t.chans c) { unacked = cs }) in
    subst (λ z. Sees plan (put car n z) sw (net.advance (net_of plan) t c cs)) (sym (ap (λ z. enqueue a z.link (piece_packet z.route cs)) o.end_is))
    (subst (Sees plan (put car n (enqueue a e.link (piece_packet e.route cs))) sw) (ap (λ z. net.enqueue t1 z.way (piece_packet z.route cs)) (sym o.from))
    (enqueued plan car sw t1 n e.link w a (piece_packet e.route cs) acc o.wired.0 (o.wired.1 ∙ ap (λ z. AtNode z e.link) o.node)
    (out_seen plan car sw t n c (λ x. record x { unacked = cs }) (λ x. record x { unacked = cs }) (λ x y. refl) o.source s)))

advance_says : (plan : Plan) (t : State) (c : ℕ) (later : List (List ℕ)) → Carries (net_of plan) c → Says (net_of plan) t (net.advance (net_of plan) t c later) (said_by_taken (node.acked_by c later))
advance_says plan t c [] r = one c Fin (record (t.chans c) { unacked = []; finished = suc (t.chans c).finished }) refl r tt refl refl
advance_says plan t c (d ∷ later) r = quiet plan t (net.advance (net_of plan) t c (d ∷ later)) c (record (t.chans c) { unacked = d ∷ later }) [] refl refl refl

taken_reaches : (plan : Plan) (car : ℕ → Carrier) (sw : ℕ → ℕ) (t : State) (n : ℕ) (p : Packet) (taken : node.Taken) (b : Carrier) →
    IsAccepted plan → Sees plan car sw t → node.IsTaken (ends plan n) (car n) p taken b → Reached plan (put car n b) sw t n p (said_by_taken taken)
taken_reaches plan car sw t n p taken b acc s (node.stores c end load last here piece wants answer after) =
    let o = inputs_here plan n c end acc here in
    let u = net.accept (net_of plan) t c load last in
    let i = in_is plan car sw t n c s o.sink in
    record {
      new = u;
      reaches = net.taken (net.stores c load last (piece_is plan n c end p load last o piece) (ap (λ x. x.wants) i ∙ wants) refl);
      sees = subst (λ z. Sees plan (put car n z) sw u) (sym after) (accepted plan car sw t n c end load last acc s o);
      says = subst (Says (net_of plan) t u) (sym (ap said_by_taken answer ∙ taken_said c (node.message ((car n).into c) load last)))
          (accept_says plan t u c load last ((car n).into c) o.carries i (inl (ap (λ x. x.wants) i ∙ wants)) refl);
    }
taken_reaches plan car sw t n p taken b acc s (node.holds c end load last here piece wants held answer after) =
    let o = inputs_here plan n c end acc here in
    let i = in_is plan car sw t n c s o.sink in
    let F : ChanState → ChanState = λ x. record x { held = Some p } in
    let u = set_chan t c (F (t.chans c)) in
    record {
      new = u;
      reaches = net.taken (net.holds c load last (piece_is plan n c end p load last o piece) (ap (λ x. x.wants) i ∙ wants) (ap (λ x. x.held) i ∙ held) refl);
      sees = subst (λ z. Sees plan (put car n z) sw u) (sym after) (in_seen plan car sw t n c (λ x. record x { held = Some p }) F (λ x y. refl) o.sink s);
      says = quiet plan t u c (F (t.chans c)) (said_by_taken taken) (ap said_by_taken answer) refl refl;
    }
taken_reaches plan car sw t n p taken b acc s (node.advances c end now later here ack unacked answer after) =
    let o = outputs_here plan n c end acc here in
    let u = net.advance (net_of plan) t c later in
    record {
      new = u;
      reaches = net.taken (net.advances c now later (ack_is plan n c end p o ack) (ap (λ x. x.unacked) (out_is plan car sw t n c s o.source) ∙ unacked) refl);
      sees = subst (λ z. Sees plan (put car n z) sw u) (sym after) (advanced plan car sw t n c end later acc s o);
      says = subst (Says (net_of plan) t u) (sym (ap said_by_taken answer)) (advance_says plan t c later o.carries);
    }

-- what a half of the ways' machine may take, a half here may take
pub taken_back : (plan : Plan) (car : ℕ → Carrier) (sw : ℕ → ℕ) (t : State) (n : ℕ) (p : Packet) (u : State) →
    IsAccepted plan → Sees plan car sw t → net.IsTaken (net_of plan) t n p u → (taken : node.Taken) × (b : Carrier) × node.IsTaken (ends plan n) (car n) p taken b
taken_back plan car sw t n p u acc s (net.stores c load last piece wants after) =
    let o = inputs_there plan n c piece.real piece.node in
    let end = node_end o.0 in
    let i = in_is plan car sw t n c s (inputs_here plan n c end acc o.2).sink in (
      node.taken_by c (node.message ((car n).into c) load last),
      node.accept (car n) c end load last,
      node.stores c end load last o.2 (record { body = piece.body ∙ ap (λ z. spelled (z.block ∷ []) ++ load) o.1; kind = piece.kind }) (ap (λ x. x.wants) (sym i) ∙ wants) refl refl,
    )
taken_back plan car sw t n p u acc s (net.holds c load last piece wants held after) =
    let o = inputs_there plan n c piece.real piece.node in
    let end = node_end o.0 in
    let i = in_is plan car sw t n c s (inputs_here plan n c end acc o.2).sink in (
      node.Held c,
      set_in (car n) c (record ((car n).into c) { held = Some p }),
      node.holds c end load last o.2 (record { body = piece.body ∙ ap (λ z. spelled (z.block ∷ []) ++ load) o.1; kind = piece.kind }) (ap (λ x. x.wants) (sym i) ∙ wants) (ap (λ x. x.held) (sym i) ∙ held) refl refl,
    )
taken_back plan car sw t n p u acc s (net.advances c now later ack unacked after) =
    let o = outputs_there plan n c ack.real ack.node in
    let end = node_end o.0 in
    let i = out_is plan car sw t n c s (outputs_here plan n c end acc o.2).source in (
      node.acked_by c later,
      node.advance (car n) c end later,
      node.advances c end now later o.2 (record { body = ack.body ∙ ap (λ z. spelled (z.block ∷ [])) o.1; kind = ack.kind }) (ap (λ x. x.unacked) (sym i) ∙ unacked) refl refl,
    )

stray_sees : (plan : Plan) (car : ℕ → Carrier) (sw : ℕ → ℕ) (t : State) (n : ℕ) → Sees plan car sw t →
    Sees plan (put car n (record (car n) { strays = one_more (car n).strays })) sw (record t { strays = suc t.strays })
stray_sees plan car sw t n s =
    let b = record (car n) { strays = one_more (car n).strays } in
    record {
      queue = λ w r. s.queue w r ∙ sym (same_queues car n b refl (near plan w));
      chan = λ c. s.chan c ∙ sym (λ i. of_halves (keep (λ a. a.out c) car n b refl (source_node plan (home plan c)) i) (keep (λ a. a.into c) car n b refl (sink_node plan (home plan c)) i));
      strays = λ e. absurd (let k : suc t.strays ≡ 0 = e in omega arith);
      lost = s.lost;
    }

pub reached : (plan : Plan) (car : ℕ → Carrier) (sw : ℕ → ℕ) (t : State) (n : ℕ) (p : Packet) (taken : node.Taken) (b : Carrier) →
    IsAccepted plan → Sees plan car sw t → node.Arrives (ends plan n) (car n) p taken b → Reached plan (put car n b) sw t n p (said_by_taken taken)
reached plan car sw t n p taken b acc s (node.takes h) = taken_reaches plan car sw t n p taken b acc s h
reached plan car sw t n p taken b acc s (node.stray nobody e after) =
    record {
      new = record t { strays = suc t.strays };
      reaches = net.stray (λ u h. (let k = taken_back plan car sw t n p u acc s h in nobody k.0 k.1 k.2)) refl;
      sees = subst (λ z. Sees plan (put car n z) sw (record t { strays = suc t.strays })) (sym after) (stray_sees plan car sw t n s);
      says = silent (ap said_by_taken e) (λ d. refl);
    }
