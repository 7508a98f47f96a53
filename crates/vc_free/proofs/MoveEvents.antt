-- Moves of processes as events of the network, and the deliveries between them.
use Rattle.std.proofs.Common.{◌≡◌, ◌≢◌, ℕ, suc, ◌<◌, Bool, true, false, not, List, [], ◌∷◌, ◌++◌, length, Option, Some, None, inl, inr, refl, sym, ap, subst, ◌∙◌, arith, append-nil, length-append, if◌then◌else◌, eq-eqb}
use Rattle.std.specs.List.{Contains}
use Rattle.vc_accepted.specs.Begin.{begin_of}
use Rattle.vc_accepted.specs.Determinate.{IsLawful}
use Rattle.vc_accepted.specs.NetworkOf.{network_of}
use Rattle.vc_accepted.specs.Process.{Process, does, Goes}
use Rattle.vc_free.proofs.Exchange.{calm, Exchanging, exchanged}
use Rattle.vc_free.proofs.Main.{delivers}
use Rattle.vc_free.proofs.Orders.{order_longer}
use Rattle.vc_free.proofs.Outcomes.{SameOut, SameIn}
use Rattle.vc_free.proofs.Places.{Arrived, happened}
use Rattle.vc_free.proofs.Runs.{RestsAt, OffersAt, TakesAt, StopsAt, EndsAt, want_waits, choose_waits}
use Rattle.vc_free.proofs.Stages.{State, got_more, finished_more, IsAt, process_changes, out_changes, in_changes, inner_changes}
use Rattle.vc_free.specs.Delivery.{in_half, HasDelivered, Delivers}
use Rattle.vc_free.specs.Together.{KeepsOrder}
use Rattle.vc_machine.proofs.Basics.{put-same, put-other}
use Rattle.vc_machine.proofs.Halves.{last_of, waiting_when_held}
use Rattle.vc_machine.proofs.Labels.{Phase, Calm, Coming, Waiting as WaitingPhase, Returning, PhaseFits, LeftAfter}
use Rattle.vc_machine.proofs.NodeSteps.{piece_for}
use Rattle.vc_machine.specs.Machine.{ChanState}
use Rattle.vc_machine.specs.Paths.{Channel}
use Rattle.vc_machine.specs.Rendezvous.{View}
use Rattle.vc_network.proofs.Steps.{view_seen}
use Rattle.vc_network.proofs.Wiring.{carried}
use Rattle.vc_network.proofs.Writes.{own_step}
use Rattle.vc_network.specs.Actors.{ActBy, Step}
use Rattle.vc_network.specs.Actors.Label.{Own}
use Rattle.vc_network.specs.Network.{Act, Proc, Node, IsNode, Local, Moves, Happens, HappenAll, begins}
use Rattle.vc_network.specs.Network as network_step
use Rattle.vc_network.specs.Plan as network
use Rattle.vc_network.specs.Plan.{Way, Inside, home, ends, end_of, end_here, virtual_link, input_end, output_end, net_of, net_channel}
use Rattle.vc_network.specs.Processes as moves
use Rattle.vc_network.specs.Views.{vcp_of, inner_of, vcps, source_node, sink_node, view_at}
use Rattle.vc_occam.proofs.SiteMoves.{quiet_own, stop_own, want_own, choose_own}
use Rattle.vc_occam.proofs.Meets.{lists_meeting, lists_other}
use Rattle.vc_occam.proofs.Offers.{offer_own}
use Rattle.vc_occam.specs.First.{own}
use Rattle.vc_occam.specs.Private.MoveSites.{partner}
use Rattle.vc_occam.specs.States as occam
use Rattle.vc_occam.specs.Traces.{Out, Fin, In, Stp}
use Rattle.vc_occam.specs.declared.moves.Move.TheVariants as move
use Rattle.vc_packets.proofs.PieceLists.{has_pieces}
use Rattle.vc_packets.specs.Functions.{put}
use Rattle.vc_packets.specs.Headers.{spelled}
use Rattle.vc_packets.specs.Pieces.{Pieces, joined}
use Rattle.vc_packets.specs.Spellings.{piece_packet}
use Rattle.vc_packets.specs.declared.packet.Packet.{Packet}
use Rattle.vc_placement.specs.Linearization.{Atomic}
use Rattle.vc_plan.specs.Accepted.{IsAccepted}
use Rattle.vc_plan.specs.Dependencies.{HasRanks}
use Rattle.vc_plan.specs.declared.plan.Plan.{Plan}
use Rattle.vc_process.specs.Messages.{message}
use Rattle.vc_process.specs.ProcessStep.{Wants, Chooses, Finishes, Receives}
use Rattle.vc_process.specs.ProcessStep as step
use Rattle.vc_process.specs.declared.datum.Datum.{Datum}
use Rattle.vc_switch.specs.Waiting.{Waiting}
use Rattle.vc_vcp.specs.Carrier.{End, OutHalf, InHalf, Carrier, set_in, set_out, enqueue}
use Rattle.vc_vcp.specs.Links.{Vcp}
use Rattle.vc_vcp.specs.Steps as node

abbrev pub offered_more : View → List ℕ → View
offered_more v m = record v { offered = v.offered ++ m ∷ [] }

abbrev pub stopped_view : View → View
stopped_view v = record v { stopped = true }

abbrev pub with_state : Process → occam.State → Process
with_state q t = record { inside = q.inside; state = t }

last_one : (xs : List (List ℕ)) (x y : List ℕ) → xs ++ x ∷ [] ≡ xs ++ y ∷ [] → x ≡ y
last_one [] x y e = cc
last_one (z ∷ zs) x y e = last_one zs x y (let h : zs ++ x ∷ [] ≡ zs ++ y ∷ [] = cc in h)

longer : (xs : List (List ℕ)) (x : List ℕ) → xs ≡ xs ++ x ∷ [] → ⊥
longer xs x e = let a = ap length e in let b = length-append xs (x ∷ []) in omega arith

-- where all is taken and finished no piece is under way
none_under_way : (ch : Channel) (f : Phase) (x : ChanState) (n : ℕ) → PhaseFits ch f x n → x.taken ≡ x.offered → x.finished ≡ length x.taken → x.unacked ≡ []
none_under_way ch Calm x n h s c = let k = h.2 in k.unacked
none_under_way ch Coming x n h s c = let g = h.2 in absurd (longer x.taken g.message (s ∙ g.offered))
none_under_way ch WaitingPhase x n h s c = let g = h.3 in absurd (longer x.taken g.message (s ∙ g.offered))
none_under_way ch Returning x n h s c = let g = h.2 in absurd (by_left g.later g.left)
  where
    by_left : (later : List (List ℕ)) → LeftAfter x later → ⊥
    by_left [] (a, b, d) = omega arith
    by_left (y ∷ ys) (m, a, b, d, e) = longer x.taken m (s ∙ d)

-- the ends of a channel at its two nodes
abbrev node_end : network.End → End
node_end e = record { link = e.link; block = e.block; route = e.route }

end_there : (e : network.End) → end_here e.node e ≡ Some (node_end e)
end_there e = ap (λ b. if b then Some (node_end e) else None) (eq-eqb e.node e.node refl)

-- a process inputs with this answer, by itself or by a guard
abbrev DoesTake : Process → ℕ → Option ℕ → ℕ → Option (List ℕ) → Process → Type 0
DoesTake old j None c answer new = does old (Wants j c answer) new
DoesTake old j (Some g) c answer new = does old (Chooses j g c answer) new

takes_now : (q : Process) (j : ℕ) (g : Option ℕ) (c : ℕ) (sent : List ℕ) (y : Datum) (t : occam.State) → q.inside c ≡ false → TakesAt q.state j g c sent y t → DoesTake q j g c (Some sent) (with_state q t)
takes_now q j None c sent y t out st = (lists_other q.inside q.state.rest q.state.store (move.Want j c) (ap not out) (want_own st), record { comms = In c y ∷ []; does = (y, refl, st); inside = refl })
takes_now q j (Some g) c sent y t out st = (lists_other q.inside q.state.rest q.state.store (move.Choose j g c) (ap not out) (choose_own st), record { comms = In c y ∷ []; does = (y, refl, st); inside = refl })

-- it begins to wait, and gets the message then
record WaitsNow (q : Process) (j : ℕ) (g : Option ℕ) (c : ℕ) (sent : List ℕ) (t : occam.State) : Type 0 where
  first : Process
  how : step.ProcessStep
  begins : DoesTake q j g c None first
  goes : Goes q how first
  gets : Goes first (Receives c sent) (with_state q t)

waits_now : (q : Process) (j : ℕ) (g : Option ℕ) (c : ℕ) (sent : List ℕ) (y : Datum) (t : occam.State) → q.inside c ≡ false → TakesAt q.state j g c sent y t → WaitsNow q j g c sent t
waits_now q j None c sent y t out st =
    let w = want_waits st in
    let first = with_state q (record { rest = w.middle; store = q.state.store }) in
    let goes : Goes q (Wants j c None) first = record { comms = []; does = (refl, w.begins); inside = refl } in
    record {
      first = first;
      how = Wants j c None;
      begins = (lists_other q.inside q.state.rest q.state.store (move.Want j c) (ap not out) (want_own st), goes);
      goes = goes;
      gets = record { comms = In c y ∷ []; does = (j, y, refl, w.gets); inside = refl };
    }
waits_now q j (Some g) c sent y t out st =
    let w = choose_waits st in
    let first = with_state q (record { rest = w.middle; store = q.state.store }) in
    let goes : Goes q (Chooses j g c None) first = record { comms = []; does = (refl, w.begins); inside = refl } in
    record {
      first = first;
      how = Chooses j g c None;
      begins = (lists_other q.inside q.state.rest q.state.store (move.Choose j g c) (ap not out) (choose_own st), goes);
      goes = goes;
      gets = record { comms = In c y ∷ []; does = (j, y, refl, w.gets); inside = refl };
    }

module _ (p : Plan) (waiting : Waiting) (acc : IsAccepted p) (ranks : HasRanks p) (done : List Atomic) where
  abbrev N : network.Plan
  N = network_of p

  output_there : (c v : ℕ) (ab : Bool) → home N c ≡ Way v ab → (ends N (source_node N (Way v ab))).output c ≡ Some (node_end (end_of (virtual_link N v) ab))
  output_there c v ab h = ap (output_end N (source_node N (Way v ab))) h ∙ end_there (end_of (virtual_link N v) ab)

  input_there : (c v : ℕ) (ab : Bool) → home N c ≡ Way v ab → (ends N (sink_node N (Way v ab))).input c ≡ Some (node_end (end_of (virtual_link N v) (not ab)))
  input_there c v ab h = ap (input_end N (sink_node N (Way v ab))) h ∙ end_there (end_of (virtual_link N v) (not ab))

  -- a state to which events have led that do this list in its order, and perhaps more
  pub record Made (procs : ℕ → Process) (views : ℕ → View) (wants : ℕ → Bool) : Type 0 where
    pub state : State
    pub past : List (ActBy Act)
    pub happen : HappenAll N waiting does (begins N (begin_of p)) past state
    pub order : KeepsOrder p waiting done past
    pub arrived : Arrived p waiting state
    pub at : IsAt p state procs views wants

  one_more_event : (es : List (ActBy Act)) (old s u : State) (e : ActBy Act) → HappenAll N waiting does old es s → Happens N waiting does s e u → HappenAll N waiting does old (es ++ e ∷ []) u
  one_more_event [] old s u e h k =
      let same : s ≡ old = λ i. record { state = λ n. h.states n i; way = λ w. h.ways w i } in
      (u, subst (λ z. Happens N waiting does z e u) same k, record { states = λ n. refl; ways = λ w. refl })
  one_more_event (f ∷ es) old s u e h k = (h.0, h.1, one_more_event es h.0 s u e h.2 k)

  more_events : (es fs : List (ActBy Act)) (old s u : State) → HappenAll N waiting does old es s → HappenAll N waiting does s fs u → HappenAll N waiting does old (es ++ fs) u
  more_events [] fs old s u h k =
      let same : s ≡ old = λ i. record { state = λ n. h.states n i; way = λ w. h.ways w i } in
      subst (λ z. HappenAll N waiting does z fs u) same k
  more_events (f ∷ es) fs old s u h k = (h.0, h.1, more_events es fs h.0 s u h.2 k)

  -- ---- a move of the process of node n

  -- ---- the network delivers

  abbrev pub AreEven : (ℕ → View) → Type 0
  AreEven views = (d v : ℕ) (ab : Bool) → home N d ≡ Way v ab → (views d).finished ≡ length (views d).taken

  abbrev later_made : (made_at : State) (past : List (ActBy Act)) → HappenAll N waiting does (begins N (begin_of p)) past made_at → KeepsOrder p waiting done past → (d : Delivers p waiting made_at) (procs : ℕ → Process) (views : ℕ → View) (wants : ℕ → Bool) →
      Arrived p waiting d.end × IsAt p d.end procs views wants → Made procs views wants
  later_made s past h order d procs views wants r = record { state = d.end; past = past ++ d.events; happen = more_events past d.events (begins N (begin_of p)) s d.end h d.happen; order = order_longer p waiting done past d.events order; arrived = r.0; at = r.1 }

  abbrev its_delivery : {procs : ℕ → Process} {views : ℕ → View} {wants : ℕ → Bool} (m : Made procs views wants) → Delivers p waiting m.state
  its_delivery m = delivers p waiting m.past m.state acc ranks m.happen

  -- where no process inputs, nothing of the processes changes
  pub calmed : {procs : ℕ → Process} {views : ℕ → View} {wants : ℕ → Bool} → Made procs views wants → AreEven views → ((d : ℕ) → wants d ≡ false) → (m : Made procs views wants) × HasDelivered p waiting m.state
  calmed {procs} {views} {wants} m even idle =
      let d = its_delivery m in
      (later_made m.state m.past m.happen m.order d procs views wants (calm p waiting acc d.events m.state d.end procs views wants m.arrived m.at even idle d.no_moves d.happen), d.delivered)

  -- an exchange goes through
  pub went_through : {procs0 : ℕ → Process} {views0 : ℕ → View} {wants0 : ℕ → Bool} (m : Made procs0 views0 wants0) (procs : ℕ → Process) (views : ℕ → View) (wants : ℕ → Bool) (c v : ℕ) (ab : Bool) (h : home N c ≡ Way v ab) (sent : List ℕ)
      (after_out after_in : Process) → Exchanging p waiting acc procs views wants c v ab h sent after_out after_in m.state → source_node N (Way v ab) ≢ sink_node N (Way v ab) →
      Goes (procs (source_node N (Way v ab))) (Finishes c) after_out → IsLawful (procs (source_node N (Way v ab))) → ((d : ℕ) → (d ≡ c → ⊥) → wants d ≡ false) → AreEven views → (views c).offered ≡ (views c).taken ++ sent ∷ [] → c < length p.channels →
      Made (put (put procs (sink_node N (Way v ab)) after_in) (source_node N (Way v ab)) after_out)
      (put (put views c (got_more (views c) sent)) c (finished_more (put views c (got_more (views c) sent) c))) (put wants c false)
  went_through m procs views wants c v ab h sent after_out after_in x apart goes lawful others even offers less =
      let d = its_delivery m in
      later_made m.state m.past m.happen m.order d _ _ _
      (exchanged p waiting acc procs views wants c v ab h sent after_out after_in apart goes lawful others even offers d.events m.state d.end m.arrived x d.no_moves d.happen d.delivered less)

  module _ (procs : ℕ → Process) (views : ℕ → View) (wants : ℕ → Bool) (made : Made procs views wants) (n : ℕ) (few : n < length p.nodes) where
    abbrev vcp : Vcp
    vcp = (made.at.node n few).0.vcp

    abbrev inner : ℕ → View
    inner = (made.at.node n few).0.inner

    abbrev node_now : Node Process
    node_now = record { vcp = vcp; process = procs n; inner = inner }

    here : made.state.state n ≡ IsNode node_now
    here = let x = made.at.node n few in x.1 ∙ ap (λ z. IsNode (record { vcp = x.0.vcp; process = z; inner = x.0.inner })) x.2

    abbrev after : Node Process → State
    after b = record made.state { state = put made.state.state n (IsNode b) }

    event : (b : Node Process) (m : moves.Move) → Moves N does n node_now m b → Step (Local N waiting does) made.state n (Own (Proc m)) (after b)
    event b m h = own_step (Local N waiting does) made.state n (Proc m) (IsNode b) (subst (λ z. Local N waiting does n z (Own (Proc m)) (IsNode b)) (sym here) (few, h))

    there : (b : Node Process) → (after b).state n ≡ IsNode b
    there b = put-same made.state.state n (IsNode b)

    next_made : (b : Node Process) (m : moves.Move) (h : Moves N does n node_now m b) (procs2 : ℕ → Process) (views2 : ℕ → View) (wants2 : ℕ → Bool) → IsAt p (after b) procs2 views2 wants2 → Made procs2 views2 wants2
    next_made b m h procs2 views2 wants2 at =
        let e : ActBy Act = record { actor = n; act = Proc m } in
        let k : Happens N waiting does made.state e (after b) = (Own (Proc m), refl, event b m h) in
        record {
          state = after b;
          past = made.past ++ e ∷ [];
          happen = one_more_event made.past (begins N (begin_of p)) made.state (after b) e made.happen k;
          order = order_longer p waiting done made.past (e ∷ []) made.order;
          arrived = happened p waiting acc made.state (after b) e made.arrived k;
          at = at;
        }

    same_out : (d : ℕ) → SameOut (vcp.carrier.out d) (vcp.carrier.out d)
    same_out d = record { offered = refl; finished = refl }

    same_in : (d : ℕ) → SameIn (vcp.carrier.into d) (vcp.carrier.into d)
    same_in d = record { wants = refl; stopped = refl; taken = refl }

    -- a step without a communication
    pub rested : (i : ℕ) (t : occam.State) → RestsAt (procs n).state i t → Made (put procs n (with_state (procs n) t)) views wants
    rested i t st =
        let q = procs n in
        let b : Node Process = record { vcp = vcp; process = with_state q t; inner = inner } in
        let m = moves.Quiet i in
        let h : Moves N does n node_now m b = ((lists_other q.inside q.state.rest q.state.store (move.Quiet i) refl (quiet_own st), record { comms = []; does = (refl, st); inside = refl }), refl, refl) in
        next_made b m h (put procs n (with_state q t)) views wants
        (process_changes p waiting made.state (after b) n (Own (Proc m)) (event b m h) procs views wants made.at few node_now b here (there b) (with_state q t) refl same_out same_in (λ d. refl))

    put_out : (c : ℕ) (x : OutHalf) (d : ℕ) → (d ≡ c → ⊥) → SameOut (vcp.carrier.out d) (put vcp.carrier.out c x d)
    put_out c x d ne = subst (SameOut (vcp.carrier.out d)) (sym (put-other vcp.carrier.out c x d ne)) (same_out d)

    put_in : (c : ℕ) (x : InHalf) (d : ℕ) → (d ≡ c → ⊥) → SameIn (vcp.carrier.into d) (put vcp.carrier.into c x d)
    put_in c x d ne = subst (SameIn (vcp.carrier.into d)) (sym (put-other vcp.carrier.into c x d ne)) (same_in d)

    -- what the machine of ways has of a channel whose one half is here
    chan_out : (c v : ℕ) (ab : Bool) → home N c ≡ Way v ab → source_node N (Way v ab) ≡ n → (made.arrived.tokens.nodes.chans c).unacked ≡ (vcp.carrier.out c).unacked
    chan_out c v ab h k =
        ap (λ (x : ChanState). x.unacked) (made.arrived.good.shows.nodes.chan c)
        ∙ ap (λ z. ((vcps made.state z).carrier.out c).unacked) (ap (source_node N) h ∙ k) ∙ ap (λ z. ((vcp_of z).carrier.out c).unacked) here

    in_is : (c v : ℕ) (ab : Bool) → home N c ≡ Way v ab → sink_node N (Way v ab) ≡ n → in_half p made.state c ≡ vcp.carrier.into c
    in_is c v ab h k = ap (λ z. (vcps made.state z).carrier.into c) (ap (sink_node N) h ∙ k) ∙ ap (λ z. (vcp_of z).carrier.into c) here

    -- an output begins
    pub offered : (c v : ℕ) (ab : Bool) → home N c ≡ Way v ab → source_node N (Way v ab) ≡ n → (views c).taken ≡ (views c).offered → (views c).finished ≡ length (views c).taken → (procs n).inside c ≡ false →
        (i : ℕ) (x : Datum) (t : occam.State) → OffersAt (procs n).state i c x t → Made (put procs n (with_state (procs n) t)) (put views c (offered_more (views c) (message x))) wants
    offered c v ab h k all count outside i x t st = by_pieces (has_pieces (message x)).0 (has_pieces (message x)).1
      where
        idle : (vcp.carrier.out c).unacked ≡ []
        idle =
            let a = made.arrived in
            let inv = a.good.sound.inv in
            let e = sym (made.at.shows c) ∙ view_seen N made.state a.tokens c a.good.shows (carried N c v ab h).1 in
            sym (chan_out c v ab h k)
            ∙ none_under_way ((net_of N).chan c) (inv.phases c) (a.tokens.nodes.chans c) _ (inv.chans c (carried N c v ab h)).phase
            (subst (λ (z : View). z.taken ≡ z.offered) e all) (subst (λ (z : View). z.finished ≡ length z.taken) e count)

        by_pieces : (cs : List (List ℕ)) → Pieces (message x) cs → Made (put procs n (with_state (procs n) t)) (put views c (offered_more (views c) (message x))) wants
        by_pieces [] ps = absurd ps.cut
        by_pieces (now ∷ later) ps =
            let q = procs n in
            let end = node_end (end_of (virtual_link N v) ab) in
            let half : OutHalf = record (vcp.carrier.out c) { unacked = now ∷ later; offered = (vcp.carrier.out c).offered ++ message x ∷ [] } in
            let carrier : Carrier = enqueue (set_out vcp.carrier c half) end.link (piece_packet end.route (now ∷ later)) in
            let b : Node Process = record { vcp = record { carrier = carrier; link = vcp.link }; process = with_state q t; inner = inner } in
            let m = moves.Offer i c in
            let does_it : Moves N does n node_now m b = (
              message x,
              (lists_other q.inside q.state.rest q.state.store (move.Offer i c) (ap not outside) (offer_own st), record { comms = Out c x ∷ []; does = (x, refl, refl, st); inside = refl }),
              record { end = end; now = now; later = later; here = subst (λ z. (ends N z).output c ≡ Some end) k (output_there c v ab h); idle = idle; pieces = ps; after = refl },
              record { link = refl; inner = refl },
            ) in
            next_made b m does_it (put procs n (with_state q t)) (put views c (offered_more (views c) (message x))) wants
            (out_changes p waiting made.state (after b) n (Own (Proc m)) (event b m does_it) procs views wants made.at few node_now b here (there b) (with_state q t) refl c v ab h k
            (λ y. record y { offered = y.offered ++ message x ∷ [] }) (λ y. offered_more y (message x)) (λ y z. refl)
            (subst (SameOut (record (vcp.carrier.out c) { offered = (vcp.carrier.out c).offered ++ message x ∷ [] })) (sym (put-same vcp.carrier.out c half)) (record { offered = refl; finished = refl }))
            (put_out c half) same_in (λ d. refl))

    -- a channel is stopped, on a virtual link or inside the node
    pub stopped_way : (c v : ℕ) (ab : Bool) → home N c ≡ Way v ab → sink_node N (Way v ab) ≡ n → wants c ≡ false → (i : ℕ) (t : occam.State) → StopsAt (procs n).state i c t →
        Made (put procs n (with_state (procs n) t)) (put views c (stopped_view (views c))) (put wants c false)
    stopped_way c v ab h k idle i t st =
        let q = procs n in
        let end = node_end (end_of (virtual_link N v) (not ab)) in
        let half : InHalf = record (vcp.carrier.into c) { stopped = true } in
        let is_idle : (vcp.carrier.into c).wants ≡ false = sym (ap (λ (z : InHalf). z.wants) (in_is c v ab h k)) ∙ made.at.inputs c v ab h ∙ idle in
        let b : Node Process = record { vcp = record { carrier = set_in vcp.carrier c half; link = vcp.link }; process = with_state q t; inner = inner } in
        let m = moves.Stopch i c in
        let does_it : Moves N does n node_now m b = (
          (lists_other q.inside q.state.rest q.state.store (move.Stopch i c) refl (stop_own st), record { comms = Stp c ∷ []; does = (refl, st); inside = refl }),
          inl (record { end = end; here = subst (λ z. (ends N z).input c ≡ Some end) k (input_there c v ab h); idle = is_idle; after = refl }, record { link = refl; inner = refl }),
        ) in
        next_made b m does_it (put procs n (with_state q t)) (put views c (stopped_view (views c))) (put wants c false)
        (in_changes p waiting made.state (after b) n (Own (Proc m)) (event b m does_it) procs views wants made.at few node_now b here (there b) (with_state q t) refl c v ab h k
        (λ y. record y { stopped = true }) stopped_view (λ y z. refl) false (λ y e. ap (λ (z : InHalf). z.wants) e ∙ is_idle)
        (subst (SameIn half) (sym (put-same vcp.carrier.into c half)) (record { wants = refl; stopped = refl; taken = refl }))
        (put_in c half) same_out (λ d. refl))

    pub stopped_inside : (c : ℕ) → home N c ≡ Inside n → (i : ℕ) (t : occam.State) → StopsAt (procs n).state i c t → Made (put procs n (with_state (procs n) t)) (put views c (stopped_view (views c))) wants
    stopped_inside c h i t st =
        let q = procs n in
        let b : Node Process = record { vcp = vcp; process = with_state q t; inner = put inner c (stopped_view (inner c)) } in
        let m = moves.Stopch i c in
        let does_it : Moves N does n node_now m b =
        ((lists_other q.inside q.state.rest q.state.store (move.Stopch i c) refl (stop_own st), record { comms = Stp c ∷ []; does = (refl, st); inside = refl }), inr (h, refl, refl)) in
        next_made b m does_it (put procs n (with_state q t)) (put views c (stopped_view (views c))) wants
        (inner_changes p waiting made.state (after b) n (Own (Proc m)) (event b m does_it) procs views wants made.at few node_now b here (there b) (with_state q t) refl c h stopped_view
        (put-same inner c (stopped_view (inner c))) (λ j ne. put-other inner c (stopped_view (inner c)) j ne) refl)

    -- an output meets an input inside the node
    pub met_inside : (c : ℕ) → home N c ≡ Inside n → (views c).stopped ≡ false → (procs n).inside c ≡ true → (i j : ℕ) (g : Option ℕ) (x y : Datum) (t u w : occam.State) → message x ≡ message y →
        OffersAt (procs n).state i c x t → TakesAt t j g c (message y) y u → EndsAt u i c w → Contains (own (procs n).state.rest (procs n).state.store) (partner j g c) →
        Made (put procs n (with_state (procs n) w)) (put views c (network_step.exchanged (views c) (message x))) wants
    met_inside c h going within i j g x y t u w carries st1 st2 st3 listed =
        let q = procs n in
        let b : Node Process = record { vcp = vcp; process = with_state q w; inner = put inner c (network_step.exchanged (inner c) (message x)) } in
        let m = moves.Inner i j g c in
        let shown : inner c ≡ views c = sym (ap (λ z. inner_of z c) here) ∙ sym (ap (view_at N made.state c) h) ∙ made.at.shows c in
        let does_it : Moves N does n node_now m b = (
          message x,
          (
            lists_meeting q.inside q.state.rest q.state.store i j g c (within, offer_own st1, listed),
            record { comms = Out c x ∷ In c y ∷ Fin c ∷ []; does = (x, y, t, u, refl, refl, st1, subst (λ z. TakesAt t j g c z y u) (sym carries) st2, st3); inside = refl },
          ),
          h,
          ap (λ (z : View). z.stopped) shown ∙ going,
          refl,
          refl,
        ) in
        next_made b m does_it (put procs n (with_state q w)) (put views c (network_step.exchanged (views c) (message x))) wants
        (inner_changes p waiting made.state (after b) n (Own (Proc m)) (event b m does_it) procs views wants made.at few node_now b here (there b) (with_state q w) refl c h (λ z. network_step.exchanged z (message x))
        (put-same inner c (network_step.exchanged (inner c) (message x))) (λ k ne. put-other inner c (network_step.exchanged (inner c) (message x)) k ne) refl)

    -- an input takes a held piece: it has its message, or waits for the rest
    pub data Took (c : ℕ) (sent : List ℕ) (t : occam.State) : Type 0 where
      at_once : Made (put procs n (with_state (procs n) t)) (put views c (got_more (views c) sent)) (put wants c false) → Took c sent t
      waits : (q : Process) (d : step.ProcessStep) → Goes (procs n) d q → Goes q (Receives c sent) (with_state (procs n) t) → Made (put procs n q) (put views c (views c)) (put wants c true) → Took c sent t

    module _ (c v : ℕ) (ab : Bool) (h : home N c ≡ Way v ab) (k : sink_node N (Way v ab) ≡ n) (d : HasDelivered p waiting made.state) (sent : List ℕ) (offers : (views c).offered ≡ (views c).taken ++ sent ∷ [])
        (count : (views c).finished ≡ length (views c).taken) (going : (views c).stopped ≡ false) (idle : wants c ≡ false) (outside : (procs n).inside c ≡ false) (less : c < length p.channels) where
      abbrev old : InHalf
      old = vcp.carrier.into c

      abbrev end : End
      end = node_end (end_of (virtual_link N v) (not ab))

      is_idle : old.wants ≡ false
      is_idle = sym (ap (λ (z : InHalf). z.wants) (in_is c v ab h k)) ∙ made.at.inputs c v ab h ∙ idle

      is_going : old.stopped ≡ false
      is_going = sym (ap (λ (z : InHalf). z.stopped) (in_is c v ab h k)) ∙ ap (λ z. ((vcps made.state (sink_node N z)).carrier.into c).stopped) h
          ∙ ap (λ (z : View). z.stopped) (sym (ap (view_at N made.state c) h) ∙ made.at.shows c) ∙ going

      -- the piece that is held
      record Piece : Type 0 where
        packet : Packet
        now : List ℕ
        later : List (List ℕ)
        held : old.held ≡ Some packet
        piece : node.IsPieceFor end packet now (last_of later)
        whole : old.stored ++ joined (now ∷ later) ≡ sent

      piece : Piece
      piece =
          let n1 = ap length offers in
          let n2 = length-append (views c).taken (sent ∷ []) in
          let u = d.unasked c v ab h less (subst (λ (z : View). length z.offered ≡ suc z.finished) (sym (made.at.shows c)) (omega arith)) in
          let a = made.arrived in
          let inv = a.good.sound.inv in
          let chan = a.good.shows.nodes.chan c in
          let real = carried N c v ab h in
          let w = waiting_when_held ((net_of N).chan c) (inv.phases c) (a.tokens.nodes.chans c) _ u.packet (inv.chans c real).phase (ap (λ (x : ChanState). x.held) chan ∙ u.held) in
          let g = w.2 in
          let e = sym (made.at.shows c) ∙ view_seen N made.state a.tokens c a.good.shows real.1 in
          let message_is : g.message ≡ sent =
          last_one (views c).taken g.message sent
          (subst (λ (z : View). z.taken ++ g.message ∷ [] ≡ z.offered) (sym e) (sym g.offered) ∙ offers) in
          let for_net = piece_for (net_of N) ((net_of N).chan c).to.node u.packet c g.now g.later (a.tokens.nodes.chans c).unacked real refl g.unacked g.cut w.1 in
          let block : ((net_of N).chan c).to.block ≡ end.block = ap (λ z. (net_channel N z).to.block) h in
          let stored : (a.tokens.nodes.chans c).stored ≡ old.stored = ap (λ (x : ChanState). x.stored) chan ∙ ap (λ (z : InHalf). z.stored) (in_is c v ab h k) in
          record {
            packet = u.packet;
            now = g.now;
            later = g.later;
            held = subst (λ (z : InHalf). z.held ≡ Some u.packet) (in_is c v ab h k) u.held;
            piece = record { body = for_net.body ∙ ap (λ z. spelled (z ∷ []) ++ g.now) block; kind = for_net.kind };
            whole = subst (λ z. z ++ joined (g.now ∷ g.later) ≡ sent) stored (subst (λ z. (a.tokens.nodes.chans c).stored ++ joined (g.now ∷ g.later) ≡ z) message_is g.whole);
          }

      is_open : node.IsOpen (ends N n) vcp.carrier c end
      is_open = record { here = subst (λ z. (ends N z).input c ≡ Some end) k (input_there c v ab h); idle = is_idle; not_stopped = is_going }

      fetched : (x : Piece) (answer : Option (List ℕ)) (last : Bool) → last_of x.later ≡ last → answer ≡ node.message old x.now last → node.Fetches vcp.carrier c end answer (node.accept vcp.carrier c end x.now last)
      fetched x answer last e is = record { packet = x.packet; load = x.now; last = last; held = x.held; piece = subst (node.IsPieceFor end x.packet x.now) e x.piece; answer_is = is; after = refl }

      -- the input's move, of the site itself or of a guard
      taking : (j : ℕ) (g : Option ℕ) (answer : Option (List ℕ)) (carrier : Carrier) (q : Process) → DoesTake (procs n) j g c answer q → node.Fetches vcp.carrier c end answer carrier →
          (m : moves.Move) × Moves N does n node_now m (record { vcp = record { carrier = carrier; link = vcp.link }; process = q; inner = inner })
      taking j None answer carrier q it f = (moves.Want j c, (answer, end, it, is_open, node.fetches f, record { link = refl; inner = refl }))
      taking j (Some g) answer carrier q it f = (moves.Choose j g c, (answer, end, it, is_open, f, record { link = refl; inner = refl }))

      at_last : (x : Piece) → last_of x.later ≡ true → (j : ℕ) (g : Option ℕ) (y : Datum) (t : occam.State) → TakesAt (procs n).state j g c sent y t → Took c sent t
      at_last x e j g y t st =
          let q = with_state (procs n) t in
          let whole : old.stored ++ x.now ≡ sent = of_last x.later e x.whole in
          let half = node.store old x.now true in
          let r = taking j g (Some sent) (node.accept vcp.carrier c end x.now true) q (takes_now (procs n) j g c sent y t outside st) (fetched x (Some sent) true e (ap Some (sym whole))) in
          let b : Node Process = record { vcp = record { carrier = node.accept vcp.carrier c end x.now true; link = vcp.link }; process = q; inner = inner } in
          at_once (next_made b r.0 r.1 (put procs n q) (put views c (got_more (views c) sent)) (put wants c false)
          (in_changes p waiting made.state (after b) n (Own (Proc r.0)) (event b r.0 r.1) procs views wants made.at few node_now b here (there b) q refl c v ab h k
          (λ z. record z { wants = false; taken = z.taken ++ sent ∷ [] }) (λ z. got_more z sent) (λ z w. refl) false (λ z w. refl)
          (subst (SameIn (record old { wants = false; taken = old.taken ++ sent ∷ [] })) (sym (put-same vcp.carrier.into c half)) (record { wants = refl; stopped = refl; taken = ap (λ z. old.taken ++ z ∷ []) whole }))
          (put_in c half) same_out (λ z. refl)))
        where
          of_last : (later : List (List ℕ)) → last_of later ≡ true → old.stored ++ joined (x.now ∷ later) ≡ sent → old.stored ++ x.now ≡ sent
          of_last [] e h = ap (λ z. old.stored ++ z) (sym (append-nil x.now)) ∙ h
          of_last (z ∷ zs) e h = absurd (cc)

      not_last : (x : Piece) → last_of x.later ≡ false → (j : ℕ) (g : Option ℕ) (y : Datum) (t : occam.State) → TakesAt (procs n).state j g c sent y t → Took c sent t
      not_last x e j g y t st =
          let w = waits_now (procs n) j g c sent y t outside st in
          let q = w.first in
          let half = node.store old x.now false in
          let r = taking j g None (node.accept vcp.carrier c end x.now false) q w.begins (fetched x None false e refl) in
          let b : Node Process = record { vcp = record { carrier = node.accept vcp.carrier c end x.now false; link = vcp.link }; process = q; inner = inner } in
          waits q w.how w.goes w.gets (next_made b r.0 r.1 (put procs n q) (put views c (views c)) (put wants c true)
          (in_changes p waiting made.state (after b) n (Own (Proc r.0)) (event b r.0 r.1) procs views wants made.at few node_now b here (there b) q refl c v ab h k
          (λ z. record z { wants = true }) (λ z. z) (λ z w. refl) true (λ z w. refl)
          (subst (SameIn (record old { wants = true })) (sym (put-same vcp.carrier.into c half)) (record { wants = refl; stopped = refl; taken = refl }))
          (put_in c half) same_out (λ z. refl)))

      pub took : (j : ℕ) (g : Option ℕ) (y : Datum) (t : occam.State) → TakesAt (procs n).state j g c sent y t → Took c sent t
      took j g y t st = by_last (last_of piece.later) refl
        where
          by_last : (last : Bool) → last_of piece.later ≡ last → Took c sent t
          by_last true e = at_last piece e j g y t st
          by_last false e = not_last piece e j g y t st
