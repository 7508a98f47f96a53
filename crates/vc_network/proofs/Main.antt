-- The headline of the whole network.
use Rattle.std.proofs.Common.{Option, Some, None, ◌≡◌, ℕ, zero, suc, ◌+◌, ◌<◌, ◌≤◌, inl, inr, Bool, true, false, List, [], ◌∷◌, ◌++◌, length, Some, None, refl, sym, ap, ap₂, subst, ◌∙◌, arith, append-nil, append_assoc, if◌then◌else◌, nat_lt, nat_eq, eq-eqb, ne_eqb, le_refl}
use Rattle.std.proofs.lemmas.Bool.{cases_eq, lt-ltb}
use Rattle.vc_network.specs.Actors.{Network, ActBy}
use Rattle.vc_network.specs.Private.Actors.{Event, Run}
use Rattle.vc_packets.specs.declared.mark.Mark.{Mark}
use Rattle.vc_tokens.specs.Tokens.{Token}
use Rattle.vc_machine.specs.Links.{Receiver, Tokens, no_tokens}
use Rattle.vc_switch.specs.Waiting.{Waiting}
use Rattle.vc_machine.specs.TokenMachine.{TokenEvent, TokenRun}
use Rattle.vc_machine.specs.PacketsOfTokens.{input_of, seen}
use Rattle.vc_machine.proofs.Refinement.{no_view}
use Rattle.vc_machine.proofs.Bindings.{no_bindings}
use Rattle.vc_machine.proofs.CreditSum.{no_counts}
use Rattle.vc_machine.specs.Paths.{Port, AtNode, AtSwitch}
use Rattle.vc_machine.specs.Rendezvous.{View, Comm, DoesAll, part, nothing_yet}
use Rattle.vc_machine.specs.Machine as net
use Rattle.vc_machine.specs.Machine.{start}
use Rattle.vc_machine.specs.Places as places
use Rattle.vc_machine.specs.Places.{Queue, OnWire, at_place, Held, of_held, BelongsTo, Number}
use Rattle.vc_machine.proofs.Runs.{at_start, all_stopped}
use Rattle.vc_machine.proofs.Views.{chan_logs}
use Rattle.vc_machine.proofs.Exactly.{exactly, offered_at_most}
use Rattle.vc_vcp.specs.Links.{Vcp, new_vcp}
use Rattle.vc_switch.specs.Switch.{Switch, new_switch}
use Rattle.vc_network.specs.Plan.{back, Plan, Home, Way, Inside, home, ways, near, far, is_virtual, net_of, IsAccepted}
use Rattle.vc_network.specs.Processes.{StepRelation, Trace, none, more, comms}
use Rattle.vc_network.specs.Network.{Act, Actor, IsNode, IsSwitch, Local, first, begins, HappenAll}
use Rattle.vc_network.specs.Views.{vcp_of, halves_view, inner_of, switch_of, vcps, switches, source_node, sink_node, view_at, view, queue_at, Arrived, arrived, on_wire, marked, inside, in_ways, in_halves, everywhere, Said, said_by, all_said}
use Rattle.vc_network.proofs.Replays.{replayed}
use Rattle.vc_network.specs.Headline.{HeadlineHolds, IsFaithful, HasItsPacket, AreTold, Headline}
use Rattle.vc_network.proofs.Wiring.{net_accepted, carried}
use Rattle.vc_network.proofs.Homes.{VcpHomed, SwitchHomed, new_vcp_homed}
use Rattle.vc_network.specs.Credit.{sender_at}
use Rattle.vc_network.proofs.TokenViews.{Shows, SameReceiver, carriers}
use Rattle.vc_network.proofs.Steps.{InnerFits, runs_joined, seen_sound, Good, view_seen}
use Rattle.vc_network.proofs.Nexts.{process_of, next}

-- lists of what is said
tagged : ℕ → List (ℕ × Comm) → List Said
tagged n [] = []
tagged n (k ∷ ks) = (n, k) ∷ tagged n ks

said_here : (n : ℕ) (xs : List (ℕ × Comm)) (ys : List Said) → said_by n (tagged n xs ++ ys) ≡ xs ++ said_by n ys
unfolding tagged
said_here n [] ys = refl
said_here n (k ∷ xs) ys =
    ap (λ b. if b then k ∷ said_by n (tagged n xs ++ ys) else said_by n (tagged n xs ++ ys)) (eq-eqb n n refl) ∙ ap (λ z. k ∷ z) (said_here n xs ys)

said_there : (m n : ℕ) (xs : List (ℕ × Comm)) (ys : List Said) → (m ≡ n → ⊥) → said_by n (tagged m xs ++ ys) ≡ said_by n ys
unfolding tagged
said_there m n [] ys ne = refl
said_there m n (k ∷ xs) ys ne =
    ap (λ b. if b then k ∷ said_by n (tagged m xs ++ ys) else said_by n (tagged m xs ++ ys)) (ne_eqb m n ne) ∙ said_there m n xs ys ne

said_all : (m : ℕ) (xs : List (ℕ × Comm)) (ys : List Said) → all_said (tagged m xs ++ ys) ≡ xs ++ all_said ys
unfolding tagged
said_all m [] ys = refl
said_all m (k ∷ xs) ys = ap (λ z. k ∷ z) (said_all m xs ys)

push_if : (b : Bool) (k : Comm) (xs ys : List Comm) → (if b then k ∷ (xs ++ ys) else (xs ++ ys)) ≡ (if b then k ∷ xs else xs) ++ ys
push_if true k xs ys = refl
push_if false k xs ys = refl

pub part_append : (c : ℕ) (xs ys : List (ℕ × Comm)) → part c (xs ++ ys) ≡ part c xs ++ part c ys
part_append c [] ys = refl
part_append c ((d, k) ∷ xs) ys =
    ap (λ z. if nat_eq d c then k ∷ z else z) (part_append c xs ys) ∙ push_if (nat_eq d c) k (part c xs) (part c ys)

pub does_append : (v w u : View) (xs ys : List Comm) → DoesAll v xs w → DoesAll w ys u → DoesAll v (xs ++ ys) u
does_append v w u [] ys a b = subst (λ z. DoesAll z ys u) a b
does_append v w u (k ∷ xs) ys a b = (a.0, a.1, does_append a.0 w u xs ys a.2 b)

trace_append : {P : Type 0} (Does : StepRelation P) (p q r : P) (xs ys : List (ℕ × Comm)) → Trace Does p xs q → Trace Does q ys r → Trace Does p (xs ++ ys) r
trace_append Does p q r xs ys none b = b
trace_append Does p q r xs ys (more {q = m} {d = d} {ks = ks} h a) b = subst (λ z. Trace Does p z r) (sym (append_assoc (comms d) ks ys)) (more h (trace_append Does m q r ks ys a b))

-- the opening state
module _ {P : Type 0} (plan : Plan) (begin : ℕ → P) where
  first_vcp : (n : ℕ) → vcp_of (first plan begin n) ≡ new_vcp
  first_vcp n = elim (nat_lt n plan.nodes) as (λ b. vcp_of {P = P} (if b then IsNode (record { vcp = new_vcp; process = begin n; inner = λ c. nothing_yet }) else IsSwitch new_switch) ≡ new_vcp) [ true ↦ refl | false ↦ refl ]

  first_switch : (n : ℕ) → switch_of (first plan begin n) ≡ new_switch
  first_switch n = elim (nat_lt n plan.nodes) as (λ b. switch_of {P = P} (if b then IsNode (record { vcp = new_vcp; process = begin n; inner = λ c. nothing_yet }) else IsSwitch new_switch) ≡ new_switch) [ true ↦ refl | false ↦ refl ]

  first_inner : (n c : ℕ) → inner_of (first plan begin n) c ≡ nothing_yet
  first_inner n c = elim (nat_lt n plan.nodes) as (λ b. inner_of {P = P} (if b then IsNode (record { vcp = new_vcp; process = begin n; inner = λ c. nothing_yet }) else IsSwitch new_switch) c ≡ nothing_yet) [ true ↦ refl | false ↦ refl ]

  pub first_view : (c : ℕ) → view plan (begins plan begin) c ≡ nothing_yet
  first_view c = by_home (home plan c)
    where
      by_home : (h : Home) → view_at plan (begins plan begin) c h ≡ nothing_yet
      by_home (Way v ab) = ap₂ (λ x y. halves_view (x.carrier.out c) (y.carrier.into c)) (first_vcp (source_node plan (Way v ab))) (first_vcp (sink_node plan (Way v ab)))
      by_home (Inside n) = first_inner n c

  pub first_node : (n : ℕ) → n < plan.nodes → first plan begin n ≡ IsNode (record { vcp = new_vcp; process = begin n; inner = λ c. nothing_yet })
  first_node n less = ap (λ b. if b then IsNode (record { vcp = new_vcp; process = begin n; inner = λ c. nothing_yet }) else IsSwitch new_switch) (lt-ltb n plan.nodes less)

no_queue : (q : Port) → [] ≡ queue_at (carriers (λ n. new_vcp)) q
no_queue (AtNode n link) = refl
no_queue (AtSwitch k link) = refl

no_sender : (q : Port) → no_tokens.sender 0 ≡ sender_at (λ n. new_vcp) (λ k. new_switch) q
no_sender (AtNode n link) = refl
no_sender (AtSwitch k link) = refl

no_receiver : (plan : Plan) (q : Port) → SameReceiver plan (λ n. new_vcp) (λ k. new_switch) q (no_tokens.receiver 0)
no_receiver plan (AtNode n link) = record { buffer = refl; promised = refl; got = refl; mark = refl; bound = refl }
no_receiver plan (AtSwitch k link) = record { buffer = refl; promised = refl; word = refl; got = refl; mark = refl; bound = refl }

new_shows : (plan : Plan) → Shows plan (λ n. new_vcp) (λ k. new_switch) (λ w. []) no_tokens
new_shows plan = record {
  nodes = record { queue = λ w r. no_queue (near plan w); chan = λ c. refl; strays = λ e n. refl; lost = λ e k. refl };
  sender = λ w r. no_sender (near plan w);
  wire = λ w. refl;
  receiver = λ w r. no_receiver plan (far plan w);
}

pub good_start : {P : Type 0} (plan : Plan) (begin : ℕ → P) → Good plan (begins plan begin) no_tokens
good_start plan begin =
    let vs : (λ (n : ℕ). new_vcp) ≡ vcps (begins plan begin) = λ i n. sym (first_vcp plan begin n) i in
    let sws : (λ (k : ℕ). new_switch) ≡ switches plan (begins plan begin) = λ i k. sym (first_switch plan begin (plan.nodes + k)) i in
    record {
      shows = subst (λ z. Shows plan (vcps (begins plan begin)) z (λ w. []) no_tokens) sws (subst (λ z. Shows plan z (λ k. new_switch) (λ w. []) no_tokens) vs (new_shows plan));
      sound = seen_sound plan no_tokens start (no_view (net_of plan)) (no_bindings (net_of plan)) (no_counts back) [] refl (at_start (net_of plan));
      nodes = λ n. subst (VcpHomed plan n) (sym (first_vcp plan begin n)) (new_vcp_homed plan n);
      switched = λ k. subst (SwitchHomed plan k) (sym (first_switch plan begin (plan.nodes + k))) (λ link. inl refl);
      inner = λ n c. subst InnerFits (sym (first_inner plan begin n c)) (record { taken = refl; finished = refl });
      kinds = λ n h. (record { vcp = new_vcp; process = begin n; inner = λ c. nothing_yet }, first_node plan begin n h);
    }

-- a run
pub record Ran {P : Type 0} (plan : Plan) (waiting : Waiting) (Does : StepRelation P) (s u : Network (Actor P) Token) (t : Tokens) : Type 0 where
  pub ks : List Said
  pub new : Tokens
  pub events : List TokenEvent
  pub run : TokenRun (net_of plan) back waiting t events new
  pub good : Good plan u new
  pub views : (c : ℕ) → DoesAll (view plan s c) (part c (all_said ks)) (view plan u c)
  pub traces : (n : ℕ) (d : P) → Trace Does (process_of d (s.state n)) (said_by n ks) (process_of d (u.state n))
  pub by_no_other : (n : ℕ) → plan.nodes ≤ n → said_by n ks ≡ []

pub ran : {P : Type 0} (plan : Plan) (waiting : Waiting) (Does : StepRelation P) (acc : IsAccepted plan) (es : List (Event Act Token)) (s u : Network (Actor P) Token) (t : Tokens) → Good plan s t → Run (Local plan waiting Does) s es u → Ran plan waiting Does s u t
ran plan waiting Does acc [] s u t g run =
    let same : s ≡ u = λ i. record { state = λ n. sym (run.states n) i; way = λ w. sym (run.ways w) i } in
    record {
      ks = [];
      new = t;
      events = [];
      run = refl;
      good = subst (λ z. Good plan z t) same g;
      views = λ c. sym (ap (λ z. view plan z c) same);
      traces = λ n d. subst (λ z. Trace Does (process_of d (s.state n)) [] (process_of d (z.state n))) same none;
      by_no_other = λ n past. refl;
    }
ran plan waiting Does acc (e ∷ es) s u t g run =
    let mid = run.0 in
    let x = next plan waiting Does acc s mid t e.actor e.label g run.1 in
    let r = ran plan waiting Does acc es mid u x.new x.good run.2 in
    record {
      ks = tagged e.actor x.ks ++ r.ks;
      new = r.new;
      events = x.events ++ r.events;
      run = runs_joined (net_of plan) waiting t x.new r.new x.events r.events x.run r.run;
      good = r.good;
      views = λ c. subst (λ z. DoesAll (view plan s c) z (view plan u c)) (sym (ap (part c) (said_all e.actor x.ks r.ks) ∙ part_append c x.ks (all_said r.ks)))
          (does_append (view plan s c) (view plan mid c) (view plan u c) (part c x.ks) (part c (all_said r.ks)) (x.views c) (r.views c));
      traces = λ n d. elim (cases_eq e.actor n) [
        | inl q ↦ subst (λ z. Trace Does (process_of d (s.state n)) z (process_of d (u.state n))) (sym (subst (λ m. said_by n (tagged m x.ks ++ r.ks) ≡ x.ks ++ said_by n r.ks) (sym q) (said_here n x.ks r.ks)))
            (trace_append Does (process_of d (s.state n)) (process_of d (mid.state n)) (process_of d (u.state n)) x.ks (said_by n r.ks)
            (subst (λ m. Trace Does (process_of d (s.state m)) x.ks (process_of d (mid.state m))) q (x.trace d)) (r.traces n d))
        | inr ne ↦ subst (λ z. Trace Does (process_of d (s.state n)) z (process_of d (u.state n))) (sym (said_there e.actor n x.ks r.ks ne))
            (subst (λ z. Trace Does (process_of d z) (said_by n r.ks) (process_of d (u.state n))) (run.1.others n (λ q. ne (sym q))) (r.traces n d))
      ];
      by_no_other = λ n past. elim (cases_eq e.actor n) [
        | inl q ↦ subst (λ m. said_by m (tagged e.actor x.ks ++ r.ks) ≡ []) q
            (said_here e.actor x.ks r.ks ∙ ap₂ (λ xs ys. xs ++ ys) (x.by_no_other (subst (λ m. plan.nodes ≤ m) (sym q) past)) (r.by_no_other e.actor (subst (λ m. plan.nodes ≤ m) (sym q) past)))
        | inr ne ↦ said_there e.actor n x.ks r.ks ne ∙ r.by_no_other n past
      ];
    }

-- where the packets are
pub same_arrived : (plan : Plan) (vs : ℕ → Vcp) (sw : ℕ → Switch) (q : Port) (r : Receiver) → SameReceiver plan vs sw q r → record { buffer = r.buffer; got = r.got; mark = r.mark } ≡ arrived vs sw q
same_arrived plan vs sw (AtNode n link) r e = λ i. record { buffer = e.buffer i; got = e.got i; mark = e.mark i }
same_arrived plan vs sw (AtSwitch k link) r e = λ i. record { buffer = e.buffer i; got = e.got i; mark = e.mark i }

same_marked : (got : List ℕ) (mark : Option Mark) (bound : Option ℕ) → places.of_input (input_of got mark bound) ≡ marked got mark
same_marked got None bound = refl
same_marked got (Some m) bound = refl

module _ {P : Type 0} (plan : Plan) (s : Network (Actor P) Token) (t : Tokens) (g : Good plan s t) where
  pub same_ways : (w : ℕ) → w ≤ ways plan → places.in_ways (seen (net_of plan) t) w ≡ in_ways plan s w
  same_ways zero h = refl
  same_ways (suc w) h =
      let r = t.receiver w in
      let a : Arrived = record { buffer = r.buffer; got = r.got; mark = r.mark } in
      let e : a ≡ arrived (vcps s) (switches plan s) (far plan w) = same_arrived plan (vcps s) (switches plan s) (far plan w) r (g.shows.receiver w (omega arith)) in
      let wire = g.shows.wire w in
      let line : on_wire plan (far plan w) a (t.wire w) ≡ on_wire plan (far plan w) (arrived (vcps s) (switches plan s) (far plan w)) (s.way w) = λ i. on_wire plan (far plan w) (e i) (wire i) in
      let q = ap₂ (λ xs ys. at_place (Queue w) xs ++ at_place (OnWire w) ys) (g.shows.nodes.queue w (omega arith)) line in
      let i = ap (at_place (places.Inside w)) (same_marked r.got r.mark r.bound ∙ ap inside e) in
      ap₂ (λ xs ys. xs ++ ys) (ap₂ (λ xs ys. xs ++ ys) q i) (same_ways w (omega arith))

  same_halves : (c : ℕ) → places.in_halves (seen (net_of plan) t) c ≡ in_halves plan s c
  same_halves zero = refl
  same_halves (suc c) = ap₂ (λ xs ys. xs ++ ys) (ap (λ x. at_place (Held c) (of_held x.held)) (g.shows.nodes.chan c)) (same_halves c)

  same_places : places.everywhere (net_of plan) (seen (net_of plan) t) ≡ everywhere plan s
  same_places = ap₂ (λ xs ys. xs ++ ys) (same_ways (ways plan) (le_refl (ways plan))) (same_halves (length plan.channels))

  seen_at : (c : ℕ) → is_virtual (home plan c) ≡ true → view plan s c ≡ net.view (seen (net_of plan) t) c
  seen_at c e = view_seen plan s t c g.shows e

  outer_faithful : (c : ℕ) → c < length plan.channels → is_virtual (home plan c) ≡ true → IsFaithful plan s c
  outer_faithful c less e =
      let k = chan_logs (net_of plan) (seen (net_of plan) t) c g.sound.inv (less, e) in
      let b = (offered_at_most (net_of plan) (seen (net_of plan) t) c g.sound.inv (less, e)).1 in
      let v = sym (seen_at c e) in
      record {
        in_order = subst (λ z. (rest : List (List ℕ)) × (z.taken ++ rest ≡ z.offered)) v k.prefix;
        finished = subst (λ z. z.finished ≤ length z.taken) v k.finished;
        one_output = subst (λ z. length z.offered ≤ suc z.finished) v (omega arith);
      }

  inner_faithful : (c n : ℕ) → home plan c ≡ Inside n → IsFaithful plan s c
  inner_faithful c n e =
      let f = subst InnerFits (sym (ap (view_at plan s c) e)) (g.inner n c) in
      let a = f.finished in
      let b = ap length f.taken in
      record { in_order = ([], append-nil (view plan s c).taken ∙ f.taken); finished = omega arith; one_output = omega arith }

  pub faithful : (c : ℕ) → c < length plan.channels → IsFaithful plan s c
  faithful c less = by_home (home plan c) refl
    where
      by_home : (h : Home) → home plan c ≡ h → IsFaithful plan s c
      by_home (Way v ab) e = outer_faithful c less (ap is_virtual e)
      by_home (Inside n) e = inner_faithful c n e

  pub packets : IsAccepted plan → (c v : ℕ) (ab : Bool) → c < length plan.channels → home plan c ≡ Way v ab → HasItsPacket plan s c
  packets acc c v ab less e =
      let r = carried plan c v ab e in
      let q = seen_at c r.1 in
      record {
        one_packet = λ n. subst (λ z. Number (BelongsTo (net_of plan) c) z 1) same_places
            (exactly (net_of plan) (seen (net_of plan) t) c 1 (net_accepted plan acc) g.sound.inv r (let m = subst (λ z. length z.offered ≡ suc z.finished) q n in omega arith));
        no_packet = λ n. subst (λ z. Number (BelongsTo (net_of plan) c) z 0) same_places
            (exactly (net_of plan) (seen (net_of plan) t) c 0 (net_accepted plan acc) g.sound.inv r (let m = subst (λ z. length z.offered ≡ z.finished) q n in omega arith));
      }

-- what is said on the way is told
told : {P : Type 0} (plan : Plan) (waiting : Waiting) (Does : StepRelation P) (d : ℕ → P) (s u : Network (Actor P) Token) (t : Tokens) → Good plan s t → (q : Ran plan waiting Does s u t) → AreTold plan Does s u q.ks
told plan waiting Does d s u t g q = record {
  by_node = λ n less. (let a = g.kinds n less in let b = q.good.kinds n less in (
    a.0,
    b.0,
    a.1,
    b.1,
    subst (λ z. Trace Does (process_of (d n) z) (said_by n q.ks) b.0.process) a.1
        (subst (λ z. Trace Does (process_of (d n) (s.state n)) (said_by n q.ks) (process_of (d n) z)) b.1 (q.traces n (d n))),
  ));
  by_no_other = q.by_no_other;
  on_channel = q.views;
}

pub run_headline : {P : Type 0} (plan : Plan) (waiting : Waiting) (Does : StepRelation P) (begin : ℕ → P) (es : List (Event Act Token)) (s : Network (Actor P) Token) → IsAccepted plan →
    Run (Local plan waiting Does) (begins plan begin) es s → Headline plan waiting Does s
run_headline {P} plan waiting Does begin es s acc run =
    let r = ran plan waiting Does acc es (begins plan begin) s no_tokens (good_start plan begin) run in
    let g = r.good in
    record {
      faithful = faithful plan s r.new g;
      packets = packets plan s r.new g acc;
      nowhere_else = record {
        queued = λ n link p ps e. (g.nodes n).carrier.queue link p ps e;
        at_node = λ n link. (g.nodes n).link link;
        at_switch = λ k link. g.switched k link;
        held = λ n c p e. (g.nodes n).carrier.held c p e;
      };
      along = λ fs t goes. (let q = later fs t goes in (q.ks, told plan waiting Does begin s t r.new g q));
      by_event = λ c e t h. (let x = next plan waiting Does acc s t r.new e.actor h.0 g h.2 in (part c x.ks, x.short c, x.views c));
      stopped = λ c fs t less goes e. (let q = later fs t goes in all_stopped (view plan s c) (part c (all_said q.ks)) (view plan t c) e (q.views c));
      no_strays = g.shows.nodes.strays g.sound.inv.strays;
      none_lost = g.shows.nodes.lost g.sound.inv.lost;
    }
  where
    later : (fs : List (ActBy Act)) (t : Network (Actor P) Token) → HappenAll plan waiting Does s fs t → Ran plan waiting Does s t (ran plan waiting Does acc es (begins plan begin) s no_tokens (good_start plan begin) run).new
    later fs t goes =
        let p = replayed plan waiting Does s t fs goes in
        ran plan waiting Does acc p.0 s t _ (ran plan waiting Does acc es (begins plan begin) s no_tokens (good_start plan begin) run).good p.1

pub run_list : {P : Type 0} (plan : Plan) (waiting : Waiting) (Does : StepRelation P) (begin : ℕ → P) (es : List (Event Act Token)) (s : Network (Actor P) Token) → IsAccepted plan →
    Run (Local plan waiting Does) (begins plan begin) es s → (ks : List Said) × AreTold plan Does (begins plan begin) s ks
run_list plan waiting Does begin es s acc run =
    let good = good_start plan begin in
    let r = ran plan waiting Does acc es (begins plan begin) s no_tokens good run in
    (r.ks, told plan waiting Does begin (begins plan begin) s no_tokens good r)

pub headline : {P : Type 0} (plan : Plan) (waiting : Waiting) (Does : StepRelation P) (begin : ℕ → P) → HeadlineHolds plan waiting Does begin
headline plan waiting Does begin es s acc h =
    let r = replayed plan waiting Does (begins plan begin) s es h in (run_headline plan waiting Does begin r.0 s acc r.1, run_list plan waiting Does begin r.0 s acc r.1)
