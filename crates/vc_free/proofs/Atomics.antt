-- Whatever the processes may do together, a free network does: atomic by atomic, each with the deliveries that it needs.
use Rattle.std.proofs.Common.{◌≡◌, ◌≢◌, ℕ, zero, suc, ◌+◌, ◌<◌, ◌≤◌, Bool, true, false, not, ◌&&◌, ◌||◌, List, [], ◌∷◌, ◌++◌, length, map, get_or, nat_eq, slice_get, Option, Some, None, inl, inr, refl, sym, ap, ap₂, subst, ◌∙◌, arith, length-append, ◌==◌, if◌then◌else◌, eq-eqb, ne_eqb, eqb-true, append-nil, append_assoc}
use Rattle.std.proofs.lemmas.Bool.{cases_eq, cases_lt, or_right}
use Rattle.std.proofs.lemmas.List.{length-map}
use Rattle.std.proofs.lemmas.Option.{slice_get-get_or}
use Rattle.std.specs.List.{Contains}
use Rattle.vc_accepted.proofs.AcceptedNetwork.{end_is, on_link}
use Rattle.vc_accepted.proofs.Elements.{made_at, within}
use Rattle.vc_accepted.proofs.Elements.{there as link_there}
use Rattle.vc_accepted.specs.Begin.{node_plan, no_node, begin_of, is_inside, numbers_inside}
use Rattle.vc_accepted.specs.Determinate.{IsLawful}
use Rattle.vc_accepted.specs.NetworkOf.{network_of, home_in, home_of, link_of}
use Rattle.vc_accepted.specs.OneList.{by, on}
use Rattle.vc_accepted.specs.Process.{Process, does, Goes}
use Rattle.vc_free.proofs.Exchange.{before, taken}
use Rattle.vc_free.proofs.MoveEvents.{Made, AreEven, offered_more, stopped_view, with_state, calmed, went_through, rested, offered, stopped_way, stopped_inside, met_inside, Took, at_once, waits, took}
use Rattle.vc_free.proofs.Runs.{RestsAt, OffersAt, TakesAt, StopsAt, Rests, no_rest, one_rest, rests_only, NextOut, NextIn, Early, next_out, next_in, next_stop, early, meeting_of, want_on, choose_on}
use Rattle.vc_free.specs.Delivery.{HasDelivered}
use Rattle.vc_free.proofs.Stages.{got_more, finished_more}
use Rattle.vc_machine.proofs.Basics.{put-same, put-other, every_put}
use Rattle.vc_network.proofs.Seen.{put_twice}
use Rattle.vc_machine.specs.Rendezvous.{View, DoesAll, nothing_yet}
use Rattle.vc_network.specs.Network.{begins, HappenAll, exchanged}
use Rattle.vc_network.specs.Plan as network
use Rattle.vc_network.specs.Plan.{Way, Inside, home}
use Rattle.vc_network.specs.Views.{source_node, sink_node}
use Rattle.vc_occam.proofs.Preservation.{step_uses, doing_keeps_use}
use Rattle.vc_occam.proofs.SiteMoves.{offer_on, stop_on}
use Rattle.vc_occam.proofs.UseBounds.{step_in, begin_in}
use Rattle.vc_occam.proofs.Sites.{Within, steps_keep, doing_keeps}
use Rattle.vc_occam.proofs.Interleavings.{Run}
use Rattle.vc_occam.specs.Completeness.{EndsAs}
use Rattle.vc_occam.specs.First.{own}
use Rattle.vc_occam.specs.Private.MoveSites.{partner}
use Rattle.vc_occam.specs.InUse.{outputs_rest, inputs_rest}
use Rattle.vc_occam.specs.States as occam
use Rattle.vc_occam.specs.States.{StepsTo}
use Rattle.vc_occam.specs.Traces.{Comm, Out, Fin, In, Stp, End, Trace}
use Rattle.vc_packets.specs.Functions.{put}
use Rattle.vc_placement.proofs.Ends.{HasUse, output_use, input_use}
use Rattle.vc_placement.proofs.OneNodeRuns.{exchange_shown, stop_shown}
use Rattle.vc_placement.specs.Linearization.{Atomic, Exchange, Stop, all_comms, comms_of, AreFaithful}
use Rattle.vc_plan.specs.Accepted.{IsAccepted, IsAtEnd}
use Rattle.vc_plan.specs.Accepted as plan
use Rattle.vc_plan.specs.Dependencies.{HasRanks}
use Rattle.vc_plan.specs.Limits.{kinds_of}
use Rattle.vc_plan.specs.declared.channel.Channel.{Channel}
use Rattle.vc_plan.specs.declared.channel.Home.{Home}
use Rattle.vc_plan.specs.declared.channel.Home.TheVariants as home_plan
use Rattle.vc_plan.specs.declared.plan.Plan.{Plan}
use Rattle.vc_plan.specs.declared.vlink.Vlink.{Vlink}
use Rattle.vc_process.specs.Lawful.{inputs, outputs}
use Rattle.vc_free.proofs.Orders.{halved, on_first, on_last, order_first, order_more}
use Rattle.vc_free.specs.Together.{FreeNetworksDoAll}
use Rattle.vc_network.proofs.Main.{does_append}
use Rattle.vc_free.proofs.Places.{arrived, first_vcp}
use Rattle.vc_network.proofs.Main.{first_node, first_view}
use Rattle.vc_occam.proofs.Completeness.{made as traces_made}
use Rattle.vc_occam.proofs.Preservation.{begins as begins_lawful}
use Rattle.vc_occam.proofs.Preorder.{at_first}
use Rattle.vc_vcp.specs.Links.{Vcp, new_vcp}
use Rattle.vc_process.specs.Messages.{message}
use Rattle.vc_process.specs.Numbering.{written}
use Rattle.vc_process.specs.ProcessStep.{ProcessStep, Finishes, Receives}
use Rattle.vc_process.specs.Syntax.{Proc}
use Rattle.vc_process.specs.Usage.{among}
use Rattle.vc_process.specs.declared.datum.Datum.{Datum}
use Rattle.vc_switch.specs.Waiting.{Waiting}

-- ---- channels inside a node

pub one_more : (b : Bool) (k c : ℕ) (l : List ℕ) → among ((if b then k ∷ [] else []) ++ l) c ≡ ((b && nat_eq k c) || among l c)
one_more true k c l = refl
one_more false k c l = refl

home_inside : (n : ℕ) (h : Home) → is_inside n h ≡ true → home_of h ≡ Inside n
home_inside n (home_plan.Way v ab) e = absurd (cc)
home_inside n (home_plan.Inside m) e = ap Inside (eqb-true m n e)

inside_home : (n : ℕ) (h : Home) → home_of h ≡ Inside n → is_inside n h ≡ true
inside_home n (home_plan.Way v ab) e = absurd (cc)
inside_home n (home_plan.Inside m) e = eq-eqb m n (let q : m ≡ n = cc in q)

abbrev InsideAt : ℕ → List Channel → ℕ → ℕ → network.Home → Type 0
InsideAt n cs k c o = (i : ℕ) × (c ≡ k + i) × (get_or (map home_in cs) i o ≡ Inside n)

found_inside : (n : ℕ) (x : Channel) (xs : List Channel) (k c : ℕ) (o : network.Home) (b e : Bool) → is_inside n x.home ≡ b → nat_eq k c ≡ e → ((b && e) || among (numbers_inside n (suc k) xs) c) ≡ true →
    (among (numbers_inside n (suc k) xs) c ≡ true → InsideAt n xs (suc k) c o) → InsideAt n (x ∷ xs) k c o
found_inside n x xs k c o true true is at h rest = (zero, (let e = eqb-true k c at in omega arith), home_inside n x.home is)
found_inside n x xs k c o true false is at h rest = let r = rest h in let e = r.1 in (suc r.0, omega arith, r.2)
found_inside n x xs k c o false true is at h rest = let r = rest h in let e = r.1 in (suc r.0, omega arith, r.2)
found_inside n x xs k c o false false is at h rest = let r = rest h in let e = r.1 in (suc r.0, omega arith, r.2)

inside_there : (n : ℕ) (cs : List Channel) (k c : ℕ) (o : network.Home) → among (numbers_inside n k cs) c ≡ true → InsideAt n cs k c o
inside_there n [] k c o h = absurd (let z : false ≡ true = h in cc)
inside_there n (x ∷ xs) k c o h =
    found_inside n x xs k c o (is_inside n x.home) (nat_eq k c) refl refl (sym (one_more (is_inside n x.home) k c (numbers_inside n (suc k) xs)) ∙ h) (λ g. inside_there n xs (suc k) c o g)

there_inside : (n : ℕ) (cs : List Channel) (k i : ℕ) (o : network.Home) → i < length cs → get_or (map home_in cs) i o ≡ Inside n → among (numbers_inside n k cs) (k + i) ≡ true
there_inside n [] k i o less h = absurd (omega arith)
there_inside n (x ∷ xs) k zero o less h =
    let e : k ≡ k + 0 = omega arith in
    one_more (is_inside n x.home) k (k + 0) (numbers_inside n (suc k) xs) ∙ ap₂ (λ a b. (a && b) || among (numbers_inside n (suc k) xs) (k + 0)) (inside_home n x.home h) (eq-eqb k (k + 0) e)
there_inside n (x ∷ xs) k (suc i) o less h =
    let e : suc k + i ≡ k + suc i = omega arith in
    let r = subst (λ z. among (numbers_inside n (suc k) xs) z ≡ true) e (there_inside n xs (suc k) i o (omega arith) h) in
    one_more (is_inside n x.home) k (k + suc i) (numbers_inside n (suc k) xs) ∙ or_right (is_inside n x.home && nat_eq k (k + suc i)) (among (numbers_inside n (suc k) xs) (k + suc i)) r

-- ---- nodes' parts of a list

abbrev Three : Bool → Bool → Comm → Comm → Comm → List Comm → List Comm
Three a b x y z l = if a then x ∷ (if b then y ∷ (if a then z ∷ l else l) else (if a then z ∷ l else l)) else (if b then y ∷ (if a then z ∷ l else l) else (if a then z ∷ l else l))

-- ---- what a channel shows

-- the view of a channel after one is changed
after_put : (f : ℕ → View) (d c : ℕ) (x : View) (P : View → Type 0) → (d ≡ c → P x) → ((d ≡ c → ⊥) → P (f c)) → P (put f d x c)
after_put f d c x P h k = elim (cases_eq c d) [
  | inl e ↦ subst P (sym (ap (put f d x) e ∙ put-same f d x)) (h (sym e))
  | inr ne ↦ subst P (sym (put-other f d x c ne)) (k (λ e. ne (sym e)))
]

abbrev none_wants : ℕ → Bool
none_wants = λ d. false

module _ (p : Plan) (waiting : Waiting) (acc : IsAccepted p) (ranks : HasRanks p) where
  abbrev N : network.Plan
  N = network_of p

  -- ---- what each process keeps

  abbrev process_of : ℕ → Proc
  process_of k = written (node_plan p k).process

  record Kept (k : ℕ) (q : Process) : Type 0 where
    lawful : IsLawful q
    inside : q.inside ≡ (begin_of p k).inside
    outputs : Within (outputs_rest q.state.rest) (outputs (process_of k))
    inputs : Within (inputs_rest q.state.rest) (inputs (process_of k))

  kept_by : {i : ℕ} {d : _} {ms : List Comm} (k : ℕ) (q : Process) (t : occam.State) → Kept k q → StepsTo q.state i d ms t → Kept k (with_state q t)
  kept_by {i} {d} {ms} k q t h st = record {
    lawful = record { uses = step_uses st h.lawful.uses; sites = steps_keep q.state t i d ms st h.lawful.sites };
    inside = h.inside;
    outputs = λ c o. h.outputs c ((step_in st).output c o);
    inputs = λ c o. h.inputs c ((step_in st).input c o);
  }

  kept_rests : {s t : occam.State} (k : ℕ) (q : Process) → Kept k (with_state q s) → Rests s t → Kept k (with_state q t)
  kept_rests k q h no_rest = h
  kept_rests {s} k q h (one_rest {t = t} i st r) = kept_rests k q (kept_by k (with_state q s) t h st) r

  -- ---- the ends of channels

  record Use (n c : ℕ) (is_output : Bool) : Type 0 where
    less : c < length p.channels
    channel : Channel
    home_is : home N c ≡ home_of channel.home
    at_end : IsAtEnd p channel.home is_output n

  plan_there : (n : ℕ) → n < length p.nodes → slice_get p.nodes n ≡ Some (node_plan p n)
  plan_there n few = slice_get-get_or p.nodes n no_node few

  use_of : (n c : ℕ) (o : Bool) → n < length p.nodes → HasUse o c (plan.uses_of (node_plan p n)) → Use n c o
  use_of n c o few (k, u, there, chan, is) =
      let r = acc.uses n k (node_plan p n) u (plan_there n few) there in
      let there : slice_get p.channels c ≡ Some r.channel = subst (λ z. slice_get p.channels z ≡ Some r.channel) chan r.there in
      let l = within home_in p.channels c r.channel there in
      let same = length-map p.channels home_in in
      record {
        less = omega arith;
        channel = r.channel;
        home_is = made_at home_in p.channels c (Inside (length p.nodes)) r.channel there;
        at_end = subst (λ z. IsAtEnd p r.channel.home z n) is r.at_end;
      }

  -- node n outputs on the channel, over a virtual link or inside
  data OutOf (n c : ℕ) : Type 0 where
    out_way : (v : ℕ) (ab : Bool) → home N c ≡ Way v ab → source_node N (Way v ab) ≡ n → OutOf n c
    out_inside : home N c ≡ Inside n → OutOf n c

  data InTo (n c : ℕ) : Type 0 where
    in_way : (v : ℕ) (ab : Bool) → home N c ≡ Way v ab → sink_node N (Way v ab) ≡ n → InTo n c
    in_inside : home N c ≡ Inside n → InTo n c

  out_of : (n c : ℕ) → Use n c true → OutOf n c
  out_of n c u = by_home u.channel.home u.home_is u.at_end
    where
      by_home : (h : Home) → home N c ≡ home_of h → IsAtEnd p h true n → OutOf n c
      by_home (home_plan.Way v ab) e (x, there, at) = out_way v ab e (ap (λ (z : network.End). z.node) (end_is p v x ab there) ∙ at)
      by_home (home_plan.Inside m) e at = out_inside (e ∙ ap Inside at)

  into : (n c : ℕ) → Use n c false → InTo n c
  into n c u = by_home u.channel.home u.home_is u.at_end
    where
      by_home : (h : Home) → home N c ≡ home_of h → IsAtEnd p h false n → InTo n c
      by_home (home_plan.Way v ab) e (x, there, at) = in_way v ab e (ap (λ (z : network.End). z.node) (end_is p v x (not ab) there) ∙ at)
      by_home (home_plan.Inside m) e at = in_inside (e ∙ ap Inside at)

  outputs_to : (n c : ℕ) (q : Process) → n < length p.nodes → Kept n q → outputs_rest q.state.rest c ≡ true → Use n c true
  outputs_to n c q few h o = use_of n c true few (output_use (kinds_of (node_plan p n).vars) c (process_of n) (h.outputs c o))

  inputs_from : (n c : ℕ) (q : Process) → n < length p.nodes → Kept n q → inputs_rest q.state.rest c ≡ true → Use n c false
  inputs_from n c q few h o = use_of n c false few (input_use (kinds_of (node_plan p n).vars) c (process_of n) (h.inputs c o))

  takes_on : (j : ℕ) (g : Option ℕ) (c : ℕ) (m : List ℕ) (y : Datum) (s t : occam.State) → TakesAt s j g c m y t → inputs_rest s.rest c ≡ true
  takes_on j None c m y s t st = want_on st
  takes_on j (Some g) c m y s t st = choose_on st

  outside : (n c v : ℕ) (ab : Bool) (q : Process) → Kept n q → home N c ≡ Way v ab → q.inside c ≡ false
  outside n c v ab q h e = by_test (q.inside c) refl
    where
      by_test : (b : Bool) → q.inside c ≡ b → q.inside c ≡ false
      by_test false t = t
      by_test true t =
          let r = inside_there n p.channels 0 c (Inside (length p.nodes)) (sym (ap (λ f. f c) h.inside) ∙ t) in
          let i = r.1 in
          let same : c ≡ r.0 = omega arith in
          absurd (let z : Way v ab ≡ Inside n = sym e ∙ ap (home N) same ∙ r.2 in cc)

  inside : (n c : ℕ) (q : Process) → Kept n q → c < length p.channels → home N c ≡ Inside n → q.inside c ≡ true
  inside n c q h less e = ap (λ f. f c) h.inside ∙ (let z : 0 + c ≡ c = omega arith in subst (λ j. among (numbers_inside n 0 p.channels) j ≡ true) z (there_inside n p.channels 0 c (Inside (length p.nodes)) less e))

  apart : (c v : ℕ) (ab : Bool) → home N c ≡ Way v ab → source_node N (Way v ab) ≢ sink_node N (Way v ab)
  apart c v ab h same =
      let x = link_there link_of p.vlinks v (on_link p acc c v ab h) in
      by_side ab x.0 x.1 (sym (ap (λ (z : network.End). z.node) (end_is p v x.0 ab x.1)) ∙ same ∙ ap (λ (z : network.End). z.node) (end_is p v x.0 (not ab) x.1))
    where
      by_side : (s : Bool) (x : Vlink) → slice_get p.vlinks v ≡ Some x → (plan.end_of x s).node ≡ (plan.end_of x (not s)).node → ⊥
      by_side true x there e = acc.apart v x there e
      by_side false x there e = acc.apart v x there (sym e)

  -- ---- a process that goes on

  record Ready (k : ℕ) (q : Process) (ks : List Comm) (x : End) : Type 0 where
    kept : Kept k q
    last : occam.State
    run : Run q.state ks last
    ends : EndsAs last x

  -- each channel shows what the list leads to
  abbrev Sees : List Atomic → (ℕ → View) → Type 0
  Sees hs views = (c : ℕ) → c < length p.channels → DoesAll nothing_yet (on c (all_comms hs)) (views c)

  -- ---- states to which events have led that do a list in its order

  module _ (done : List Atomic) where
    abbrev Here : (ℕ → Process) → (ℕ → View) → (ℕ → Bool) → Type 0
    Here = Made p waiting acc ranks done

    abbrev same_made : {procs procs2 : ℕ → Process} {views views2 : ℕ → View} {wants wants2 : ℕ → Bool} → Here procs views wants → ((k : ℕ) → procs k ≡ procs2 k) → ((d : ℕ) → views d ≡ views2 d) → ((d : ℕ) → wants d ≡ wants2 d) → Here procs2 views2 wants2
    same_made m a b c = record {
      state = m.state;
      past = m.past;
      happen = m.happen;
      order = m.order;
      arrived = m.arrived;
      at = record {
        node = λ k less. (let x = m.at.node k less in (x.0, x.1, x.2 ∙ a k));
        shows = λ d. m.at.shows d ∙ b d;
        inputs = λ d v ab h. m.at.inputs d v ab h ∙ c d;
      };
    }

    -- its steps without a communication
    record Rested (procs : ℕ → Process) (views : ℕ → View) (wants : ℕ → Bool) (n : ℕ) (q : Process) : Type 0 where
      procs2 : ℕ → Process
      made : Here procs2 views wants
      here : procs2 n ≡ q
      others : (j : ℕ) → (j ≡ n → ⊥) → procs2 j ≡ procs j

    rests_on : (n : ℕ) (few : n < length p.nodes) (q : Process) (procs : ℕ → Process) (views : ℕ → View) (wants : ℕ → Bool) → Here procs views wants → (s t : occam.State) → procs n ≡ with_state q s → Rests s t → Rested procs views wants n (with_state q t)
    rests_on n few q procs views wants m s t e no_rest = record { procs2 = procs; made = m; here = e; others = λ j ne. refl }
    rests_on n few q procs views wants m s t e (one_rest {t = mid} i st r) =
        let m2 = rested p waiting acc ranks done procs views wants m n few i mid (subst (λ (z : Process). RestsAt z.state i mid) (sym e) st) in
        let now : ℕ → Process = put procs n (with_state (procs n) mid) in
        let next = rests_on n few q now views wants m2 mid t (put-same procs n (with_state (procs n) mid) ∙ ap (λ z. with_state z mid) e) r in
        record { procs2 = next.procs2; made = next.made; here = next.here; others = λ j ne. next.others j ne ∙ put-other procs n (with_state (procs n) mid) j ne }

    -- ---- one node's part: a channel is stopped, or an exchange inside it

    record Went (procs : ℕ → Process) (views : ℕ → View) (n : ℕ) (ks : List Comm) (x : End) : Type 0 where
      procs2 : ℕ → Process
      made : Here procs2 views none_wants
      ready : Ready n (procs2 n) ks x
      others : (j : ℕ) → (j ≡ n → ⊥) → procs2 j ≡ procs j

    ready_at : (n : ℕ) (q q2 : Process) (ks : List Comm) (x : End) → q2 ≡ q → Ready n q ks x → Ready n q2 ks x
    ready_at n q q2 ks x e h = subst (λ z. Ready n z ks x) (sym e) h

    idle_still : (c d : ℕ) → put none_wants c false d ≡ false
    idle_still c d = every_put (λ j y. y ≡ false) none_wants c false refl (λ j ne. refl) d

    stops_here : (n c : ℕ) → n < length p.nodes → (procs : ℕ → Process) (views : ℕ → View) → Here procs views none_wants → (ks : List Comm) (x : End) → Ready n (procs n) (Stp c ∷ ks) x → Went procs (put views c (stopped_view (views c))) n ks x
    stops_here n c few procs views m ks x h =
        let q = procs n in
        let o = next_stop h.run in
        let r = rests_on n few q procs views none_wants m q.state o.before refl o.rests in
        let kept = kept_rests n q h.kept o.rests in
        let st = subst (λ (z : Process). StopsAt z.state o.site c o.after) (sym r.here) o.step in
        let now : ℕ → Process = put r.procs2 n (with_state (r.procs2 n) o.after) in
        let here : now n ≡ with_state q o.after = put-same r.procs2 n (with_state (r.procs2 n) o.after) ∙ ap (λ z. with_state z o.after) r.here in
        let made : Here now (put views c (stopped_view (views c))) none_wants =
        elim (into n c (inputs_from n c (with_state q o.before) few kept (stop_on o.step))) [
          | in_way v ab e k ↦ same_made (stopped_way p waiting acc ranks done r.procs2 views none_wants r.made n few c v ab e k refl o.site o.after st) (λ j. refl) (λ d. refl) (λ d. idle_still c d)
          | in_inside e ↦ stopped_inside p waiting acc ranks done r.procs2 views none_wants r.made n few c e o.site o.after st
        ] in
        record {
          procs2 = now;
          made = made;
          ready = ready_at n (with_state q o.after) (now n) ks x here (record { kept = kept_by n (with_state q o.before) o.after kept o.step; last = h.last; run = o.run; ends = h.ends });
          others = λ j ne. put-other r.procs2 n (with_state (r.procs2 n) o.after) j ne ∙ r.others j ne;
        }

    meets_here : (n c : ℕ) → n < length p.nodes → (procs : ℕ → Process) (views : ℕ → View) → Here procs views none_wants → (ks : List Comm) (end : End) (x y : Datum) → message x ≡ message y → (views c).stopped ≡ false →
        Ready n (procs n) (Out c x ∷ In c y ∷ Fin c ∷ ks) end → Went procs (put views c (exchanged (views c) (message x))) n ks end
    meets_here n c few procs views m ks end x y carries going h =
        let q = procs n in
        let o = meeting_of c x y ks h.run h.kept.lawful.uses in
        let r = rests_on n few q procs views none_wants m q.state o.before refl o.rests in
        let kept = kept_rests n q h.kept o.rests in
        let kept2 = kept_by n (with_state q o.before) o.middle kept o.offer in
        let kept3 = kept_by n (with_state q o.middle) o.after kept2 o.take in
        let kept4 = kept_by n (with_state q o.after) o.end kept3 o.finish in
        let use1 = outputs_to n c (with_state q o.before) few kept (offer_on o.offer) in
        let use2 = inputs_from n c (with_state q o.middle) few kept2 (takes_on o.receiver o.guard c (message y) y o.middle o.after o.take) in
        let at_home : home N c ≡ Inside n = both_here n c (out_of n c use1) (into n c use2) in
        let now : ℕ → Process = put r.procs2 n (with_state (r.procs2 n) o.end) in
        let here : now n ≡ with_state q o.end = put-same r.procs2 n (with_state (r.procs2 n) o.end) ∙ ap (λ z. with_state z o.end) r.here in
        record {
          procs2 = now;
          made = met_inside p waiting acc ranks done r.procs2 views none_wants r.made n few c at_home going
              (ap (λ (z : Process). z.inside c) r.here ∙ inside n c (with_state q o.before) kept use1.less at_home) o.sender o.receiver o.guard x y o.middle o.after o.end carries
              (subst (λ (z : Process). OffersAt z.state o.sender c x o.middle) (sym r.here) o.offer) o.take o.finish
              (subst (λ (z : Process). Contains (own z.state.rest z.state.store) (partner o.receiver o.guard c)) (sym r.here) o.there);
          ready = ready_at n (with_state q o.end) (now n) ks end here (record { kept = kept4; last = h.last; run = o.run; ends = h.ends });
          others = λ j ne. put-other r.procs2 n (with_state (r.procs2 n) o.end) j ne ∙ r.others j ne;
        }
      where
        both_here : (n c : ℕ) → OutOf n c → InTo n c → home N c ≡ Inside n
        both_here n c (out_inside e) i = e
        both_here n c (out_way v ab e k) (in_way w f e2 k2) = absurd (apart c v ab e (k ∙ sym k2 ∙ ap (sink_node N) (sym e2 ∙ e)))
        both_here n c (out_way v ab e k) (in_inside e2) = absurd (let z : Way v ab ≡ Inside n = sym e ∙ e2 in cc)

    -- ---- an exchange on a virtual link

    module _ (procs : ℕ → Process) (views : ℕ → View) (m : Here procs views none_wants) (c v : ℕ) (ab : Bool) (h : home N c ≡ Way v ab) where
      abbrev src : ℕ
      src = source_node N (Way v ab)

      abbrev snk : ℕ
      snk = sink_node N (Way v ab)

      record Passed (ks ls : List Comm) (x y : End) (sent : List ℕ) : Type 0 where
        procs2 : ℕ → Process
        made : Here procs2 (put views c (exchanged (views c) sent)) none_wants
        sender : Ready src (procs2 src) ks x
        receiver : Ready snk (procs2 snk) ls y
        others : (j : ℕ) → (j ≡ src → ⊥) → (j ≡ snk → ⊥) → procs2 j ≡ procs j

      module _ (few_src : src < length p.nodes) (few_snk : snk < length p.nodes) (less : c < length p.channels) (x y : Datum) (carries : message x ≡ message y) (going : (views c).stopped ≡ false)
          (even : AreEven p waiting acc ranks done views) (all : (views c).taken ≡ (views c).offered) (ks ls : List Comm) (end_src end_snk : End) (out : Ready src (procs src) (Out c x ∷ Fin c ∷ ks) end_src)
          (get : Ready snk (procs snk) (In c y ∷ ls) end_snk) where
        abbrev sent : List ℕ
        sent = message x

        ne : src ≢ snk
        ne = apart c v ab h

        back : snk ≢ src
        back e = ne (sym e)

        o : NextOut (procs src).state c x (Fin c ∷ ks) out.last
        o = next_out out.run

        i : NextIn (procs snk).state c y ls get.last
        i = next_in get.run

        r1 : Rested procs views none_wants src (with_state (procs src) o.before)
        r1 = rests_on src few_src (procs src) procs views none_wants m (procs src).state o.before refl o.rests

        r2 : Rested r1.procs2 views none_wants snk (with_state (procs snk) i.before)
        r2 = rests_on snk few_snk (procs snk) r1.procs2 views none_wants r1.made (procs snk).state i.before (r1.others snk back) i.rests

        kept_out : Kept src (with_state (procs src) o.before)
        kept_out = kept_rests src (procs src) out.kept o.rests

        kept_began : Kept src (with_state (procs src) o.after)
        kept_began = kept_by src (with_state (procs src) o.before) o.after kept_out o.step

        kept_in : Kept snk (with_state (procs snk) i.before)
        kept_in = kept_rests snk (procs snk) get.kept i.rests

        at_src : r2.procs2 src ≡ with_state (procs src) o.before
        at_src = r2.others src ne ∙ r1.here

        abbrev offering : ℕ → Process
        offering = put r2.procs2 src (with_state (r2.procs2 src) o.after)

        abbrev views_offered : ℕ → View
        views_offered = put views c (offered_more (views c) sent)

        made_offered : Here offering views_offered none_wants
        made_offered = offered p waiting acc ranks done r2.procs2 views none_wants r2.made src few_src c v ab h refl all (even c v ab h)
            (ap (λ (z : Process). z.inside c) at_src ∙ outside src c v ab (with_state (procs src) o.before) kept_out h) o.site x o.after (subst (λ (z : Process). OffersAt z.state o.site c x o.after) (sym at_src) o.step)

        view_offered : views_offered c ≡ offered_more (views c) sent
        view_offered = put-same views c (offered_more (views c) sent)

        even_offered : AreEven p waiting acc ranks done views_offered
        even_offered d w f e = every_put (λ j z. (w : ℕ) (f : Bool) → home N j ≡ Way w f → z.finished ≡ length z.taken) views c (offered_more (views c) sent) (λ w f e. even c w f e) (λ j ne w f e. even j w f e) d w f e

        offers_it : (views_offered c).offered ≡ (views_offered c).taken ++ sent ∷ []
        offers_it = subst (λ (z : View). z.offered ≡ z.taken ++ sent ∷ []) (sym view_offered) (ap (λ z. z ++ sent ∷ []) (sym all))

        offering_src : offering src ≡ with_state (procs src) o.after
        offering_src = put-same r2.procs2 src (with_state (r2.procs2 src) o.after) ∙ ap (λ z. with_state z o.after) at_src

        offering_snk : offering snk ≡ with_state (procs snk) i.before
        offering_snk = put-other r2.procs2 src (with_state (r2.procs2 src) o.after) snk back ∙ r2.here

        abbrev calm : (m4 : Here offering views_offered none_wants) × HasDelivered p waiting m4.state
        calm = calmed p waiting acc ranks done made_offered even_offered (λ d. refl)

        took_it : Took p waiting acc ranks done offering views_offered none_wants calm.0 snk few_snk c sent i.after
        took_it = took p waiting acc ranks done offering views_offered none_wants calm.0 snk few_snk c v ab h refl calm.1 sent offers_it (even_offered c v ab h) (ap (λ (z : View). z.stopped) view_offered ∙ going) refl
            (ap (λ (z : Process). z.inside c) offering_snk ∙ outside_in) less i.site i.guard y i.after
            (subst (λ (z : Process). TakesAt z.state i.site i.guard c sent y i.after) (sym offering_snk) (subst (λ z. TakesAt i.before i.site i.guard c z y i.after) (sym carries) i.step))
          where
            outside_in : (with_state (procs snk) i.before).inside c ≡ false
            outside_in = outside snk c v ab (with_state (procs snk) i.before) kept_in h

        e : Early o.after c ks out.last
        e = early o.run kept_began.lawful.uses

        abbrev sender_after : Process
        sender_after = with_state (procs src) e.next

        abbrev receiver_after : Process
        receiver_after = with_state (offering snk) i.after

        goes_out : Goes (with_state (procs src) o.after) (Finishes c) sender_after
        goes_out = record { comms = Fin c ∷ []; does = (e.site, refl, e.ends); inside = refl }

        abbrev end_procs : ℕ → Process
        end_procs = put (put offering snk receiver_after) src sender_after

        view_end : (z : View) → z ≡ views_offered c → finished_more (got_more z sent) ≡ exchanged (views c) sent
        view_end z e = ap (λ (w : View). finished_more (got_more w sent)) (e ∙ view_offered)

        views_end : (W : ℕ → View) → W ≡ views_offered → put (put W c (got_more (W c) sent)) c (finished_more (put W c (got_more (W c) sent) c)) ≡ put views c (exchanged (views c) sent)
        views_end W same =
            put_twice W c (got_more (W c) sent) (finished_more (put W c (got_more (W c) sent) c))
            ∙ ap (λ z. put W c (finished_more z)) (put-same W c (got_more (W c) sent))
            ∙ ap (λ z. put W c z) (view_end (W c) (ap (λ f. f c) same))
            ∙ ap (λ f. put f c (exchanged (views c) sent)) same
            ∙ put_twice views c (offered_more (views c) sent) (exchanged (views c) sent)

        same_views : put views_offered c (views_offered c) ≡ views_offered
        same_views = λ k d. every_put (λ j z. z ≡ views_offered j) views_offered c (views_offered c) refl (λ j ne. refl) d k

        lawful_after : (q : Process) (d : ProcessStep) → Goes (offering snk) d q → IsLawful q
        lawful_after q d goes =
            let l = subst IsLawful (sym offering_snk) kept_in.lawful in
            record { uses = doing_keeps_use (offering snk).state q.state d goes.comms goes.does l.uses; sites = doing_keeps (offering snk).state q.state d goes.comms goes.does l.sites }

        ended_made : Here end_procs (put views c (exchanged (views c) sent)) none_wants
        ended_made = elim took_it [
          | at_once m5 ↦ same_made
              (went_through p waiting acc ranks done m5 offering views_offered none_wants c v ab h sent sender_after receiver_after (taken m5.at) ne (subst (λ z. Goes z (Finishes c) sender_after) (sym offering_src) goes_out) (subst IsLawful (sym offering_src) kept_began.lawful) (λ d ne. refl) even_offered offers_it less)
              (λ k. refl) (λ d. ap (λ f. f d) (views_end views_offered refl)) (λ d. idle_still c d)
          | waits q d g1 g2 m5 ↦ (
              let waiting_procs : ℕ → Process = put offering snk q in
              let views_waiting : ℕ → View = put views_offered c (views_offered c) in
              let wants_waiting : ℕ → Bool = put none_wants c true in
              let waits_snk : waiting_procs snk ≡ q = put-same offering snk q in
              let waits_src : waiting_procs src ≡ with_state (procs src) o.after = put-other offering snk q src ne ∙ offering_src in
              let even_waiting : AreEven p waiting acc ranks done views_waiting = subst (AreEven p waiting acc ranks done) (sym same_views) even_offered in
              let offers_still = subst (λ (f : ℕ → View). (f c).offered ≡ (f c).taken ++ sent ∷ []) (sym same_views) offers_it in
              same_made
              (went_through p waiting acc ranks done m5 waiting_procs views_waiting wants_waiting c v ab h sent sender_after receiver_after
              (before (put-same none_wants c true) (subst (λ z. Goes z (Receives c sent) receiver_after) (sym waits_snk) g2) (subst IsLawful (sym waits_snk) (lawful_after q d g1)) m5.at) ne
              (subst (λ z. Goes z (Finishes c) sender_after) (sym waits_src) goes_out) (subst IsLawful (sym waits_src) kept_began.lawful) (λ d ne. put-other none_wants c true d ne) even_waiting offers_still less)
              (λ k. ap (λ f. put f src sender_after k) (put_twice offering snk q receiver_after)) (λ d. ap (λ f. f d) (views_end views_waiting same_views)) (λ d. ap (λ f. f d) (put_twice none_wants c true false) ∙ idle_still c d))
        ]

        passed : Passed ks ls end_src end_snk sent
        passed = record {
          procs2 = end_procs;
          made = ended_made;
          sender = ready_at src sender_after (end_procs src) ks end_src (put-same (put offering snk receiver_after) src sender_after)
              (record { kept = kept_by src (with_state (procs src) o.after) e.next kept_began e.ends; last = out.last; run = e.run; ends = out.ends });
          receiver = ready_at snk (with_state (procs snk) i.after) (end_procs snk) ls end_snk
              (put-other (put offering snk receiver_after) src sender_after snk back ∙ put-same offering snk receiver_after ∙ ap (λ z. with_state z i.after) offering_snk)
              (record { kept = kept_by snk (with_state (procs snk) i.before) i.after kept_in i.step; last = get.last; run = i.run; ends = get.ends });
          others = λ j a b. put-other (put offering snk receiver_after) src sender_after j a ∙ put-other offering snk receiver_after j b ∙ put-other r2.procs2 src (with_state (r2.procs2 src) o.after) j a ∙ r2.others j b ∙ r1.others j a;
        }

    -- ---- all of a list

    record Going (ends : ℕ → End) (hs : List Atomic) (procs : ℕ → Process) (views : ℕ → View) : Type 0 where
      made : Here procs views none_wants
      even : AreEven p waiting acc ranks done views
      all : (d v : ℕ) (ab : Bool) → home N d ≡ Way v ab → (views d).taken ≡ (views d).offered
      ready : (k : ℕ) → k < length p.nodes → Ready k (procs k) (by k (all_comms hs)) (ends k)

    pub record Came (ends : ℕ → End) (target : ℕ → View) : Type 0 where
      pub procs : ℕ → Process
      pub made : Here procs target none_wants
      pub ended : (k : ℕ) → k < length p.nodes → EndsAs (procs k).state (ends k)

    -- the steps without a communication that are left
    record Finished (ends : ℕ → End) (procs : ℕ → Process) (views : ℕ → View) (n : ℕ) : Type 0 where
      procs2 : ℕ → Process
      made : Here procs2 views none_wants
      ended : (k : ℕ) → k < n → EndsAs (procs2 k).state (ends k)
      others : (k : ℕ) → n ≤ k → procs2 k ≡ procs k

    finished : (ends : ℕ → End) (procs : ℕ → Process) (views : ℕ → View) → Here procs views none_wants → ((k : ℕ) → k < length p.nodes → Ready k (procs k) [] (ends k)) → (n : ℕ) → n ≤ length p.nodes → Finished ends procs views n
    finished ends procs views m ready zero few = record { procs2 = procs; made = m; ended = λ k h. absurd (let z : k < 0 = h in omega arith); others = λ k h. refl }
    finished ends procs views m ready (suc n) few =
        let r = finished ends procs views m ready n (omega arith) in
        let h = ready n (omega arith) in
        let t = rests_on n (omega arith) (procs n) r.procs2 views none_wants r.made (procs n).state h.last (r.others n (omega arith)) (rests_only h.run refl) in
        record {
          procs2 = t.procs2;
          made = t.made;
          ended = λ k l. elim (cases_eq k n) [
            | inl e ↦ subst (λ z. EndsAs (t.procs2 z).state (ends z)) (sym e) (subst (λ (z : Process). EndsAs z.state (ends n)) (sym t.here) h.ends)
            | inr ne ↦ subst (λ (z : Process). EndsAs z.state (ends k)) (sym (t.others k ne)) (r.ended k (omega arith))
          ];
          others = λ k l. t.others k (λ e. omega arith) ∙ r.others k (omega arith);
        }

    -- where a channel is after an exchange, and where it is stopped
    abbrev MetIn : (ℕ → View) → ℕ → List ℕ → ℕ → View
    MetIn views c m = put views c (exchanged (views c) m)

    met_even : (views : ℕ → View) (c : ℕ) (m : List ℕ) → AreEven p waiting acc ranks done views → AreEven p waiting acc ranks done (MetIn views c m)
    met_even views c m even d v ab h =
        every_put (λ j z. (v : ℕ) (ab : Bool) → home N j ≡ Way v ab → z.finished ≡ length z.taken) views c (exchanged (views c) m)
        (λ v ab h. (let e = even c v ab h in let a = length-append (views c).taken (m ∷ []) in omega arith)) (λ j ne v ab h. even j v ab h) d v ab h

    met_all : (views : ℕ → View) (c : ℕ) (m : List ℕ) → ((d v : ℕ) (ab : Bool) → home N d ≡ Way v ab → (views d).taken ≡ (views d).offered) → (d v : ℕ) (ab : Bool) → home N d ≡ Way v ab → (MetIn views c m d).taken ≡ (MetIn views c m d).offered
    met_all views c m all d v ab h =
        every_put (λ j z. (v : ℕ) (ab : Bool) → home N j ≡ Way v ab → z.taken ≡ z.offered) views c (exchanged (views c) m) (λ v ab h. ap (λ z. z ++ m ∷ []) (all c v ab h)) (λ j ne v ab h. all j v ab h) d v ab h

    module _ (ends : ℕ → End) (target : ℕ → View) where
      abbrev Leads : (ℕ → View) → List Atomic → Type 0
      Leads views hs = (c : ℕ) → c < length p.channels → DoesAll (views c) (on c (all_comms hs)) (target c)

      met_leads : (views : ℕ → View) (n m c : ℕ) (x y : Datum) (hs : List Atomic) → message x ≡ message y → Leads views (Exchange n m c x y ∷ hs) → Leads (MetIn views c (message x)) hs
      met_leads views n m c x y hs carries h d less =
          let r = (exchange_shown (nat_eq c d) (views d) (target d) (message x) (message y) (on d (all_comms hs)) carries (h d less)).0 in
          after_put views c d (exchanged (views c) (message x)) (λ w. DoesAll w (on d (all_comms hs)) (target d))
          (λ e. subst (λ z. DoesAll (exchanged (views z) (message x)) (on d (all_comms hs)) (target d)) (sym e)
          (subst (λ b. DoesAll (if b then exchanged (views d) (message x) else views d) (on d (all_comms hs)) (target d)) (eq-eqb c d e) r))
          (λ ne. subst (λ b. DoesAll (if b then exchanged (views d) (message x) else views d) (on d (all_comms hs)) (target d)) (ne_eqb c d ne) r)

      met_going : (views : ℕ → View) (n m c : ℕ) (x y : Datum) (hs : List Atomic) → c < length p.channels → message x ≡ message y → Leads views (Exchange n m c x y ∷ hs) → (views c).stopped ≡ false
      met_going views n m c x y hs less carries h = (exchange_shown (nat_eq c c) (views c) (target c) (message x) (message y) (on c (all_comms hs)) carries (h c less)).1 (eq-eqb c c refl)

      stop_leads : (views : ℕ → View) (n c : ℕ) (hs : List Atomic) → Leads views (Stop n c ∷ hs) → Leads (put views c (stopped_view (views c))) hs
      stop_leads views n c hs h d less =
          let r = stop_shown (nat_eq c d) (views d) (target d) (on d (all_comms hs)) (h d less) in
          after_put views c d (stopped_view (views c)) (λ w. DoesAll w (on d (all_comms hs)) (target d))
          (λ e. subst (λ z. DoesAll (stopped_view (views z)) (on d (all_comms hs)) (target d)) (sym e)
          (subst (λ b. DoesAll (if b then stopped_view (views d) else views d) (on d (all_comms hs)) (target d)) (eq-eqb c d e) r))
          (λ ne. subst (λ b. DoesAll (if b then stopped_view (views d) else views d) (on d (all_comms hs)) (target d)) (ne_eqb c d ne) r)

      -- what each channel shows is what the list leads to, with one communication more
      met_sees : (views : ℕ → View) (n m c : ℕ) (x y : Datum) (hs : List Atomic) → message x ≡ message y → Sees done views → Leads views (Exchange n m c x y ∷ hs) → Sees (done ++ Exchange n m c x y ∷ []) (MetIn views c (message x))
      met_sees views n m c x y hs carries past h d less =
          let one = Exchange n m c x y in
          let cut = halved (on d (comms_of one)) (on d (all_comms hs)) (views d) (target d) (subst (λ z. DoesAll (views d) z (target d)) (on_first d one hs) (h d less)) in
          let is = (exchange_shown (nat_eq c d) (views d) cut.0 (message x) (message y) [] carries cut.1).0 in
          let seen = subst (λ z. DoesAll nothing_yet z cut.0) (sym (on_last d done one)) (does_append nothing_yet (views d) cut.0 (on d (all_comms done)) (on d (comms_of one)) (past d less) cut.1) in
          after_put views c d (exchanged (views c) (message x)) (λ w. DoesAll nothing_yet (on d (all_comms (done ++ one ∷ []))) w)
          (λ e. subst (λ z. DoesAll nothing_yet (on d (all_comms (done ++ one ∷ []))) (exchanged (views z) (message x))) (sym e)
          (subst (DoesAll nothing_yet (on d (all_comms (done ++ one ∷ [])))) (is ∙ ap (λ b. if b then exchanged (views d) (message x) else views d) (eq-eqb c d e)) seen))
          (λ ne. subst (DoesAll nothing_yet (on d (all_comms (done ++ one ∷ [])))) (is ∙ ap (λ b. if b then exchanged (views d) (message x) else views d) (ne_eqb c d ne)) seen)

      stop_sees : (views : ℕ → View) (n c : ℕ) (hs : List Atomic) → Sees done views → Leads views (Stop n c ∷ hs) → Sees (done ++ Stop n c ∷ []) (put views c (stopped_view (views c)))
      stop_sees views n c hs past h d less =
          let one = Stop n c in
          let cut = halved (on d (comms_of one)) (on d (all_comms hs)) (views d) (target d) (subst (λ z. DoesAll (views d) z (target d)) (on_first d one hs) (h d less)) in
          let is = stop_shown (nat_eq c d) (views d) cut.0 [] cut.1 in
          let seen = subst (λ z. DoesAll nothing_yet z cut.0) (sym (on_last d done one)) (does_append nothing_yet (views d) cut.0 (on d (all_comms done)) (on d (comms_of one)) (past d less) cut.1) in
          after_put views c d (stopped_view (views c)) (λ w. DoesAll nothing_yet (on d (all_comms (done ++ one ∷ []))) w)
          (λ e. subst (λ z. DoesAll nothing_yet (on d (all_comms (done ++ one ∷ []))) (stopped_view (views z))) (sym e)
          (subst (DoesAll nothing_yet (on d (all_comms (done ++ one ∷ [])))) (is ∙ ap (λ b. if b then stopped_view (views d) else views d) (eq-eqb c d e)) seen))
          (λ ne. subst (DoesAll nothing_yet (on d (all_comms (done ++ one ∷ [])))) (is ∙ ap (λ b. if b then stopped_view (views d) else views d) (ne_eqb c d ne)) seen)

      -- who communicates is a node of the plan
      a_node : (n : ℕ) (hs : List Atomic) (k : Comm) (ks : List Comm) → ((j : ℕ) → length p.nodes ≤ j → by j (all_comms hs) ≡ []) → by n (all_comms hs) ≡ k ∷ ks → n < length p.nodes
      a_node n hs k ks none e = elim (cases_lt n (length p.nodes)) [
        | inl less ↦ less
        | inr past ↦ absurd (let z : [] ≡ k ∷ ks = sym (none n past) ∙ e in cc)
      ]

      as_list : {k : ℕ} {q : Process} {ks ls : List Comm} {x : End} → ks ≡ ls → Ready k q ks x → Ready k q ls x
      as_list {k} {q} {ks} {ls} {x} e h = subst (λ z. Ready k q z x) e h

      out_use : (n c : ℕ) (q : Process) (x : Datum) (ks : List Comm) (e : End) → n < length p.nodes → Ready n q (Out c x ∷ ks) e → Use n c true
      out_use n c q x ks e few h = let o = next_out h.run in outputs_to n c (with_state q o.before) few (kept_rests n q h.kept o.rests) (offer_on o.step)

      in_use : (n c : ℕ) (q : Process) (y : Datum) (ks : List Comm) (e : End) → n < length p.nodes → Ready n q (In c y ∷ ks) e → Use n c false
      in_use n c q y ks e few h = let o = next_in h.run in inputs_from n c (with_state q o.before) few (kept_rests n q h.kept o.rests) (takes_on o.site o.guard c (message y) y o.before o.after o.step)

      -- the step of the list, and what is known of the rest
      record Stepped (h : Atomic) (hs : List Atomic) (old : ℕ → View) : Type 0 where
        procs : ℕ → Process
        views : ℕ → View
        going : Going ends hs procs views
        leads : Leads views hs
        sees : Sees done old → Sees (done ++ h ∷ []) views

      stop_step : (n c : ℕ) (hs : List Atomic) (procs : ℕ → Process) (views : ℕ → View) → n < length p.nodes → Going ends (Stop n c ∷ hs) procs views → Leads views (Stop n c ∷ hs) → Stepped (Stop n c) hs views
      stop_step n c hs procs views few g leads =
          let R = all_comms hs in
          let at : by n (all_comms (Stop n c ∷ hs)) ≡ Stp c ∷ by n R = ap (λ b. if b then Stp c ∷ by n R else by n R) (eq-eqb n n refl) in
          let w = stops_here n c few procs views g.made (by n R) (ends n) (as_list at (g.ready n few)) in
          let views2 = put views c (stopped_view (views c)) in
          record {
            procs = w.procs2;
            views = views2;
            going = record {
              made = w.made;
              even = λ d v ab h. every_put (λ j z. (v : ℕ) (ab : Bool) → home N j ≡ Way v ab → z.finished ≡ length z.taken) views c (stopped_view (views c)) (λ v ab h. g.even c v ab h) (λ j ne v ab h. g.even j v ab h) d v ab h;
              all = λ d v ab h. every_put (λ j z. (v : ℕ) (ab : Bool) → home N j ≡ Way v ab → z.taken ≡ z.offered) views c (stopped_view (views c)) (λ v ab h. g.all c v ab h) (λ j ne v ab h. g.all j v ab h) d v ab h;
              ready = λ k l. elim (cases_eq k n) [
                | inl e ↦ subst (λ z. Ready z (w.procs2 z) (by z R) (ends z)) (sym e) w.ready
                | inr ne ↦ ready_at k (procs k) (w.procs2 k) (by k R) (ends k) (w.others k ne) (as_list (ap (λ b. if b then Stp c ∷ by k R else by k R) (ne_eqb n k (λ e. ne (sym e)))) (g.ready k l))
              ];
            };
            leads = stop_leads views n c hs leads;
            sees = λ past. stop_sees views n c hs past leads;
          }

      inside_step : (n c : ℕ) (x y : Datum) (hs : List Atomic) (procs : ℕ → Process) (views : ℕ → View) → n < length p.nodes → message x ≡ message y → Going ends (Exchange n n c x y ∷ hs) procs views → Leads views (Exchange n n c x y ∷ hs) → Stepped (Exchange n n c x y) hs views
      inside_step n c x y hs procs views few carries g leads =
          let R = all_comms hs in
          let at : by n (all_comms (Exchange n n c x y ∷ hs)) ≡ Out c x ∷ In c y ∷ Fin c ∷ by n R = ap (λ b. Three b b (Out c x) (In c y) (Fin c) (by n R)) (eq-eqb n n refl) in
          let h = as_list at (g.ready n few) in
          let less = (out_use n c (procs n) x (In c y ∷ Fin c ∷ by n R) (ends n) few h).less in
          let w = meets_here n c few procs views g.made (by n R) (ends n) x y carries (met_going views n n c x y hs less carries leads) h in
          record {
            procs = w.procs2;
            views = MetIn views c (message x);
            going = record {
              made = w.made;
              even = met_even views c (message x) g.even;
              all = met_all views c (message x) g.all;
              ready = λ k l. elim (cases_eq k n) [
                | inl e ↦ subst (λ z. Ready z (w.procs2 z) (by z R) (ends z)) (sym e) w.ready
                | inr ne ↦ ready_at k (procs k) (w.procs2 k) (by k R) (ends k) (w.others k ne) (as_list (ap (λ b. Three b b (Out c x) (In c y) (Fin c) (by k R)) (ne_eqb n k (λ e. ne (sym e)))) (g.ready k l))
              ];
            };
            leads = met_leads views n n c x y hs carries leads;
            sees = λ past. met_sees views n n c x y hs carries past leads;
          }

      way_step : (n m c v : ℕ) (ab : Bool) (x y : Datum) (hs : List Atomic) (procs : ℕ → Process) (views : ℕ → View) → n < length p.nodes → m < length p.nodes → c < length p.channels → home N c ≡ Way v ab → source_node N (Way v ab) ≡ n → sink_node N (Way v ab) ≡ m →
          message x ≡ message y → Going ends (Exchange n m c x y ∷ hs) procs views → Leads views (Exchange n m c x y ∷ hs) → Ready n (procs n) (Out c x ∷ Fin c ∷ by n (all_comms hs)) (ends n) → Ready m (procs m) (In c y ∷ by m (all_comms hs)) (ends m) → Stepped (Exchange n m c x y) hs views
      way_step n m c v ab x y hs procs views fn fm less h kn km carries g leads out get =
          let R = all_comms hs in
          let w = passed procs views g.made c v ab h (subst (λ z. z < length p.nodes) (sym kn) fn) (subst (λ z. z < length p.nodes) (sym km) fm) less x y carries (met_going views n m c x y hs less carries leads) g.even (g.all c v ab h)
          (by n R) (by m R) (ends n) (ends m) (subst (λ z. Ready z (procs z) (Out c x ∷ Fin c ∷ by n R) (ends n)) (sym kn) out) (subst (λ z. Ready z (procs z) (In c y ∷ by m R) (ends m)) (sym km) get) in
          record {
            procs = w.procs2;
            views = MetIn views c (message x);
            going = record {
              made = w.made;
              even = met_even views c (message x) g.even;
              all = met_all views c (message x) g.all;
              ready = λ k l. elim (cases_eq k n) [
                | inl e ↦ subst (λ z. Ready z (w.procs2 z) (by z R) (ends z)) (sym e) (subst (λ z. Ready z (w.procs2 z) (by n R) (ends n)) kn w.sender)
                | inr ne ↦ elim (cases_eq k m) [
                  | inl e ↦ subst (λ z. Ready z (w.procs2 z) (by z R) (ends z)) (sym e) (subst (λ z. Ready z (w.procs2 z) (by m R) (ends m)) km w.receiver)
                  | inr ne2 ↦ ready_at k (procs k) (w.procs2 k) (by k R) (ends k) (w.others k (λ e. ne (e ∙ kn)) (λ e. ne2 (e ∙ km)))
                      (as_list (ap₂ (λ a b. Three a b (Out c x) (In c y) (Fin c) (by k R)) (ne_eqb n k (λ e. ne (sym e))) (ne_eqb m k (λ e. ne2 (sym e)))) (g.ready k l))
                ]
              ];
            };
            leads = met_leads views n m c x y hs carries leads;
            sees = λ past. met_sees views n m c x y hs carries past leads;
          }

      apart_step : (n m c : ℕ) (x y : Datum) (hs : List Atomic) (procs : ℕ → Process) (views : ℕ → View) → n ≢ m → n < length p.nodes → m < length p.nodes → message x ≡ message y → Going ends (Exchange n m c x y ∷ hs) procs views → Leads views (Exchange n m c x y ∷ hs) → Stepped (Exchange n m c x y) hs views
      apart_step n m c x y hs procs views ne fn fm carries g leads =
          let R = all_comms hs in
          let out = as_list (ap₂ (λ a b. Three a b (Out c x) (In c y) (Fin c) (by n R)) (eq-eqb n n refl) (ne_eqb m n (λ e. ne (sym e)))) (g.ready n fn) in
          let get = as_list (ap₂ (λ a b. Three a b (Out c x) (In c y) (Fin c) (by m R)) (ne_eqb n m ne) (eq-eqb m m refl)) (g.ready m fm) in
          let use1 = out_use n c (procs n) x (Fin c ∷ by n R) (ends n) fn out in
          let use2 = in_use m c (procs m) y (by m R) (ends m) fm get in
          by_ends use1.less out get (out_of n c use1) (into m c use2)
        where
          by_ends : c < length p.channels → Ready n (procs n) (Out c x ∷ Fin c ∷ by n (all_comms hs)) (ends n) → Ready m (procs m) (In c y ∷ by m (all_comms hs)) (ends m) → OutOf n c → InTo m c → Stepped (Exchange n m c x y) hs views
          by_ends less out get (out_way v ab e k) (in_way w f e2 k2) = way_step n m c v ab x y hs procs views fn fm less e k (ap (sink_node N) (sym e ∙ e2) ∙ k2) carries g leads out get
          by_ends less out get (out_inside e) (in_inside e2) = absurd (ne (let z : Inside n ≡ Inside m = sym e ∙ e2 in cc))
          by_ends less out get (out_way v ab e k) (in_inside e2) = absurd (let z : Way v ab ≡ Inside m = sym e ∙ e2 in cc)
          by_ends less out get (out_inside e) (in_way w f e2 k2) = absurd (let z : Inside n ≡ Way w f = sym e ∙ e2 in cc)

      exchange_step : (n m c : ℕ) (x y : Datum) (hs : List Atomic) (procs : ℕ → Process) (views : ℕ → View) → n < length p.nodes → m < length p.nodes → message x ≡ message y → Going ends (Exchange n m c x y ∷ hs) procs views → Leads views (Exchange n m c x y ∷ hs) → Stepped (Exchange n m c x y) hs views
      exchange_step n m c x y hs procs views fn fm carries g leads = elim (cases_eq n m) [
        | inl e ↦ subst (λ z. Stepped (Exchange n z c x y) hs views) e
            (inside_step n c x y hs procs views fn carries (subst (λ z. Going ends (Exchange n z c x y ∷ hs) procs views) (sym e) g) (subst (λ z. Leads views (Exchange n z c x y ∷ hs)) (sym e) leads))
        | inr ne ↦ apart_step n m c x y hs procs views ne fn fm carries g leads
      ]

      -- whose part is empty in the rest
      rest_none : (h : Atomic) (hs : List Atomic) (j : ℕ) → by j (all_comms (h ∷ hs)) ≡ [] → by j (all_comms hs) ≡ []
      rest_none (Stop n c) hs j e = by_test (n == j) e
        where
          by_test : (b : Bool) → (if b then Stp c ∷ by j (all_comms hs) else by j (all_comms hs)) ≡ [] → by j (all_comms hs) ≡ []
          by_test true e = absurd (cc)
          by_test false e = e
      rest_none (Exchange n m c x y) hs j e = by_test (n == j) (m == j) e
        where
          by_test : (a b : Bool) → Three a b (Out c x) (In c y) (Fin c) (by j (all_comms hs)) ≡ [] → by j (all_comms hs) ≡ []
          by_test true b e = absurd (cc)
          by_test false true e = absurd (cc)
          by_test false false e = e

      receiver_there : (n m c : ℕ) (x y : Datum) (hs : List Atomic) → ((j : ℕ) → length p.nodes ≤ j → by j (all_comms (Exchange n m c x y ∷ hs)) ≡ []) → m < length p.nodes
      receiver_there n m c x y hs none = elim (cases_lt m (length p.nodes)) [
        | inl less ↦ less
        | inr past ↦ absurd (some (n == m) (subst (λ b. Three (n == m) b (Out c x) (In c y) (Fin c) (by m (all_comms hs)) ≡ []) (eq-eqb m m refl) (none m past)))
      ]
        where
          some : (a : Bool) → Three a true (Out c x) (In c y) (Fin c) (by m (all_comms hs)) ≡ [] → ⊥
          some true e = absurd (cc)
          some false e = absurd (cc)

      sender_there : (n m c : ℕ) (x y : Datum) (hs : List Atomic) → ((j : ℕ) → length p.nodes ≤ j → by j (all_comms (Exchange n m c x y ∷ hs)) ≡ []) → n < length p.nodes
      sender_there n m c x y hs none = elim (cases_lt n (length p.nodes)) [
        | inl less ↦ less
        | inr past ↦ absurd (some (m == n) (subst (λ a. Three a (m == n) (Out c x) (In c y) (Fin c) (by n (all_comms hs)) ≡ []) (eq-eqb n n refl) (none n past)))
      ]
        where
          some : (b : Bool) → Three true b (Out c x) (In c y) (Fin c) (by n (all_comms hs)) ≡ [] → ⊥
          some b e = absurd (cc)

  -- one communication of the list more is done
  one_more_done : (done : List Atomic) (h : Atomic) (ends : ℕ → End) (hs : List Atomic) (procs : ℕ → Process) (views : ℕ → View) → Going done ends hs procs views → Sees (done ++ h ∷ []) views → Going (done ++ h ∷ []) ends hs procs views
  one_more_done done h ends hs procs views g sees =
      let m = g.made in
      record {
        made = record {
          state = m.state;
          past = m.past;
          happen = m.happen;
          order = order_more p waiting done h m.past m.state m.order m.happen (λ c less. subst (DoesAll nothing_yet (on c (all_comms (done ++ h ∷ [])))) (sym (m.at.shows c)) (sees c less));
          arrived = m.arrived;
          at = m.at;
        };
        even = g.even;
        all = g.all;
        ready = g.ready;
      }

  module _ (ends : ℕ → End) (target : ℕ → View) where
    record AllDone (whole : List Atomic) : Type 0 where
      views : ℕ → View
      came : Came whole ends views
      are : (c : ℕ) → c < length p.channels → views c ≡ target c

    all_done : (whole done hs : List Atomic) (procs : ℕ → Process) (views : ℕ → View) → done ++ hs ≡ whole → AreFaithful hs → ((j : ℕ) → length p.nodes ≤ j → by j (all_comms hs) ≡ []) →
        Going done ends hs procs views → Sees done views → Leads done ends target views hs → AllDone whole
    all_done whole done [] procs views cut faithful none g sees leads =
        let f = finished done ends procs views g.made g.ready (length p.nodes) (omega arith) in
        record {
          views = views;
          came = subst (λ z. Came z ends views) (sym (append-nil done) ∙ cut) (record { procs = f.procs2; made = f.made; ended = f.ended });
          are = λ c less. sym (leads c less);
        }
    all_done whole done (Stop n c ∷ hs) procs views cut faithful none g sees leads =
        let one = Stop n c in
        let at : by n (all_comms (one ∷ hs)) ≡ Stp c ∷ by n (all_comms hs) = ap (λ b. if b then Stp c ∷ by n (all_comms hs) else by n (all_comms hs)) (eq-eqb n n refl) in
        let s = stop_step done ends target n c hs procs views (a_node done ends target n (one ∷ hs) (Stp c) (by n (all_comms hs)) none at) g leads in
        let seen = s.sees sees in
        all_done whole (done ++ one ∷ []) hs s.procs s.views (append_assoc done (one ∷ []) hs ∙ cut) faithful.1 (λ j past. rest_none done ends target one hs j (none j past))
        (one_more_done done one ends hs s.procs s.views s.going seen) seen s.leads
    all_done whole done (Exchange n m c x y ∷ hs) procs views cut faithful none g sees leads =
        let one = Exchange n m c x y in
        let s = exchange_step done ends target n m c x y hs procs views (sender_there done ends target n m c x y hs none) (receiver_there done ends target n m c x y hs none) faithful.0 g leads in
        let seen = s.sees sees in
        all_done whole (done ++ one ∷ []) hs s.procs s.views (append_assoc done (one ∷ []) hs ∙ cut) faithful.1 (λ j past. rest_none done ends target one hs j (none j past))
        (one_more_done done one ends hs s.procs s.views s.going seen) seen s.leads

  -- ---- from the opening state

  opening : Here [] (begin_of p) (λ c. nothing_yet) none_wants
  opening =
      let s = begins N (begin_of p) in
      let none : HappenAll N waiting does s [] s = record { states = λ n. refl; ways = λ w. refl } in
      record {
        state = s;
        past = [];
        happen = none;
        order = order_first p waiting (λ c less. first_view N (begin_of p) c);
        arrived = arrived p waiting acc [] s none;
        at = record {
          node = λ k less. (record { vcp = new_vcp; process = begin_of p k; inner = λ c. nothing_yet }, first_node N (begin_of p) k less, refl);
          shows = λ d. first_view N (begin_of p) d;
          inputs = λ d v ab h. ap (λ (z : Vcp). (z.carrier.into d).wants) (first_vcp p (sink_node N (home N d)));
        };
      }

  first_ready : (ends : ℕ → End) (k : ℕ) (ks : List Comm) → k < length p.nodes → Trace (process_of k) (begin_of p k).state.store ks (ends k) → Ready k (begin_of p k) ks (ends k)
  first_ready ends k ks less trace =
      let lawfully = acc.lawful_use k (node_plan p k) (plan_there k less) in
      let m = traces_made trace lawfully in
      let b = begin_in (process_of k) in
      record {
        kept = record { lawful = record { uses = begins_lawful (process_of k) lawfully; sites = at_first (node_plan p k).process }; inside = refl; outputs = b.output; inputs = b.input };
        last = m.last;
        run = m.run;
        ends = m.ends;
      }

pub do_all : FreeNetworksDoAll
do_all p waiting ends shown hs acc ranks possible =
    let r = all_done p waiting acc ranks ends shown hs [] hs (begin_of p) (λ c. nothing_yet) refl possible.faithful possible.by_no_other
    (record {
      made = opening p waiting acc ranks;
      even = λ d v ab h. refl;
      all = λ d v ab h. refl;
      ready = λ k less. first_ready p waiting acc ranks ends k (by k (all_comms hs)) less (possible.by_node k less);
    }) (λ c less. refl) possible.on_channel in
    let m = r.came.made in
    record {
      events = m.past;
      end = m.state;
      happen = m.happen;
      order = m.order;
      on_channel = λ c less. m.at.shows c ∙ r.are c less;
      by_node = λ n less. (let x = m.at.node n less in (x.0, x.1, subst (λ (z : Process). EndsAs z.state (ends n)) (sym x.2) (r.came.ended n less)));
    }
