-- A stage: what process each node has, what each channel shows, and on which channels a process inputs. An event that is no move of a
-- process stays at the stage, or a message comes, or an output is finished.
use Rattle.std.proofs.Common.{◌≡◌, ℕ, suc, ◌<◌, Bool, true, false, not, List, [], ◌∷◌, ◌++◌, length, Some, None, inl, inr, refl, sym, ap, subst, ◌∙◌, arith, ◌==◌, if◌then◌else◌, eqb-true}
use Rattle.std.proofs.lemmas.Bool.{cases_eq}
use Rattle.vc_accepted.specs.NetworkOf.{network_of}
use Rattle.vc_accepted.specs.Process.{Process, does, Goes}
use Rattle.vc_free.proofs.Outcomes.{SameOut, SameIn, finished_out, completed_in, Outcome, nothing, completes, finishes, outcome}
use Rattle.vc_free.specs.Delivery.{in_half}
use Rattle.vc_machine.proofs.Basics.{every_put}
use Rattle.vc_machine.specs.Rendezvous.{View}
use Rattle.vc_network.specs.Actors.{Label, Network, Step, act_of}
use Rattle.vc_network.specs.Network.{Act, Node, Actor, IsNode, IsSwitch, Local}
use Rattle.vc_network.specs.Plan as network
use Rattle.vc_network.specs.Plan.{Home, Way, Inside, home, ends, end_of, end_here, virtual_link, input_end, output_end}
use Rattle.vc_network.specs.Still.{IsNoMove}
use Rattle.vc_network.specs.Views.{vcp_of, inner_of, vcps, source_node, sink_node, halves_view, view_at, view}
use Rattle.vc_packets.specs.Functions.{put}
use Rattle.vc_plan.specs.declared.plan.Plan.{Plan}
use Rattle.vc_process.specs.ProcessStep.{Finishes, Receives}
use Rattle.vc_switch.specs.Switch.{Switch}
use Rattle.vc_switch.specs.Waiting.{Waiting}
use Rattle.vc_tokens.specs.Tokens.{Token}
use Rattle.vc_vcp.specs.Carrier.{End, OutHalf, InHalf}
use Rattle.vc_placement.proofs.OneNode.{same_node}

abbrev pub State : Type 0
State = Network (Actor Process) Token

abbrev pub got_more : View → List ℕ → View
got_more v m = record v { taken = v.taken ++ m ∷ [] }

abbrev pub finished_more : View → View
finished_more v = record v { finished = suc v.finished }

pub record IsAt (p : Plan) (s : State) (procs : ℕ → Process) (views : ℕ → View) (wants : ℕ → Bool) : Type 0 where
  pub node : (k : ℕ) → k < length p.nodes → (a : Node Process) × (s.state k ≡ IsNode a) × (a.process ≡ procs k)
  pub shows : (d : ℕ) → view (network_of p) s d ≡ views d
  pub inputs : (d v : ℕ) (ab : Bool) → home (network_of p) d ≡ Way v ab → (in_half p s d).wants ≡ wants d

-- what an event leads to
pub data Leads (p : Plan) (u : State) (procs : ℕ → Process) (views : ℕ → View) (wants : ℕ → Bool) : Type 0 where
  stays_there : IsAt p u procs views wants → Leads p u procs views wants
  comes : (d v : ℕ) (ab : Bool) (m : List ℕ) (q : Process) → home (network_of p) d ≡ Way v ab → wants d ≡ true → Goes (procs (sink_node (network_of p) (Way v ab))) (Receives d m) q →
      IsAt p u (put procs (sink_node (network_of p) (Way v ab)) q) (put views d (got_more (views d) m)) (put wants d false) → Leads p u procs views wants
  ended : (d v : ℕ) (ab : Bool) (q : Process) → home (network_of p) d ≡ Way v ab → Goes (procs (source_node (network_of p) (Way v ab))) (Finishes d) q →
      IsAt p u (put procs (source_node (network_of p) (Way v ab)) q) (put views d (finished_more (views d))) wants → Leads p u procs views wants

here_is : (n : ℕ) (e : network.End) (x : End) → end_here n e ≡ Some x → e.node ≡ n
here_is n e x h = by_test (e.node == n) refl h
  where
    by_test : (b : Bool) → (e.node == n) ≡ b → (if b then Some (record { link = e.link; block = e.block; route = e.route }) else None) ≡ Some x → e.node ≡ n
    by_test true t h = eqb-true e.node n t
    by_test false t h = absurd (cc)

pub output_here : (plan : network.Plan) (n d : ℕ) (x : End) → (ends plan n).output d ≡ Some x → (v : ℕ) × (ab : Bool) × (home plan d ≡ Way v ab) × (source_node plan (Way v ab) ≡ n)
output_here plan n d x h = by_home (home plan d) refl h
  where
    by_home : (o : Home) → home plan d ≡ o → output_end plan n o ≡ Some x → (v : ℕ) × (ab : Bool) × (home plan d ≡ Way v ab) × (source_node plan (Way v ab) ≡ n)
    by_home (Way v ab) e h = (v, ab, e, here_is n (end_of (virtual_link plan v) ab) x h)
    by_home (Inside m) e h = absurd (cc)

pub input_here : (plan : network.Plan) (n d : ℕ) (x : End) → (ends plan n).input d ≡ Some x → (v : ℕ) × (ab : Bool) × (home plan d ≡ Way v ab) × (sink_node plan (Way v ab) ≡ n)
input_here plan n d x h = by_home (home plan d) refl h
  where
    by_home : (o : Home) → home plan d ≡ o → input_end plan n o ≡ Some x → (v : ℕ) × (ab : Bool) × (home plan d ≡ Way v ab) × (sink_node plan (Way v ab) ≡ n)
    by_home (Way v ab) e h = (v, ab, e, here_is n (end_of (virtual_link plan v) (not ab)) x h)
    by_home (Inside m) e h = absurd (cc)

same_view : (x x' : OutHalf) (y y' : InHalf) → SameOut x x' → SameIn y y' → halves_view x' y' ≡ halves_view x y
same_view x x' y y' o i = λ j. record { offered = o.offered j; taken = i.taken j; finished = o.finished j; stopped = i.stopped j }

same_out : (x : OutHalf) → SameOut x x
same_out x = record { offered = refl; finished = refl }

same_in : (x : InHalf) → SameIn x x
same_in x = record { wants = refl; stopped = refl; taken = refl }

module _ (p : Plan) (waiting : Waiting) (s u : State) (n : ℕ) (label : Label Act Token) (step : Step (Local (network_of p) waiting does) s n label u) (procs : ℕ → Process) (views : ℕ → View) (wants : ℕ → Bool) (at : IsAt p s procs views wants) where
  abbrev N : network.Plan
  N = network_of p

  abbrev outs : State → ℕ → ℕ → OutHalf
  outs x j d = (vcps x j).carrier.out d

  abbrev ins : State → ℕ → ℕ → InHalf
  ins x j d = (vcps x j).carrier.into d

  vcp_stays : (j : ℕ) → (j ≡ n → ⊥) → vcps s j ≡ vcps u j
  vcp_stays j ne = sym (ap vcp_of (step.others j ne))

  -- views and inputs of channels whose halves show the same
  view_stays : (d : ℕ) → ((j : ℕ) → SameOut (outs s j d) (outs u j d)) → ((j : ℕ) → SameIn (ins s j d) (ins u j d)) → ((j : ℕ) → inner_of (u.state j) d ≡ inner_of (s.state j) d) → view N u d ≡ views d
  view_stays d o i inner = by_home (home N d) ∙ at.shows d
    where
      by_home : (h : Home) → view_at N u d h ≡ view_at N s d h
      by_home (Way v ab) = same_view (outs s (source_node N (Way v ab)) d) (outs u (source_node N (Way v ab)) d) (ins s (sink_node N (Way v ab)) d) (ins u (sink_node N (Way v ab)) d) (o (source_node N (Way v ab))) (i (sink_node N (Way v ab)))
      by_home (Inside m) = inner m

  input_stays : (d : ℕ) → ((j : ℕ) → SameIn (ins s j d) (ins u j d)) → (v : ℕ) (ab : Bool) → home N d ≡ Way v ab → (in_half p u d).wants ≡ wants d
  input_stays d i v ab e = (let k = i (sink_node N (home N d)) in k.wants) ∙ at.inputs d v ab e

  node_stays : (k : ℕ) → (k ≡ n → ⊥) → k < length p.nodes → (a : Node Process) × (u.state k ≡ IsNode a) × (a.process ≡ procs k)
  node_stays k ne less = let a = at.node k less in (a.0, step.others k ne ∙ a.1, a.2)

  -- a switch's step
  by_switch : (a b : Switch) → s.state n ≡ IsSwitch a → u.state n ≡ IsSwitch b → ((k : ℕ) → k < length p.nodes → k ≡ n → ⊥) → Leads p u procs views wants
  by_switch a b ea eb past =
      let same : (j : ℕ) → vcps s j ≡ vcps u j = λ j. elim (cases_eq j n) [
        | inl e ↦ ap (λ z. vcp_of (s.state z)) e ∙ ap vcp_of ea ∙ sym (ap vcp_of eb) ∙ sym (ap (λ z. vcp_of (u.state z)) e)
        | inr ne ↦ vcp_stays j ne
      ] in
      let inner : (d j : ℕ) → inner_of (u.state j) d ≡ inner_of (s.state j) d = λ d j. elim (cases_eq j n) [
        | inl e ↦ ap (λ z. inner_of (u.state z) d) e ∙ ap (λ z. inner_of z d) eb ∙ sym (ap (λ z. inner_of z d) ea) ∙ sym (ap (λ z. inner_of (s.state z) d) e)
        | inr ne ↦ ap (λ z. inner_of z d) (step.others j ne)
      ] in
      let o : (d j : ℕ) → SameOut (outs s j d) (outs u j d) = λ d j. subst (λ z. SameOut (outs s j d) (z.carrier.out d)) (same j) (same_out (outs s j d)) in
      let i : (d j : ℕ) → SameIn (ins s j d) (ins u j d) = λ d j. subst (λ z. SameIn (ins s j d) (z.carrier.into d)) (same j) (same_in (ins s j d)) in
      stays_there (record {
        node = λ k less. node_stays k (past k less) less;
        shows = λ d. view_stays d (o d) (i d) (inner d);
        inputs = λ d v ab e. input_stays d (i d) v ab e;
      })

  module _ (few : n < length p.nodes) (a b : Node Process) (ea : s.state n ≡ IsNode a) (eb : u.state n ≡ IsNode b) where
    -- halves at node n, and at all nodes
    out_at : (d j : ℕ) → SameOut (a.vcp.carrier.out d) (b.vcp.carrier.out d) → SameOut (outs s j d) (outs u j d)
    out_at d j h = elim (cases_eq j n) [
      | inl e ↦ subst (λ z. SameOut (outs s z d) (outs u z d)) (sym e) (subst (λ z. SameOut (z.carrier.out d) (outs u n d)) (sym (ap vcp_of ea)) (subst (λ z. SameOut (a.vcp.carrier.out d) (z.carrier.out d)) (sym (ap vcp_of eb)) h))
      | inr ne ↦ subst (λ z. SameOut (outs s j d) (z.carrier.out d)) (vcp_stays j ne) (same_out (outs s j d))
    ]

    in_at : (d j : ℕ) → SameIn (a.vcp.carrier.into d) (b.vcp.carrier.into d) → SameIn (ins s j d) (ins u j d)
    in_at d j h = elim (cases_eq j n) [
      | inl e ↦ subst (λ z. SameIn (ins s z d) (ins u z d)) (sym e) (subst (λ z. SameIn (z.carrier.into d) (ins u n d)) (sym (ap vcp_of ea)) (subst (λ z. SameIn (a.vcp.carrier.into d) (z.carrier.into d)) (sym (ap vcp_of eb)) h))
      | inr ne ↦ subst (λ z. SameIn (ins s j d) (z.carrier.into d)) (vcp_stays j ne) (same_in (ins s j d))
    ]

    inner_at : (d j : ℕ) → b.inner d ≡ a.inner d → inner_of (u.state j) d ≡ inner_of (s.state j) d
    inner_at d j h = elim (cases_eq j n) [
      | inl e ↦ ap (λ z. inner_of (u.state z) d) e ∙ ap (λ z. inner_of z d) eb ∙ h ∙ sym (ap (λ z. inner_of z d) ea) ∙ sym (ap (λ z. inner_of (s.state z) d) e)
      | inr ne ↦ ap (λ z. inner_of z d) (step.others j ne)
    ]

    pub process_was : a.process ≡ procs n
    process_was = let r = at.node n few in ap (λ (z : Node Process). z.process) (same_node a r.0 (sym ea ∙ r.1)) ∙ r.2

    nodes_are : (q : Process) → b.process ≡ q → (k : ℕ) → k < length p.nodes → (x : Node Process) × (u.state k ≡ IsNode x) × (x.process ≡ put procs n q k)
    nodes_are q e k less = every_put (λ j y. j < length p.nodes → (x : Node Process) × (u.state j ≡ IsNode x) × (x.process ≡ y)) procs n q (λ l. (b, eb, e)) (λ j ne l. node_stays j ne l) k less

    -- no channel changes
    pub process_changes : (q : Process) → b.process ≡ q → ((d : ℕ) → SameOut (a.vcp.carrier.out d) (b.vcp.carrier.out d)) → ((d : ℕ) → SameIn (a.vcp.carrier.into d) (b.vcp.carrier.into d)) → ((d : ℕ) → b.inner d ≡ a.inner d) →
        IsAt p u (put procs n q) views wants
    process_changes q e o i inner = record {
      node = nodes_are q e;
      shows = λ d. view_stays d (λ j. out_at d j (o d)) (λ j. in_at d j (i d)) (λ j. inner_at d j (inner d));
      inputs = λ d v ab h. input_stays d (λ j. in_at d j (i d)) v ab h;
    }

    -- the half that outputs on a channel changes
    pub out_changes : (q : Process) → b.process ≡ q → (d v : ℕ) (ab : Bool) → home N d ≡ Way v ab → source_node N (Way v ab) ≡ n → (F : OutHalf → OutHalf) (G : View → View) → ((x : OutHalf) (y : InHalf) → halves_view (F x) y ≡ G (halves_view x y)) →
        SameOut (F (a.vcp.carrier.out d)) (b.vcp.carrier.out d) → ((j : ℕ) → (j ≡ d → ⊥) → SameOut (a.vcp.carrier.out j) (b.vcp.carrier.out j)) → ((j : ℕ) → SameIn (a.vcp.carrier.into j) (b.vcp.carrier.into j)) → ((j : ℕ) → b.inner j ≡ a.inner j) →
        IsAt p u (put procs n q) (put views d (G (views d))) wants
    out_changes q e d v ab h k F G hom o others i inner =
        let snk = sink_node N (Way v ab) in
        let src = source_node N (Way v ab) in
        let was : outs s src d ≡ a.vcp.carrier.out d = ap (λ z. outs s z d) k ∙ ap (λ z. (vcp_of z).carrier.out d) ea in
        let now : outs u src d ≡ b.vcp.carrier.out d = ap (λ z. outs u z d) k ∙ ap (λ z. (vcp_of z).carrier.out d) eb in
        let out_now : SameOut (F (outs s src d)) (outs u src d) = subst (λ z. SameOut (F z) (outs u src d)) (sym was) (subst (SameOut (F (a.vcp.carrier.out d))) (sym now) o) in
        let shown : view N u d ≡ G (views d) =
        ap (view_at N u d) h ∙ same_view (F (outs s src d)) (outs u src d) (ins s snk d) (ins u snk d) out_now (in_at d snk (i d))
        ∙ hom (outs s src d) (ins s snk d) ∙ ap G (sym (ap (view_at N s d) h) ∙ at.shows d) in
        record {
          node = nodes_are q e;
          shows = every_put (λ j y. view N u j ≡ y) views d (G (views d)) shown (λ j ne. view_stays j (λ l. out_at j l (others j ne)) (λ l. in_at j l (i j)) (λ l. inner_at j l (inner j)));
          inputs = λ j w f g. input_stays j (λ l. in_at j l (i j)) w f g;
        }

    -- the half that inputs on a channel changes
    pub in_changes : (q : Process) → b.process ≡ q → (d v : ℕ) (ab : Bool) → home N d ≡ Way v ab → sink_node N (Way v ab) ≡ n → (F : InHalf → InHalf) (G : View → View) → ((x : OutHalf) (y : InHalf) → halves_view x (F y) ≡ G (halves_view x y)) →
        (w : Bool) → ((y : InHalf) → y ≡ a.vcp.carrier.into d → (F y).wants ≡ w) →
        SameIn (F (a.vcp.carrier.into d)) (b.vcp.carrier.into d) → ((j : ℕ) → (j ≡ d → ⊥) → SameIn (a.vcp.carrier.into j) (b.vcp.carrier.into j)) → ((j : ℕ) → SameOut (a.vcp.carrier.out j) (b.vcp.carrier.out j)) → ((j : ℕ) → b.inner j ≡ a.inner j) →
        IsAt p u (put procs n q) (put views d (G (views d))) (put wants d w)
    in_changes q e d v ab h k F G hom w fw i others o inner =
        let snk = sink_node N (Way v ab) in
        let src = source_node N (Way v ab) in
        let was : ins s snk d ≡ a.vcp.carrier.into d = ap (λ z. ins s z d) k ∙ ap (λ z. (vcp_of z).carrier.into d) ea in
        let now : ins u snk d ≡ b.vcp.carrier.into d = ap (λ z. ins u z d) k ∙ ap (λ z. (vcp_of z).carrier.into d) eb in
        let in_now : SameIn (F (ins s snk d)) (ins u snk d) = subst (λ z. SameIn (F z) (ins u snk d)) (sym was) (subst (SameIn (F (a.vcp.carrier.into d))) (sym now) i) in
        let shown : view N u d ≡ G (views d) =
        ap (view_at N u d) h ∙ same_view (outs s src d) (outs u src d) (F (ins s snk d)) (ins u snk d) (out_at d src (o d)) in_now
        ∙ hom (outs s src d) (ins s snk d) ∙ ap G (sym (ap (view_at N s d) h) ∙ at.shows d) in
        record {
          node = nodes_are q e;
          shows = every_put (λ j y. view N u j ≡ y) views d (G (views d)) shown (λ j ne. view_stays j (λ l. out_at j l (o j)) (λ l. in_at j l (others j ne)) (λ l. inner_at j l (inner j)));
          inputs = every_put (λ j y. (x : ℕ) (f : Bool) → home N j ≡ Way x f → (in_half p u j).wants ≡ y) wants d w
              (λ x f g. ap (λ z. (ins u (sink_node N z) d).wants) h ∙ in_now.wants ∙ fw (ins s snk d) was)
              (λ j ne x f g. input_stays j (λ l. in_at j l (others j ne)) x f g);
        }

    -- a channel inside the node changes
    pub inner_changes : (q : Process) → b.process ≡ q → (d : ℕ) → home N d ≡ Inside n → (G : View → View) → b.inner d ≡ G (a.inner d) → ((j : ℕ) → (j ≡ d → ⊥) → b.inner j ≡ a.inner j) → b.vcp ≡ a.vcp →
        IsAt p u (put procs n q) (put views d (G (views d))) wants
    inner_changes q e d h G here others vcp =
        let o : (j : ℕ) → SameOut (a.vcp.carrier.out j) (b.vcp.carrier.out j) = λ j. subst (λ z. SameOut (a.vcp.carrier.out j) (z.carrier.out j)) (sym vcp) (same_out (a.vcp.carrier.out j)) in
        let i : (j : ℕ) → SameIn (a.vcp.carrier.into j) (b.vcp.carrier.into j) = λ j. subst (λ z. SameIn (a.vcp.carrier.into j) (z.carrier.into j)) (sym vcp) (same_in (a.vcp.carrier.into j)) in
        let shown : view N u d ≡ G (views d) =
        ap (view_at N u d) h ∙ ap (λ z. inner_of z d) eb ∙ here ∙ ap G (sym (ap (λ z. inner_of z d) ea) ∙ sym (ap (view_at N s d) h) ∙ at.shows d) in
        record {
          node = nodes_are q e;
          shows = every_put (λ j y. view N u j ≡ y) views d (G (views d)) shown (λ j ne. view_stays j (λ l. out_at j l (o j)) (λ l. in_at j l (i j)) (λ l. inner_at j l (others j ne)));
          inputs = λ j w f g. input_stays j (λ l. in_at j l (i j)) w f g;
        }

    at_sink : (q : Process) (k k2 : ℕ) (v2 : ℕ → View) (w2 : ℕ → Bool) → k ≡ k2 → IsAt p u (put procs k2 q) v2 w2 → IsAt p u (put procs k q) v2 w2
    at_sink q k k2 v2 w2 e h = subst (λ z. IsAt p u (put procs z q) v2 w2) (sym e) h

    by_node : b.inner ≡ a.inner → Outcome (ends N n) a.vcp.carrier a.process b.vcp.carrier b.process → Leads p u procs views wants
    by_node inner (nothing e o i) =
        stays_there (record {
          node = λ k less. elim (cases_eq k n) [
            | inl is ↦ (b, ap u.state is ∙ eb, e ∙ process_was ∙ ap procs (sym is))
            | inr ne ↦ node_stays k ne less
          ];
          shows = λ d. view_stays d (λ j. out_at d j (o d)) (λ j. in_at d j (i d)) (λ j. inner_at d j (ap (λ f. f d) inner));
          inputs = λ d v ab h. input_stays d (λ j. in_at d j (i d)) v ab h;
        })
    by_node inner (completes d m end here wanted goes o i others) =
        let r = input_here N n d end here in
        let snk = sink_node N (Way r.0 r.1) in
        let was : ins s snk d ≡ a.vcp.carrier.into d = ap (λ z. ins s z d) r.3 ∙ ap (λ z. (vcp_of z).carrier.into d) ea in
        comes d r.0 r.1 m b.process r.2
        (sym (at.inputs d r.0 r.1 r.2) ∙ ap (λ z. (ins s (sink_node N z) d).wants) r.2 ∙ ap (λ (z : InHalf). z.wants) was ∙ wanted)
        (subst (λ z. Goes (procs z) (Receives d m) b.process) (sym r.3) (subst (λ z. Goes z (Receives d m) b.process) process_was goes))
        (at_sink b.process snk n (put views d (got_more (views d) m)) (put wants d false) r.3
        (in_changes b.process refl d r.0 r.1 r.2 r.3 (λ x. completed_in x m) (λ x. got_more x m) (λ x y. refl) false (λ y e. refl) i others o (λ j. ap (λ f. f j) inner)))
    by_node inner (finishes d end here goes o others i) =
        let r = output_here N n d end here in
        let src = source_node N (Way r.0 r.1) in
        ended d r.0 r.1 b.process r.2
        (subst (λ z. Goes (procs z) (Finishes d) b.process) (sym r.3) (subst (λ z. Goes z (Finishes d) b.process) process_was goes))
        (at_sink b.process src n (put views d (finished_more (views d))) wants r.3
        (out_changes b.process refl d r.0 r.1 r.2 r.3 finished_out finished_more (λ x y. refl) o others i (λ j. ap (λ f. f j) inner)))

  by_kind : IsNoMove (act_of label) → (x y : Actor Process) → s.state n ≡ x → u.state n ≡ y → Local N waiting does n x label y → Leads p u procs views wants
  by_kind none (IsNode a) (IsNode b) ea eb l = let r = outcome N n a b label none l.1 in by_node l.0 a b ea eb r.1 r.0
  by_kind none (IsSwitch a) (IsSwitch b) ea eb l = by_switch a b ea eb (λ k less is. (let e = l.1 in omega arith))
  by_kind none (IsNode a) (IsSwitch b) ea eb l = absurd l
  by_kind none (IsSwitch a) (IsNode b) ea eb l = absurd l

  pub leads : IsNoMove (act_of label) → Leads p u procs views wants
  leads none = by_kind none (s.state n) (u.state n) refl refl step.local
