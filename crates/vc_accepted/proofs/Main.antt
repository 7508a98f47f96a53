-- After any events one list tells all that the nodes communicate: what an event tells stands behind what was told before it.
use Rattle.std.proofs.Common.{◌≡◌, ℕ, ◌≤◌, ◌<◌, inl, inr, true, false, refl, sym, ap, ap₂, subst, ◌∙◌, Bool, List, [], ◌∷◌, ◌++◌, length, arith, append-nil, append_assoc, if◌then◌else◌, ◌==◌}
use Rattle.std.proofs.lemmas.Bool.{cases_lt}
use Rattle.std.proofs.lemmas.List.{map-append}
use Rattle.vc_network.specs.Actors.{Network, ActBy, Alike}
use Rattle.vc_machine.specs.Links.{Tokens, no_tokens}
use Rattle.vc_machine.specs.Rendezvous.{DoesAll, part, nothing_yet}
use Rattle.vc_network.specs.Network.{Act, Node, Actor, IsNode, HappenAll, begins}
use Rattle.vc_network.specs.Processes.{Trace}
use Rattle.vc_network.specs.Views.{Said, view, said_by, all_said}
use Rattle.vc_network.proofs.Main.{Ran, ran, good_start, first_node, first_view, part_append, does_append}
use Rattle.vc_network.proofs.Nexts.{process_of}
use Rattle.vc_network.proofs.Steps.{Good}
use Rattle.vc_occam.specs.NodeTraces as node
use Rattle.vc_occam.specs.NodeTraces.{so_far}
use Rattle.vc_occam.specs.Remains.{TraceRest}
use Rattle.vc_occam.specs.States.{IsTraced}
use Rattle.vc_process.specs.Numbering.{written}
use Rattle.vc_occam.specs.Traces.{Comm}
use Rattle.vc_occam.proofs.Rests.{begin_is}
use Rattle.vc_occam.proofs.TraceStates.{stands}
use Rattle.vc_plan.specs.declared.plan.Plan.{Plan}
use Rattle.vc_plan.specs.Accepted.{IsAccepted}
use Rattle.vc_plan.specs.Limits.{kinds_of}
use Rattle.vc_accepted.specs.NetworkOf.{network_of}
use Rattle.vc_accepted.proofs.AcceptedNetwork.{accepted}
use Rattle.vc_switch.specs.Waiting.{Waiting}
use Rattle.vc_tokens.specs.Tokens.{Token}
use Rattle.vc_accepted.specs.Begin.{node_plan, begin_of}
use Rattle.vc_accepted.specs.OneList.{by, IsMadeBy, IsTold, IsToldAlong, AllIsTold}
use Rattle.vc_accepted.specs.Process.{Process, does}
use Rattle.vc_accepted.proofs.StepTraces.{AreSaid, IsGood, Leads, trace_told}
use Rattle.vc_accepted.proofs.Concatenation.{AllSaid, one_of_all}
use Rattle.vc_accepted.proofs.Taken.{runs_too}
use Rattle.vc_accepted.proofs.Processes.{kind_on, begins_good}

push_if : (b : Bool) (k : Comm) (xs ys : List Comm) → (if b then k ∷ xs ++ ys else xs ++ ys) ≡ (if b then k ∷ xs else xs) ++ ys
push_if true k xs ys = refl
push_if false k xs ys = refl

pub by_append : (n : ℕ) (ks ls : List (ℕ × Comm)) → by n (ks ++ ls) ≡ by n ks ++ by n ls
by_append n [] ls = refl
by_append n ((m, k) ∷ ks) ls = ap (λ z. if m == n then k ∷ z else z) (by_append n ks ls) ∙ push_if (m == n) k (by n ks) (by n ls)

module _ (p : Plan) (waiting : Waiting) (acc : IsAccepted p) where
  -- what a node has made so far, by its process
  record NodeSoFar (s : Network (Actor Process) Token) (n : ℕ) (made : List Comm) : Type 0 where
    pub node : Node Process
    pub is : s.state n ≡ IsNode node
    pub good : IsGood (kind_on p) (kinds_of (node_plan p n).vars) node.process
    pub inside : node.process.inside ≡ (begin_of p n).inside
    pub leads : Leads (begin_of p n).inside made
    pub traced : IsTraced (begin_of p n).state made node.process.state

  -- what all have said and made so far
  record SoFar (s : Network (Actor Process) Token) (ks : List (ℕ × Comm)) : Type 0 where
    pub tokens : Tokens
    pub good : Good (network_of p) s tokens
    pub said : List Said
    pub told : AllSaid (kind_on p) said ks
    pub nodes : (n : ℕ) → n < length p.nodes → NodeSoFar s n (by n ks)
    pub by_no_other : (n : ℕ) → length p.nodes ≤ n → by n ks ≡ []
    pub views : (c : ℕ) → DoesAll nothing_yet (part c (all_said said)) (view (network_of p) s c)

  -- that is told
  tells : (s : Network (Actor Process) Token) (ks : List (ℕ × Comm)) → SoFar s ks → IsTold p s ks
  tells s ks a = record {
    by_node = λ n less. (let x = a.nodes n less in let now = x.node.process.state in (
      x.node,
      x.is,
      subst (λ z. IsMadeBy p n z now) (append-nil (by n ks))
          (begin_is (written (node_plan p n).process) (x.traced [] (so_far now.rest now.store) (stands (kind_on p) (kinds_of (node_plan p n).vars) now.rest now.store x.good.sound)), x.leads [] tt),
    ));
    by_no_other = a.by_no_other;
    on_channel = λ c. runs_too (kind_on p) c a.said ks (view (network_of p) s c) a.told nothing_yet tt (a.views c);
  }

  all_append : (ks ls : List Said) (xs ys : List (ℕ × Comm)) → AllSaid (kind_on p) ks xs → AllSaid (kind_on p) ls ys → AllSaid (kind_on p) (ks ++ ls) (xs ++ ys)
  all_append [] ls [] ys h k = k
  all_append (l ∷ ks) ls (x ∷ xs) ys h k = (h.0, h.1, all_append ks ls xs ys h.2 k)
  all_append [] ls (x ∷ xs) ys h k = absurd h
  all_append (l ∷ ks) ls [] ys h k = absurd h

  -- one event more
  module _ (s mid : Network (Actor Process) Token) (ks : List (ℕ × Comm)) (a : SoFar s ks) (q : Ran (network_of p) waiting does s mid a.tokens) where
    -- what a node makes by it
    record More (n : ℕ) : Type 0 where
      pub made : List Comm
      pub said : AreSaid (kind_on p) (said_by n q.ks) made
      pub of_node : n < length p.nodes → NodeSoFar mid n (by n ks ++ made)
      pub of_none : length p.nodes ≤ n → made ≡ []

    by_node : (n : ℕ) → n < length p.nodes → More n
    by_node n less =
        let x = a.nodes n less in
        let k = q.good.kinds n less in
        let steps : Trace does x.node.process (said_by n q.ks) k.0.process =
        subst (λ z. Trace does x.node.process (said_by n q.ks) (process_of (begin_of p n) z)) k.1
        (subst (λ z. Trace does (process_of (begin_of p n) z) (said_by n q.ks) (process_of (begin_of p n) (mid.state n))) x.is (q.traces n (begin_of p n))) in
        let t = trace_told (kind_on p) (kinds_of (node_plan p n).vars) x.node.process k.0.process steps x.good in
        record {
          made = t.made;
          said = t.said;
          of_node = λ l. record {
            node = k.0;
            is = k.1;
            good = t.good;
            inside = t.inside ∙ x.inside;
            leads = λ r h. subst (λ z. node.Meets (begin_of p n).inside z) (sym (append_assoc (by n ks) t.made r))
                (x.leads (t.made ++ r) (subst (λ z. Leads z t.made) x.inside t.leads r h));
            traced = λ r y h. subst (λ z. TraceRest (begin_of p n).state.rest (begin_of p n).state.store z y) (sym (append_assoc (by n ks) t.made r))
                (x.traced (t.made ++ r) y (t.traced r y h));
          };
          of_none = λ past. absurd (omega arith);
        }

    by_none : (n : ℕ) → length p.nodes ≤ n → More n
    by_none n past = record {
      made = [];
      said = subst (λ z. AreSaid (kind_on p) z []) (sym (q.by_no_other n past)) tt;
      of_node = λ less. absurd (omega arith);
      of_none = λ l. refl;
    }

    mores : (n : ℕ) → More n
    mores n = elim (cases_lt n (length p.nodes)) [ inl less ↦ by_node n less | inr past ↦ by_none n past ]

    goes_on : (more : List (ℕ × Comm)) × SoFar mid (ks ++ more)
    goes_on =
        let one = one_of_all (kind_on p) q.ks (λ n. (mores n).made) (λ n. (mores n).said) in
        let whole : (n : ℕ) → by n (ks ++ one.all) ≡ by n ks ++ (mores n).made = λ n. by_append n ks one.all ∙ ap (λ z. by n ks ++ z) (one.parts n) in (
          one.all,
          record {
            tokens = q.new;
            good = q.good;
            said = a.said ++ q.ks;
            told = all_append a.said q.ks ks one.all a.told one.said;
            nodes = λ n less. subst (NodeSoFar mid n) (sym (whole n)) ((mores n).of_node less);
            by_no_other = λ n past. whole n ∙ ap₂ (λ y z. y ++ z) (a.by_no_other n past) ((mores n).of_none past);
            views = λ c. subst (λ z. DoesAll nothing_yet z (view (network_of p) mid c)) (sym (ap (part c) (map-append (λ k. k.1) a.said q.ks) ∙ part_append c (all_said a.said) (all_said q.ks)))
                (does_append nothing_yet (view (network_of p) s c) (view (network_of p) mid c) (part c (all_said a.said)) (part c (all_said q.ks)) (a.views c) (q.views c));
          },
        )

  -- the first state
  starts : SoFar (begins (network_of p) (begin_of p)) []
  starts = record {
    tokens = no_tokens;
    good = good_start (network_of p) (begin_of p);
    said = [];
    told = tt;
    nodes = λ n less. record {
      node = record { vcp = _; process = begin_of p n; inner = _ };
      is = first_node (network_of p) (begin_of p) n less;
      good = begins_good p acc n less;
      inside = refl;
      leads = λ t h. h;
      traced = λ t x h. h;
    };
    by_no_other = λ n past. refl;
    views = λ c. first_view (network_of p) (begin_of p) c;
  }

  alike : (s : Network (Actor Process) Token) → Alike s s
  alike s = record { states = λ n. refl; ways = λ w. refl }

  record Followed (s : Network (Actor Process) Token) (es : List (ActBy Act)) (t : Network (Actor Process) Token) (ks : List (ℕ × Comm)) : Type 0 where
    pub whole : List (ℕ × Comm)
    pub told : IsTold p t whole
    pub along : IsToldAlong p waiting ks s es t whole

  same : (s t : Network (Actor Process) Token) → Alike s t → s ≡ t
  same s t h = λ i. record { state = λ n. sym (h.states n) i; way = λ w. sym (h.ways w) i }

  follows : (es : List (ActBy Act)) (s t : Network (Actor Process) Token) (ks : List (ℕ × Comm)) → SoFar s ks → HappenAll (network_of p) waiting does s es t → Followed s es t ks
  follows [] s t ks a h = record { whole = ks; told = subst (λ z. IsTold p z ks) (same s t h) (tells s ks a); along = (tells s ks a, h, refl) }
  follows (e ∷ es) s t ks a h =
      let mid = h.0 in
      let q = ran (network_of p) waiting does (accepted p acc) (record { actor = e.actor; label = h.1.0 } ∷ []) s mid a.tokens a.good (mid, h.1.2, alike mid) in
      let m = goes_on s mid ks a q in
      let r = follows es mid t (ks ++ m.0) m.1 h.2 in
      record { whole = r.whole; told = r.told; along = (tells s ks a, (mid, h.1, (m.0, r.along))) }

pub all_told : AllIsTold
all_told p waiting es s acc h = let r = follows p waiting acc es (begins (network_of p) (begin_of p)) s [] (starts p waiting acc) h in (r.whole, r.told, r.along)
