-- What the one node does the plan's free network does: the one node's trace is split into traces of its parts, which have a
-- linearization, and that the network does.
use Rattle.std.proofs.Common.{◌≡◌, ℕ, zero, suc, ◌+◌, ◌≤◌, ◌<◌, Bool, true, false, refl, sym, ap, subst, ◌∙◌, List, [], ◌∷◌, length, map, get_or, inl, inr, arith, ◌==◌, eq-eqb, if◌then◌else◌}
use Rattle.std.proofs.lemmas.Bool.{cases_lt}
use Rattle.std.proofs.lemmas.Option.{slice_get-get_or}
use Rattle.vc_accepted.proofs.Processes.{named}
use Rattle.vc_accepted.specs.Begin.{node_plan, no_node, begin_of}
use Rattle.vc_accepted.specs.NetworkOf.{network_of, home_in}
use Rattle.vc_accepted.specs.OneList.{by, on, IsTold}
use Rattle.vc_accepted.specs.Process.{Process}
use Rattle.vc_free.proofs.Atomics.{do_all}
use Rattle.vc_free.proofs.Places.{arrived}
use Rattle.vc_free.proofs.PartTraces.{Split, split}
use Rattle.vc_free.specs.Converse.{NetworkRunsIt}
use Rattle.vc_machine.specs.Rendezvous.{View, DoesAll, nothing_yet}
use Rattle.vc_network.proofs.Steps.{InnerFits}
use Rattle.vc_network.specs.Actors.{Network}
use Rattle.vc_network.specs.Network.{Node, Actor}
use Rattle.vc_network.specs.Plan as network
use Rattle.vc_network.specs.Plan.{home}
use Rattle.vc_network.specs.Views.{view, view_at}
use Rattle.vc_occam.specs.Completeness.{EndsAs}
use Rattle.vc_occam.specs.NodeTraces.{so_far}
use Rattle.vc_occam.specs.Remains.{Done}
use Rattle.vc_occam.specs.States.{State}
use Rattle.vc_occam.specs.Traces.{Comm, Out, Fin, In, Stp, End, Open, Ended, Trace, cut, par}
use Rattle.vc_placement.proofs.Linearizability.{linearizes}
use Rattle.vc_placement.proofs.Networks.{invisible}
use Rattle.vc_placement.proofs.OneNode.{empty, same_node}
use Rattle.vc_placement.proofs.OneNodeRuns.{of_channel, without_is}
use Rattle.vc_placement.specs.Linearization.{completed, points}
use Rattle.vc_placement.specs.OneNode.{HaveEnded}
use Rattle.vc_placement.specs.Parallel.{without_nodes, IsEnded}
use Rattle.vc_plan.specs.Accepted.{IsAccepted}
use Rattle.vc_plan.specs.Limits.{kinds_of}
use Rattle.vc_plan.specs.OneNode.{inside, all_vars, IsOneNodeOf}
use Rattle.vc_plan.specs.declared.channel.Channel.{Channel}
use Rattle.vc_plan.specs.declared.node_plan.NodePlan.{NodePlan}
use Rattle.vc_plan.specs.declared.plan.Plan.{Plan}
use Rattle.vc_process.specs.Numbering.{written}
use Rattle.vc_process.specs.Syntax.{PAR}
use Rattle.vc_process.specs.Values.{Store}
use Rattle.vc_switch.specs.Waiting.{Waiting}
use Rattle.vc_tokens.specs.Tokens.{Token}

-- where only node 0 has a part, that is all
all_of_first : (ks : List (ℕ × Comm)) → ((n : ℕ) → 1 ≤ n → by n ks ≡ []) → by 0 ks ≡ without_nodes ks
all_of_first [] h = refl
all_of_first ((zero, k) ∷ ks) h = ap (λ l. k ∷ l) (all_of_first ks (λ n l. by_test n (0 == n) (h n l)))
  where
    by_test : (n : ℕ) (b : Bool) → (if b then k ∷ by n ks else by n ks) ≡ [] → by n ks ≡ []
    by_test n true e = absurd (cc)
    by_test n false e = e
all_of_first ((suc m, k) ∷ ks) h = absurd (let e = h (suc m) (omega arith) in let z : k ∷ by (suc m) ks ≡ [] = sym (ap (λ b. if b then k ∷ by (suc m) ks else by (suc m) ks) (eq-eqb (suc m) (suc m) refl)) ∙ e in cc)

-- each channel of the one node is inside a node
home_inside : (cs : List Channel) (c n : ℕ) → (m : ℕ) × (get_or (map home_in (map inside cs)) c (network.Inside n) ≡ network.Inside m)
home_inside [] c n = (n, refl)
home_inside (x ∷ cs) zero n = (0, refl)
home_inside (x ∷ cs) (suc c) n = home_inside cs c n

inner_completed : (v : View) → InnerFits v → completed v ≡ v
inner_completed v f = λ i. record { offered = f.taken i; taken = v.taken; finished = (ap length f.taken ∙ sym f.finished) i; stopped = v.stopped }

-- the points of a list, whoever makes them
abbrev its_points : List Comm → List Comm
its_points [] = []
its_points (Out c x ∷ ks) = its_points ks
its_points (Fin c ∷ ks) = its_points ks
its_points (In c x ∷ ks) = In c x ∷ its_points ks
its_points (Stp c ∷ ks) = Stp c ∷ its_points ks

points_without : (ks : List (ℕ × Comm)) → without_nodes (points ks) ≡ its_points (without_nodes ks)
points_without [] = refl
points_without ((n, Out c x) ∷ ks) = points_without ks
points_without ((n, Fin c) ∷ ks) = points_without ks
points_without ((n, In c x) ∷ ks) = ap (λ l. In c x ∷ l) (points_without ks)
points_without ((n, Stp c) ∷ ks) = ap (λ l. Stp c ∷ l) (points_without ks)

pub ended_done : (s : State) (x : End) → IsEnded x → EndsAs s x → s.rest ≡ Done
ended_done s (Ended f) i e = e.0
ended_done s Open i e = absurd (let z : Open ≡ Ended i.0 = i.1 in cc)

module _ (p one : Plan) (waiting : Waiting) (t : Network (Actor Process) Token) (acc : IsAccepted p) (is : IsOneNodeOf p one) (told : List (ℕ × Comm)) (tells : IsTold one t told) where
  one_there : 0 < length one.nodes
  one_there = let e = ap length is.is.nodes in omega arith

  abbrev big : Store
  big = empty (kinds_of (all_vars p.nodes))

  its_end : End
  its_end = let h = tells.by_node 0 one_there in so_far h.0.process.state.rest h.0.process.state.store

  node_is : node_plan one 0 ≡ is.is.node
  node_is = ap (λ ns. get_or ns 0 no_node) is.is.nodes

  one_trace : Trace (PAR 0 is.is.parts) big (by 0 told) its_end
  unfolding its_end
  one_trace =
      let h = tells.by_node 0 one_there in
      let e = so_far h.0.process.state.rest h.0.process.state.store in
      subst (λ z. Trace (PAR 0 is.is.parts) (empty z) (by 0 told) e) is.is.vars
      (subst (λ z. Trace z (empty (kinds_of is.is.node.vars)) (by 0 told) e) is.is.process
      (subst (λ (z : NodePlan). Trace (written z.process) (empty (kinds_of z.vars)) (by 0 told) e) node_is h.2.0))

  -- the parts' traces: where nothing was done yet, none has done anything
  parts : {l : List Comm} {x : End} → Trace (PAR 0 is.is.parts) big l x → Split (length p.channels) big 0 p.nodes l x
  parts (par h) = split (length p.channels) big 0 0 p.nodes is.is.parts is.is.processes (λ v l. (let e : 0 + v ≡ v = omega arith in ap big e)) (λ m y e. named p acc m y e) h
  parts cut = record {
    told = [];
    same = refl;
    ends = λ j. Open;
    traces = λ m y e. cut;
    low = λ j l. refl;
    high = λ j l. refl;
    ended = λ e m l. absurd (let z : Open ≡ Ended e.0 = e.1 in cc);
  }

  its_parts : Split (length p.channels) big 0 p.nodes (by 0 told) its_end
  its_parts = parts one_trace

  its_trace : (n : ℕ) → (x : End) × Trace (written (node_plan p n).process) (begin_of p n).state.store (by n its_parts.told) x × (n < length p.nodes → IsEnded its_end → IsEnded x)
  its_trace n = elim (cases_lt n (length p.nodes)) [
    | inl less ↦ (let z : 0 + n ≡ n = omega arith in (
      its_parts.ends n,
      subst (λ j. Trace (written (node_plan p n).process) (begin_of p n).state.store (by j its_parts.told) (its_parts.ends j)) z (its_parts.traces n (node_plan p n) (slice_get-get_or p.nodes n no_node less)),
      λ l e. subst (λ j. IsEnded (its_parts.ends j)) z (its_parts.ended e n less),
    ))
    | inr past ↦ (Open, subst (λ l. Trace (written (node_plan p n).process) (begin_of p n).state.store l Open) (sym (its_parts.high n (let z : 0 + length p.nodes ≤ n = omega arith in z))) cut, λ l e. absurd (omega arith))
  ]

  same_told : without_nodes its_parts.told ≡ without_nodes told
  same_told =
      let one_count = ap length is.is.nodes in
      its_parts.same ∙ all_of_first told (λ n l. tells.by_no_other n (omega arith))

  same_on : (c : ℕ) → on c told ≡ on c its_parts.told
  same_on c =
      sym (without_is c told) ∙ ap (of_channel c) (sym same_told) ∙ without_is c its_parts.told

  ended_one : HaveEnded one t → IsEnded its_end
  unfolding its_end
  ended_one h =
      let a = tells.by_node 0 one_there in
      let b = h 0 one_there in
      let same : b.0 ≡ a.0 = same_node b.0 a.0 (sym b.1 ∙ a.1) in
      let rest : a.0.process.state.rest ≡ Done = sym (ap (λ (z : Node Process). z.process.state.rest) same) ∙ b.2 in
      (a.0.process.state.store, ap (λ r. so_far r a.0.process.state.store) rest)

pub network_runs : NetworkRunsIt
network_runs p one waiting es t acc is acc1 ranks happen =
    let seen = invisible one waiting es t acc1 happen in
    let told = seen.0.list in
    let tells = seen.0.told in
    let parts = its_parts p one waiting t acc is told tells in
    let trace = its_trace p one waiting t acc is told tells in
    let r = linearizes (λ n. written (node_plan p n).process) (λ n. (begin_of p n).state.store) (λ n. (trace n).0) (view (network_of one) t) parts.told (λ n. (trace n).1)
    (λ c. subst (λ l. DoesAll nothing_yet l (view (network_of one) t c)) (same_on p one waiting t acc is told tells c) (tells.on_channel c)) in
    let ends : ℕ → End = λ n. (r.1.by_node n).0 in
    let done = do_all p waiting ends (λ c. completed (view (network_of one) t c)) r.0 acc ranks (record {
      by_node = λ n less. (r.1.by_node n).1;
      by_no_other = λ n past. r.1.by_no_other n (parts.high n (let z : 0 + length p.nodes ≤ n = omega arith in z));
      faithful = r.1.faithful;
      on_channel = λ c less. r.1.on_channel c;
    }) in
    let good = (arrived one waiting acc1 es t happen).good in
    record {
      list = told;
      told = tells;
      follows = seen.1;
      atomics = r.0;
      same_points = ap without_nodes r.1.same_points ∙ points_without parts.told ∙ ap its_points (same_told p one waiting t acc is told tells) ∙ sym (points_without told);
      events = done.events;
      end = done.end;
      happen = done.happen;
      order = done.order;
      on_channel = λ c less. (
          let h : (m : ℕ) × (home (network_of one) c ≡ network.Inside m) =
          subst (λ cs. (m : ℕ) × (get_or (map home_in cs) c (network.Inside (length one.nodes)) ≡ network.Inside m)) (sym is.channels) (home_inside p.channels c (length one.nodes)) in
          done.on_channel c less ∙ inner_completed (view (network_of one) t c) (subst InnerFits (sym (ap (view_at (network_of one) t c) h.1)) (good.inner h.0 c))
          );
      ended = λ all n less. (
          let x = done.by_node n less in
          let e = (trace n).2 less (ended_one p one waiting t acc is told tells all) in
          let stays : ends n ≡ Ended e.0 = (r.1.by_node n).2 e.0 e.1 in
          (x.0, x.1, ended_done x.0.process.state (ends n) (e.0, stays) x.2)
          );
    }
