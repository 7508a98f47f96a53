-- One node that runs all processes of a plan side by side can do what the plan's network did.
use Rattle.std.proofs.Common.{◌≡◌, ℕ, zero, suc, ◌+◌, ◌≤◌, ◌<◌, true, nat_lt, length-append, refl, sym, ap, subst, ◌∙◌, List, [], ◌∷◌, ◌++◌, length, map, get_or, slice_get, Some, inl, inr, arith}
use Rattle.std.proofs.lemmas.Bool.{cases_lt, lt-ltb, ltb-true}
use Rattle.std.proofs.lemmas.List.{length-map, map-append}
use Rattle.vc_network.specs.Actors.{Network}
use Rattle.vc_network.specs.Network.{Node, Actor, IsNode}
use Rattle.vc_process.specs.declared.value_kind.ValueKind.{ValueKind}
use Rattle.vc_process.specs.ProcessLimits.{names_fit}
use Rattle.vc_process.specs.Syntax.{Proc, PAR, Procs, no_parts, part}
use Rattle.vc_process.specs.Terms.{store}
use Rattle.vc_process.specs.Usage.{Set, changes}
use Rattle.vc_process.specs.Values.{Store}
use Rattle.vc_occam.specs.NodeTraces.{NodeTrace}
use Rattle.vc_process.specs.Numbering.{written}
use Rattle.vc_occam.specs.Opening.{empty_of}
use Rattle.vc_occam.specs.Traces.{Comm, End, Open, Ended, both_ended, Trace, par, TracePar, par_end, par_more}
use Rattle.vc_plan.specs.Accepted.{IsAccepted}
use Rattle.vc_plan.specs.Limits.{kinds_of}
use Rattle.vc_plan.specs.declared.node_plan.NodePlan.{NodePlan}
use Rattle.vc_plan.specs.declared.node_plan.Variable.{Variable as NodeVariable}
use Rattle.vc_plan.specs.declared.plan.Plan.{Plan}
use Rattle.vc_placement.specs.Linearization.{Atomic, all_comms}
use Rattle.vc_plan.specs.OneNode.{all_vars, IsBehind, AreProcesses, IsOnOneNode}
use Rattle.vc_placement.specs.OneNode.{HaveEnded, OneNodeCanDoIt}
use Rattle.vc_placement.specs.Parallel.{without_nodes, IsEnded}
use Rattle.vc_placement.specs.Placement.{IsLinearizationOf}
use Rattle.vc_occam.proofs.Scope.{uses_there}
use Rattle.vc_occam.proofs.Renamings.{EndsAgree, trace_renamed}
use Rattle.vc_occam.specs.Remains.{Done}
use Rattle.vc_placement.proofs.Interleavings.{from, joined, from_first, from_none, both, all_meet}
use Rattle.vc_accepted.specs.Begin.{node_plan, no_node, begin_of}
use Rattle.vc_accepted.specs.OneList.{by}
use Rattle.vc_accepted.specs.Process.{Process}
use Rattle.vc_accepted.proofs.Processes.{named}
use Rattle.vc_tokens.specs.Tokens.{Token}

-- what variables of these kinds hold at first
abbrev pub empty : List ValueKind → Store
empty kinds = store (map empty_of kinds)

pub empty_first : (ks ls : List ValueKind) (v : ℕ) → v < length ks → empty (ks ++ ls) v ≡ empty ks v
empty_first [] ls v h = absurd (omega arith)
empty_first (k ∷ ks) ls zero h = refl
empty_first (k ∷ ks) ls (suc v) h = empty_first ks ls v (omega arith)

pub empty_second : (ks ls : List ValueKind) (v : ℕ) → empty (ks ++ ls) (length ks + v) ≡ empty ls v
empty_second [] ls v = let e : 0 + v ≡ v = omega arith in ap (empty ls) e
empty_second (k ∷ ks) ls v = let e : length (k ∷ ks) + v ≡ suc (length ks + v) = omega arith in ap (empty ((k ∷ ks) ++ ls)) e ∙ empty_second ks ls v

pub kinds_append : (a b : List NodeVariable) → kinds_of (a ++ b) ≡ kinds_of a ++ kinds_of b
kinds_append a b = map-append (λ (v : NodeVariable). v.kind) a b

pub kinds_length : (a : List NodeVariable) → length (kinds_of a) ≡ length a
kinds_length a = length-map a (λ (v : NodeVariable). v.kind)

-- from the k-th variable on stand those of these nodes, empty
abbrev pub Holds : Store → ℕ → List NodePlan → Type 0
Holds big k ns = (v : ℕ) → v < length (kinds_of (all_vars ns)) → big (k + v) ≡ empty (kinds_of (all_vars ns)) v

pub holds_first : (big : Store) (k : ℕ) (n : NodePlan) (ns : List NodePlan) → Holds big k (n ∷ ns) → (v : ℕ) → v < length n.vars → big (k + v) ≡ empty (kinds_of n.vars) v
holds_first big k n ns h v l =
    let e = kinds_append n.vars (all_vars ns) in
    let a = ap length e in
    let b = length-append (kinds_of n.vars) (kinds_of (all_vars ns)) in
    let c = kinds_length n.vars in
    h v (omega arith) ∙ ap (λ z. empty z v) e ∙ empty_first (kinds_of n.vars) (kinds_of (all_vars ns)) v (omega arith)

pub holds_rest : (big : Store) (k : ℕ) (n : NodePlan) (ns : List NodePlan) → Holds big k (n ∷ ns) → Holds big (k + length n.vars) ns
holds_rest big k n ns h v l =
    let e = kinds_append n.vars (all_vars ns) in
    let a = ap length e in
    let b = length-append (kinds_of n.vars) (kinds_of (all_vars ns)) in
    let c = kinds_length n.vars in
    let i : k + length n.vars + v ≡ k + (length (kinds_of n.vars) + v) = omega arith in
    ap big i ∙ h (length (kinds_of n.vars) + v) (omega arith) ∙ ap (λ z. empty z (length (kinds_of n.vars) + v)) e ∙ empty_second (kinds_of n.vars) (kinds_of (all_vars ns)) v

module _ (channels : ℕ) (big : Store) (ks : List (ℕ × Comm)) (ends : ℕ → End) where
  -- what is known of each node
  abbrev Known : ℕ → NodePlan → Type 0
  Known j x = (names_fit (written x.process) (kinds_of x.vars) channels ≡ true) × Trace (written x.process) (empty (kinds_of x.vars)) (by j ks) (ends j)

  record Abreast (i : ℕ) (ns : List NodePlan) (qs : Procs) : Type 0 where
    pub end_of_all : End
    pub trace : TracePar qs big (from i ks) end_of_all
    pub ended : ((m : ℕ) → m < i + length ns → IsEnded (ends m)) → IsEnded end_of_all

  has_ended : (x y : End) (agree : (ρ : ℕ → ℕ) × (dom : Set) × (apart : (v w : ℕ) → dom v ≡ true → dom w ≡ true → ρ v ≡ ρ w → v ≡ w) × EndsAgree ρ dom apart x y) → IsEnded x → IsEnded y
  has_ended Open y a (f, e) = absurd (cc)
  has_ended (Ended g) (Ended h) a e = (h, refl)
  has_ended (Ended g) Open a e = absurd a.3

  one_moved : (j k : ℕ) (x : NodePlan) (q : Proc) → IsBehind k (length x.vars) (written x.process) q → ((v : ℕ) → v < length x.vars → big (k + v) ≡ empty (kinds_of x.vars) v) → Known j x →
      (y : End) × Trace q big (by j ks) y × (IsEnded (ends j) → IsEnded y)
  one_moved j k x q h same known =
      let ρ = h.0 in
      let is = h.1 in
      let dom : Set = λ v. nat_lt v (length x.vars) in
      let apart : (v w : ℕ) → dom v ≡ true → dom w ≡ true → ρ v ≡ ρ w → v ≡ w = λ v w a b e. (let l = is v (ltb-true v (length x.vars) a) in let m = is w (ltb-true w (length x.vars) b) in omega arith) in
      let z = trace_renamed ρ dom apart known.1 big h.2
      (λ v u. lt-ltb v (length x.vars) (let r = uses_there (kinds_of x.vars) (written x.process) channels known.0 v u in let c = kinds_length x.vars in omega arith))
      (λ v u. (let l = ltb-true v (length x.vars) u in ap big (is v l) ∙ same v l)) in
      (z.0, z.1, has_ended (ends j) z.0 (ρ, dom, apart, z.2))

  abreast : (i k : ℕ) (ns : List NodePlan) (qs : Procs) → AreProcesses k ns qs → Holds big k ns → ((m : ℕ) (x : NodePlan) → slice_get ns m ≡ Some x → Known (i + m) x) → ((m : ℕ) → i + length ns ≤ m → by m ks ≡ []) → Abreast i ns qs
  abreast i k [] no_parts a h f z = record {
    end_of_all = Ended big;
    trace = subst (λ l. TracePar no_parts big l (Ended big)) (sym (from_none i ks (λ m g. z m (omega arith)))) par_end;
    ended = λ g. (big, refl);
  }
  abreast i k (n ∷ ns) (part q qs) a h f z =
      let one = one_moved i k n q a.0 (holds_first big k n ns h) (let e : i + 0 ≡ i = omega arith in subst (λ j. Known j n) e (f 0 n refl)) in
      let r = abreast (suc i) (k + length n.vars) ns qs a.1 (holds_rest big k n ns h) (λ m x e. (let g : i + suc m ≡ suc i + m = omega arith in subst (λ j. Known j x) g (f (suc m) x e))) (λ m g. z m (omega arith)) in
      record {
        end_of_all = both_ended (changes q) one.0 r.end_of_all;
        trace = par_more one.1 r.trace (joined i ks);
        ended = λ g. both (changes q) one.0 r.end_of_all (one.2 (g i (omega arith))) (r.ended (λ m l. g m (omega arith)));
      }
  abreast i k [] (part q qs) a h f z = absurd a
  abreast i k (n ∷ ns) no_parts a h f z = absurd a

pub same_node : (a b : Node Process) → IsNode a ≡ IsNode b → a ≡ b
same_node a b e = cc

module _ (p one : Plan) (s : Network (Actor Process) Token) (hs : List Atomic) (acc : IsAccepted p) (on : IsOnOneNode p one) (told : IsLinearizationOf p s hs) where
  record Part (n : ℕ) : Type 0 where
    pub end : End
    pub trace : n < length p.nodes → Trace (written (node_plan p n).process) (begin_of p n).state.store (by n (all_comms hs)) end
    pub ended : n < length p.nodes → HaveEnded p s → IsEnded end

  its_part : (n : ℕ) → n < length p.nodes → Part n
  its_part n less =
      let t = told.by_node n less in
      let could = t.2 in
      record {
        end = could.0;
        trace = λ l. could.1;
        ended = λ l h. (let e = h n l in let is = same_node e.0 t.0 (sym e.1 ∙ t.1) in (t.0.process.state.store, could.2 (subst (λ (z : Node Process). z.process.state.rest ≡ Done) is e.2)));
      }

  no_part : (n : ℕ) → length p.nodes ≤ n → Part n
  no_part n past = record { end = Open; trace = λ l. absurd (omega arith); ended = λ l h. absurd (omega arith) }

  parts : (n : ℕ) → Part n
  parts n = elim (cases_lt n (length p.nodes)) [ inl less ↦ its_part n less | inr past ↦ no_part n past ]

  here : (n : ℕ) (x : NodePlan) → slice_get p.nodes n ≡ Some x → (n < length p.nodes) × (node_plan p n ≡ x)
  here n x e = at p.nodes n e
    where
      at : (ns : List NodePlan) (m : ℕ) → slice_get ns m ≡ Some x → (m < length ns) × (get_or ns m no_node ≡ x)
      at [] m e = absurd (cc)
      at (y ∷ ns) zero e = (omega arith, let is : y ≡ x = cc in is)
      at (y ∷ ns) (suc m) e = let r = at ns m e in let l = r.0 in (omega arith, r.1)

  abrest : Abreast (length p.channels) (empty (kinds_of (all_vars p.nodes))) (all_comms hs) (λ n. (parts n).end) 0 p.nodes on.parts
  abrest = abreast (length p.channels) (empty (kinds_of (all_vars p.nodes))) (all_comms hs) (λ n. (parts n).end) 0 0 p.nodes on.parts on.processes
      (λ v l. (let e : 0 + v ≡ v = omega arith in ap (empty (kinds_of (all_vars p.nodes))) e))
      (λ m x e. (let g : m ≡ 0 + m = omega arith in let r = here m x e in
      subst (λ j. Known (length p.channels) (empty (kinds_of (all_vars p.nodes))) (all_comms hs) (λ n. (parts n).end) j x) g
      (named p acc m x e, subst (λ (z : NodePlan). Trace (written z.process) (empty (kinds_of z.vars)) (by m (all_comms hs)) (parts m).end) r.1 ((parts m).trace r.0))))
      (λ m g. told.by_no_other m (omega arith))

  pub can_do : (x : End) × NodeTrace (begin_of one 0).inside (written (node_plan one 0).process) (begin_of one 0).state.store (without_nodes (all_comms hs)) x × (HaveEnded p s → IsEnded x)
  can_do =
      let r = abrest in
      let inside = (begin_of one 0).inside in
      let l = without_nodes (all_comms hs) in
      let x = r.end_of_all in
      let trace : Trace (PAR 0 on.parts) (empty (kinds_of (all_vars p.nodes))) l x = par (subst (λ z. TracePar on.parts (empty (kinds_of (all_vars p.nodes))) z x) (from_first (all_comms hs)) r.trace) in
      let faithful : NodeTrace inside (PAR 0 on.parts) (empty (kinds_of (all_vars p.nodes))) l x = (trace, all_meet inside hs told.faithful) in
      let of_node : NodeTrace inside (written on.node.process) (empty (kinds_of on.node.vars)) l x =
      subst (λ z. NodeTrace inside z (empty (kinds_of on.node.vars)) l x) (sym on.process) (subst (λ z. NodeTrace inside (PAR 0 on.parts) (empty z) l x) (sym on.vars) faithful) in
      let is : on.node ≡ node_plan one 0 = sym (ap (λ z. get_or z 0 no_node) on.nodes) in (
        x,
        subst (λ (z : NodePlan). NodeTrace inside (written z.process) (empty (kinds_of z.vars)) l x) is of_node,
        λ h. r.ended (λ m g. (parts m).ended (omega arith) h),
      )

pub one_node_can : OneNodeCanDoIt
one_node_can p one s hs acc on told = can_do p one s hs acc on told
