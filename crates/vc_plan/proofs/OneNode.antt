-- The processes of a plan on one node, each behind the variables of those before it.
use Rattle.std.proofs.Common.{◌≡◌, ℕ, zero, suc, ◌+◌, ◌%◌, ◌^◌, ◌≤◌, ◌<◌, refl, sym, ap, ap₂, subst, ◌∙◌, List, [], ◌∷◌, ◌++◌, map, take, length, get_or, length-append, append_assoc, append-nil, codes, arith}
use Rattle.std.proofs.lemmas.List.{map-append}
use Rattle.vc_process.specs.Renaming.{moved_by, IsRenamed}
use Rattle.vc_process.proofs.Renamings.{take_more}
use Rattle.vc_plan.specs.declared.node_plan.NodePlan.{NodePlan}
use Rattle.vc_process.specs.declared.process.Process.{Process}
use Rattle.vc_process.specs.InOrder.{number}
use Rattle.vc_process.specs.Numbering.{Numbered, part_sites, parts_from, written}
use Rattle.vc_process.specs.declared.process.Process.TheVariants as process
use Rattle.vc_plan.specs.declared.node_plan.Variable.{Variable}
use Rattle.vc_plan.specs.declared.plan.Plan.{Plan}
use Rattle.vc_plan.specs.Limits.{kinds_of}
use Rattle.vc_process.proofs.Numbers.{written_is, number_par}
use Rattle.vc_plan.specs.OneNode.{all_sites, all_vars, inside, IsBehind, AreProcesses, IsOnOneNode, IsOneNodeOf}

vars_more : (ns : List NodePlan) (n : NodePlan) → length (all_vars (ns ++ n ∷ [])) ≡ length (all_vars ns) + length n.vars
vars_more [] n = length-append n.vars [] ∙ (let e : length n.vars + 0 ≡ 0 + length n.vars = omega arith in e)
vars_more (m ∷ ns) n =
    let a = length-append m.vars (all_vars (ns ++ n ∷ [])) in
    let b = length-append m.vars (all_vars ns) in
    let r = vars_more ns n in
    omega arith

pub vars_within : (ns : List NodePlan) (k : ℕ) → length (all_vars (take k ns)) ≤ length (all_vars ns)
vars_within [] zero = omega arith
vars_within [] (suc k) = omega arith
vars_within (n ∷ ns) zero = omega arith
vars_within (n ∷ ns) (suc k) =
    let a = length-append n.vars (all_vars (take k ns)) in
    let b = length-append n.vars (all_vars ns) in
    let r = vars_within ns k in
    omega arith

in_a_byte : (n : ℕ) → n < 256 → n % 2 ^ 8 ≡ n
in_a_byte n h = omega arith

-- as a byte, where there is room
is_behind : (by vars i j : ℕ) (p q : Process) → by + vars ≤ 256 → IsRenamed (moved_by by) (number p) (number q) → IsBehind by vars ((number p).tree i) ((number q).tree j)
is_behind by vars i j p q room m = (moved_by by, λ v l. in_a_byte (by + v) (omega arith), m.1 i j)

processes_more : (k j : ℕ) (ns : List NodePlan) (qs : List Numbered) (n : NodePlan) (q : Numbered) → AreProcesses k ns (parts_from j qs) → ((i : ℕ) → IsBehind (k + length (all_vars ns)) (length n.vars) (written n.process) (q.tree i)) → AreProcesses k (ns ++ n ∷ []) (parts_from j (qs ++ q ∷ []))
processes_more k j [] [] n q h b = (subst (λ z. IsBehind z (length n.vars) (written n.process) (q.tree j)) (let e : k + 0 ≡ k = omega arith in e) (b j), tt)
processes_more k j (m ∷ ns) (p ∷ qs) n q h b = (
  h.0,
  processes_more (k + length m.vars) (j + p.sites) ns qs n q h.1 (λ i.
      (let a = length-append m.vars (all_vars ns) in
      let e : k + length (m.vars ++ all_vars ns) ≡ k + length m.vars + length (all_vars ns) = omega arith in
      subst (λ z. IsBehind z (length n.vars) (written n.process) (q.tree i)) e (b i))),
)
processes_more k j [] (p ∷ qs) n q h b = absurd h
processes_more k j (m ∷ ns) [] n q h b = absurd h

pub processes_next : (xs : List NodePlan) (k by : ℕ) (x : NodePlan) (now later : List Process) (y : Process) → k < length xs → x ≡ get_or xs k x → by ≡ length (all_vars (take k xs)) → by + length x.vars ≤ 64 →
    IsRenamed (moved_by by) (number x.process) (number y) → later ≡ now ++ y ∷ [] →
    AreProcesses 0 (take k xs) (parts_from 1 (map number now)) → AreProcesses 0 (take (k + 1) xs) (parts_from 1 (map number later))
processes_next xs k by x now later y l h e room m p i =
    subst (λ z. AreProcesses 0 z (parts_from 1 (map number later))) (sym (take_more xs k x l h))
    (subst (λ z. AreProcesses 0 (take k xs ++ x ∷ []) (parts_from 1 z)) (sym (ap (map number) p ∙ map-append number now (y ∷ [])))
    (processes_more 0 1 (take k xs) (map number now) x (number y) i (λ j.
    (let f : by ≡ 0 + length (all_vars (take k xs)) = omega (arith, e) in
    subst (λ z. IsBehind z (length x.vars) (written x.process) ((number y).tree j)) f (subst (λ z. IsBehind by (length x.vars) z ((number y).tree j)) (sym (written_is x.process)) (is_behind by (length x.vars) 0 j x.process y (omega arith) m))))))

sites_more : (ns : List NodePlan) (n : NodePlan) → all_sites (ns ++ n ∷ []) ≡ all_sites ns + (number n.process).sites
sites_more [] n = omega arith
sites_more (m ∷ ns) n = let r = sites_more ns n in omega arith

part_sites_more : (ps : List Numbered) (p : Numbered) → part_sites (ps ++ p ∷ []) ≡ part_sites ps + p.sites
part_sites_more [] p = omega arith
part_sites_more (q ∷ ps) p = let r = part_sites_more ps p in omega arith

pub sites_next : (xs : List NodePlan) (k : ℕ) (x : NodePlan) (now later : List Process) (y : Process) → k < length xs → x ≡ get_or xs k x →
    (number y).sites ≡ (number x.process).sites → later ≡ now ++ y ∷ [] → part_sites (map number now) ≡ all_sites (take k xs) → part_sites (map number later) ≡ all_sites (take (k + 1) xs)
sites_next xs k x now later y l h e p i =
    ap part_sites (ap (map number) p ∙ map-append number now (y ∷ [])) ∙ part_sites_more (map number now) (number y) ∙ ap₂ (λ a b. a + b) i e
    ∙ sym (sites_more (take k xs) x) ∙ ap all_sites (sym (take_more xs k x l h))

pub vars_next : (xs : List NodePlan) (k by : ℕ) (x : NodePlan) → k < length xs → x ≡ get_or xs k x → by ≡ length (all_vars (take k xs)) → by + length x.vars ≡ length (all_vars (take (k + 1) xs))
vars_next xs k by x l h e = ap (λ z. z + length x.vars) e ∙ sym (vars_more (take k xs) x) ∙ ap (λ z. length (all_vars z)) (sym (take_more xs k x l h))

pub all_more : (xs : List NodePlan) (k : ℕ) (x : NodePlan) → k < length xs → x ≡ get_or xs k x → all_vars (take k xs) ++ x.vars ≡ all_vars (take (k + 1) xs)
all_more xs k x l h = sym (ap all_vars (take_more xs k x l h) ∙ behind_all (take k xs) x)
  where
    behind_all : (ns : List NodePlan) (n : NodePlan) → all_vars (ns ++ n ∷ []) ≡ all_vars ns ++ n.vars
    behind_all [] n = append-nil n.vars
    behind_all (m ∷ ns) n = ap (λ z. m.vars ++ z) (behind_all ns n) ∙ sym (append_assoc m.vars (all_vars ns) n.vars)

one_sites : (parts : List Process) (n : ℕ) → part_sites (map number parts) ≡ n → (number (process.Par parts)).sites ≡ suc n
one_sites parts n e = ap (λ (m : Numbered). m.sites) (number_par (process.Par parts) parts refl) ∙ ap suc e

-- the plan of one node
module _ (p one : Plan) (name : List ℕ) (vars : List Variable) (parts : List Process) where
  abbrev pub all : NodePlan
  all = record { name = name; vars = vars; process = process.Par parts }

  on_one_node : one.nodes ≡ all ∷ [] → vars ≡ all_vars p.nodes → AreProcesses 0 p.nodes (parts_from 1 (map number parts)) → IsOnOneNode p one
  on_one_node e f h = record {
    node = all;
    nodes = e;
    vars = ap kinds_of f;
    parts = parts_from 1 (map number parts);
    process = written_is (process.Par parts) ∙ ap (λ (n : Numbered). n.tree 0) (number_par (process.Par parts) parts refl);
    processes = h;
  }

  pub one_node : one.nodes ≡ all ∷ [] → name ≡ codes "all" → vars ≡ all_vars p.nodes → AreProcesses 0 p.nodes (parts_from 1 (map number parts)) → part_sites (map number parts) ≡ all_sites p.nodes
      → one.version ≡ 2 → one.switches ≡ [] → one.wires ≡ [] → one.vlinks ≡ [] → one.channels ≡ map inside p.channels → IsOneNodeOf p one
  unfolding on_one_node
  one_node e n f h s version switches wires vlinks channels = record {
    is = on_one_node e f h;
    name = n;
    variables = f;
    sites = one_sites parts (all_sites p.nodes) s;
    version = version;
    switches = switches;
    wires = wires;
    vlinks = vlinks;
    channels = channels;
  }
