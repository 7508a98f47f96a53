-- The paths of a process, by its variant.
use Rattle.std.proofs.Common.{◌≡◌, ℕ, ap, sym, ◌∙◌, List, [], ◌∷◌, ◌++◌, map, ◌+◌, ◌<◌, length, get_or, drop, append_assoc}
use Rattle.std.specs.Prelude.{decimal}
use Rattle.std.specs.List.{enumerate_from, flat_map}
use Rattle.vc_process.specs.declared.condition.Cond.{Cond}
use Rattle.vc_process.specs.declared.expression.Expr.{Expr}
use Rattle.vc_process.specs.declared.process.Process.{Process}
use Rattle.vc_process.specs.declared.process.Branch.{Branch}
use Rattle.vc_process.specs.declared.process.Guard.{Guard}
use Rattle.vc_process.specs.declared.process.Process.TheVariants as process
use Rattle.vc_process.specs.declared.process.Process.TheViews.{out-Branch, out-Guard, out-Process, roll-Process, roll-out-Process}
use Rattle.vc_process.specs.declared.process.Process.TheOpen as layer
use Rattle.vc_process.specs.declared.process.Process.TheFolds.{fold-roll-Process, fold_out-Branch, fold_out-Guard}
use Rattle.vc_process.proofs.Walks.{drop_at}
use Rattle.vc_waits.specs.Paths.{PathsAt, branch_layer, each_at, guard_layer, layer_paths, paths}
use Rattle.vc_waits.specs.Private.Paths.{branch_paths, guard_paths}

pub paths_seq : (p : Process) (ps : List Process) → p ≡ process.Seq ps → paths p ≡ layer_paths (layer.Seq (map paths ps))
unfolding paths
paths_seq p ps h = ap paths (h ∙ sym (process.rolls-Seq ps)) ∙ fold-roll-Process PathsAt PathsAt PathsAt layer_paths branch_layer guard_layer (layer.Seq ps)

pub paths_par : (p : Process) (ps : List Process) → p ≡ process.Par ps → paths p ≡ layer_paths (layer.Par (map paths ps))
unfolding paths
paths_par p ps h = ap paths (h ∙ sym (process.rolls-Par ps)) ∙ fold-roll-Process PathsAt PathsAt PathsAt layer_paths branch_layer guard_layer (layer.Par ps)

pub paths_if : (p : Process) (bs : List Branch) → p ≡ process.If bs → paths p ≡ layer_paths (layer.If (map branch_paths bs))
unfolding paths branch_paths
paths_if p bs h = ap paths (h ∙ sym (process.rolls-If bs)) ∙ fold-roll-Process PathsAt PathsAt PathsAt layer_paths branch_layer guard_layer (layer.If bs)

pub paths_while : (p : Process) (b : Cond) (q : Process) → p ≡ process.While b q → paths p ≡ layer_paths (layer.While b (paths q))
unfolding paths
paths_while p b q h = ap paths (h ∙ sym (process.rolls-While b q)) ∙ fold-roll-Process PathsAt PathsAt PathsAt layer_paths branch_layer guard_layer (layer.While b q)

pub paths_count : (p : Process) (v : ℕ) (a n : Expr) (q : Process) → p ≡ process.Count v a n q → paths p ≡ layer_paths (layer.Count v a n (paths q))
unfolding paths
paths_count p v a n q h = ap paths (h ∙ sym (process.rolls-Count v a n q)) ∙ fold-roll-Process PathsAt PathsAt PathsAt layer_paths branch_layer guard_layer (layer.Count v a n q)

pub paths_alt : (p : Process) (gs : List Guard) → p ≡ process.Alt gs → paths p ≡ layer_paths (layer.Alt (map guard_paths gs))
unfolding paths guard_paths
paths_alt p gs h = ap paths (h ∙ sym (process.rolls-Alt gs)) ∙ fold-roll-Process PathsAt PathsAt PathsAt layer_paths branch_layer guard_layer (layer.Alt gs)

pub branch_out : (b : Branch) → branch_paths b ≡ paths (out-Branch b).body
unfolding paths branch_paths
branch_out = fold_out-Branch PathsAt PathsAt PathsAt layer_paths branch_layer guard_layer

pub guard_out : (g : Guard) → guard_paths g ≡ paths (out-Guard g).body
unfolding paths guard_paths
guard_out = fold_out-Guard PathsAt PathsAt PathsAt layer_paths branch_layer guard_layer

-- a process that has no part, branch, guard or body
pub paths_alone : (p : Process) (at : List ℕ) → ((ps : List Process) → p ≡ process.Seq ps → ⊥) → ((ps : List Process) → p ≡ process.Par ps → ⊥) → ((bs : List Branch) → p ≡ process.If bs → ⊥) → ((t : Cond) (q : Process) → p ≡ process.While t q → ⊥) → ((v : ℕ) (a n : Expr) (q : Process) → p ≡ process.Count v a n q → ⊥) → ((gs : List Guard) → p ≡ process.Alt gs → ⊥) →
    paths p at ≡ at ∷ []
unfolding paths
paths_alone p at no_seq no_par no_if no_while no_count no_alt = by (out-Process p) (sym (roll-out-Process p))
  where
    by : (l : layer.Process-F Process Branch Guard) → p ≡ roll-Process l → paths p at ≡ at ∷ []
    by layer.Skip h = ap (λ (f : PathsAt). f at) (ap paths h ∙ fold-roll-Process PathsAt PathsAt PathsAt layer_paths branch_layer guard_layer layer.Skip)
    by layer.Stop h = ap (λ (f : PathsAt). f at) (ap paths h ∙ fold-roll-Process PathsAt PathsAt PathsAt layer_paths branch_layer guard_layer layer.Stop)
    by (layer.Set v a) h = ap (λ (f : PathsAt). f at) (ap paths h ∙ fold-roll-Process PathsAt PathsAt PathsAt layer_paths branch_layer guard_layer (layer.Set v a))
    by (layer.Send c a) h = ap (λ (f : PathsAt). f at) (ap paths h ∙ fold-roll-Process PathsAt PathsAt PathsAt layer_paths branch_layer guard_layer (layer.Send c a))
    by (layer.Receive c v) h = ap (λ (f : PathsAt). f at) (ap paths h ∙ fold-roll-Process PathsAt PathsAt PathsAt layer_paths branch_layer guard_layer (layer.Receive c v))
    by (layer.Stopch c) h = ap (λ (f : PathsAt). f at) (ap paths h ∙ fold-roll-Process PathsAt PathsAt PathsAt layer_paths branch_layer guard_layer (layer.Stopch c))
    by (layer.Seq ps) h = absurd (no_seq ps (h ∙ process.rolls-Seq ps))
    by (layer.Par ps) h = absurd (no_par ps (h ∙ process.rolls-Par ps))
    by (layer.If bs) h = absurd (no_if bs (h ∙ process.rolls-If bs))
    by (layer.While t q) h = absurd (no_while t q (h ∙ process.rolls-While t q))
    by (layer.Count v a n q) h = absurd (no_count v a n q (h ∙ process.rolls-Count v a n q))
    by (layer.Alt gs) h = absurd (no_alt gs (h ∙ process.rolls-Alt gs))

-- one more of a list of branches or guards, and those behind it
pub bodies_next : {X : Type 0} (num : X → PathsAt) (path step : List ℕ) (xs : List X) (k : ℕ) (x : X) (before now later : List (List ℕ)) → k < length xs → x ≡ get_or xs k x → later ≡ now ++ num x (path ++ decimal k ++ step) →
    now ++ flat_map (each_at path step) (enumerate_from k (map num (drop k xs))) ≡ before → later ++ flat_map (each_at path step) (enumerate_from (k + 1) (map num (drop (k + 1) xs))) ≡ before
bodies_next num path step xs k x before now later l h more r =
    let own = num x (path ++ decimal k ++ step) in
    let rest = flat_map (each_at path step) (enumerate_from (k + 1) (map num (drop (k + 1) xs))) in
    let split : flat_map (each_at path step) (enumerate_from k (map num (drop k xs))) ≡ own ++ rest =
    ap (λ (ps : List PathsAt). flat_map (each_at path step) (enumerate_from k ps)) (drop_at num k xs x l h) in
    ap (λ ys. ys ++ rest) more ∙ append_assoc now own rest ∙ ap (λ ys. now ++ ys) (sym split) ∙ r
