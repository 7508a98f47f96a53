use Rattle.std.proofs.Common.{◌∙◌, ◌∷◌, [], ◌++◌, ◌≡◌, List, ap, sym}
use Rattle.std.specs.Prelude.{codes, decimal, ℕ}
use Rattle.vc_process.proofs.Walks.{adds_more}
use Rattle.vc_process.specs.declared.process.Process.{Process}
use Rattle.vc_process.specs.declared.process.Process.TheViews.{out-Branch, out-Guard}
use Rattle.vc_waits.specs.Paths.{PathsAt, paths}
use Rattle.vc_waits.specs.Private.Paths.{branch_paths, guard_paths}
use Rattle.vc_waits.proofs.Folds.{bodies_next, branch_out, guard_out, paths_alone, paths_alt, paths_count, paths_if, paths_par, paths_seq, paths_while}
use Rattle.vc_waits.proofs.paths.+paths.Goals as goal

pub push_paths-returns-in-Seq : goal.push_paths-returns-in-Seq
push_paths-returns-in-Seq t c =
    let here = λ (f : PathsAt). f c.args.at.now in
    adds_more c.push_parts.result _ _ _ (c.args.at.now ∷ []) _ _ c.in_ok-push_path.ensures (ap here (paths_seq c.args.process.now c.in-Seq.parts c.in-Seq.is)) c.push_parts.ensures

pub push_paths-returns-in-Par : goal.push_paths-returns-in-Par
push_paths-returns-in-Par t c =
    let here = λ (f : PathsAt). f c.args.at.now in
    adds_more c.push_parts-in-Par.result _ _ _ (c.args.at.now ∷ []) _ _ c.in_ok-push_path.ensures (ap here (paths_par c.args.process.now c.in-Par.parts c.in-Par.is)) c.push_parts-in-Par.ensures

pub push_paths-returns-in-If : goal.push_paths-returns-in-If
push_paths-returns-in-If t c =
    let here = λ (f : PathsAt). f c.args.at.now in
    adds_more c.push_branches.result _ _ _ (c.args.at.now ∷ []) _ _ c.in_ok-push_path.ensures (ap here (paths_if c.args.process.now c.in-If.branches c.in-If.is)) c.push_branches.ensures

pub push_paths-returns-in-While : goal.push_paths-returns-in-While
push_paths-returns-in-While t c =
    let here = λ (f : PathsAt). f c.args.at.now in
    adds_more c.push_body.result _ _ _ (c.args.at.now ∷ []) _ _ c.in_ok-push_path.ensures
    (ap here (paths_while c.args.process.now _ c.in-While.body c.in-While.is) ∙ ap (λ (q : Process). c.args.at.now ∷ paths q (c.args.at.now ++ codes "/while/1")) (sym c.get.ensures)) c.push_body.ensures

pub push_paths-returns-in-Count : goal.push_paths-returns-in-Count
push_paths-returns-in-Count t c =
    let here = λ (f : PathsAt). f c.args.at.now in
    adds_more c.push_body-in-Count.result _ _ _ (c.args.at.now ∷ []) _ _ c.in_ok-push_path.ensures
    (ap here (paths_count c.args.process.now _ _ _ c.in-Count.body c.in-Count.is) ∙ ap (λ (q : Process). c.args.at.now ∷ paths q (c.args.at.now ++ codes "/for/3")) (sym c.get-in-Count.ensures)) c.push_body-in-Count.ensures

pub push_paths-returns-in-Alt : goal.push_paths-returns-in-Alt
push_paths-returns-in-Alt t c =
    let here = λ (f : PathsAt). f c.args.at.now in
    adds_more c.push_guards.result _ _ _ (c.args.at.now ∷ []) _ _ c.in_ok-push_path.ensures (ap here (paths_alt c.args.process.now c.in-Alt.guards c.in-Alt.is)) c.push_guards.ensures

pub push_paths-returns-in_default : goal.push_paths-returns-in_default
push_paths-returns-in_default t c =
    let d = c.in_default in
    c.in_ok-push_path.ensures ∙ ap (λ (ps : List (List ℕ)). c.args.found.now ++ ps) (sym (paths_alone c.args.process.now c.args.at.now d.not-Seq d.not-Par d.not-If d.not-While d.not-Count d.not-Alt))

pub push_branches-loop-k-preserved : goal.push_branches-loop-k-preserved
push_branches-loop-k-preserved t c =
    let k = c.loop-k.k in
    let x = c.branch-item.result in
    let body = (out-Branch x).body in
    let path = c.args.at.now ++ codes "/if/" in
    let list : c.as_slice.result.now ≡ path = c.as_slice.ensures.value ∙ c.in_ok-list.ensures in
    let own : c.as_slice-in-loop-k.result.now ≡ path ++ decimal k ++ codes "/1" = c.as_slice-in-loop-k.ensures.value ∙ c.in_ok-path.ensures ∙ ap (λ (l : List ℕ). l ++ decimal k ++ codes "/1") list in
    bodies_next branch_paths path (codes "/1") c.as_slice-branch-items.result.now k x _ c.loop-k.found c.push_paths.new.found c.loop-k-test.true c.branch-item.is
    (c.in_default.ensures ∙ ap (λ (q : List ℕ). c.loop-k.found ++ paths body q) own ∙ ap (λ (f : PathsAt). c.loop-k.found ++ f (path ++ decimal k ++ codes "/1")) (sym (branch_out x))) c.loop-k.invariant

pub push_guards-loop-k-preserved : goal.push_guards-loop-k-preserved
push_guards-loop-k-preserved t c =
    let k = c.loop-k.k in
    let x = c.guard-item.result in
    let body = (out-Guard x).body in
    let path = c.args.at.now ++ codes "/alt/" in
    let list : c.as_slice.result.now ≡ path = c.as_slice.ensures.value ∙ c.in_ok-list.ensures in
    let own : c.as_slice-in-loop-k.result.now ≡ path ++ decimal k ++ codes "/3" = c.as_slice-in-loop-k.ensures.value ∙ c.in_ok-path.ensures ∙ ap (λ (l : List ℕ). l ++ decimal k ++ codes "/3") list in
    bodies_next guard_paths path (codes "/3") c.as_slice-guard-items.result.now k x _ c.loop-k.found c.push_paths.new.found c.loop-k-test.true c.guard-item.is
    (c.in_default.ensures ∙ ap (λ (q : List ℕ). c.loop-k.found ++ paths body q) own ∙ ap (λ (f : PathsAt). c.loop-k.found ++ f (path ++ decimal k ++ codes "/3")) (sym (guard_out x))) c.loop-k.invariant
