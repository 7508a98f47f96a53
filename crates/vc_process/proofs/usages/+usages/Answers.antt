use Rattle.std.proofs.Common.{suc, ◌∷◌, ◌∙◌, sym, ◌++◌, map, ap, refl}
use Rattle.vc_process.specs.InOrder.{number}
use Rattle.vc_process.specs.Private.InOrder.{number_branch, number_guard}
use Rattle.vc_process.specs.Numbering.{Numbered, NumberedBranch}
use Rattle.vc_process.specs.Terms.{exp}
use Rattle.vc_process.specs.Private.Usages.{exp_usages, changing}
use Rattle.vc_process.specs.declared.used.Used.TheVariants as of
use Rattle.vc_process.proofs.Numbers.{number_seq, number_par, number_if, number_count, number_alt, number_branch_out}
use Rattle.vc_process.proofs.UseLists.{all_parts, one_part, behind_part, parts_join, all_branches, one_branch, behind_branch, branches_join, all_guards, one_guard, behind_guard, guards_join}
use Rattle.vc_process.proofs.Walks.{adds_as, adds_both, adds_next, adds_end}
use Rattle.vc_process.proofs.usages.+usages.Goals as goal

pub push_usages-returns-in-Seq : goal.push_usages-returns-in-Seq
push_usages-returns-in-Seq t c =
    adds_as _ _ _ (all_parts (map number c.in-Seq.parts)) _ suc (λ s. ap (λ (n : Numbered). one_part n s) (number_seq _ _ c.in-Seq.is)) c.push_parts.ensures

pub push_usages-returns-in-Par : goal.push_usages-returns-in-Par
push_usages-returns-in-Par t c =
    adds_as _ _ _ (all_parts (map number c.in-Par.parts)) _ suc (λ s. ap (λ (n : Numbered). one_part n s) (number_par _ _ c.in-Par.is)) c.push_parts-in-Par.ensures

pub push_usages-returns-in-If : goal.push_usages-returns-in-If
push_usages-returns-in-If t c =
    adds_as _ _ _ (all_branches (map number_branch c.in-If.branches)) _ suc (λ s. ap (λ (n : Numbered). one_part n s) (number_if _ _ c.in-If.is)) c.push_branches.ensures

pub push_usages-returns-in-Alt : goal.push_usages-returns-in-Alt
push_usages-returns-in-Alt t c =
    adds_as _ _ _ (all_guards (map number_guard c.in-Alt.guards)) _ suc (λ s. ap (λ (n : Numbered). one_part n s) (number_alt _ _ c.in-Alt.is)) c.push_guards.ensures

pub push_usages-returns-in_ok-push_count-in-Count : goal.push_usages-returns-in_ok-push_count-in-Count
push_usages-returns-in_ok-push_count-in-Count t c =
    let counts = changing (of.Variable c.in-Count.var) ∷ exp_usages (exp c.in-Count.base) ++ exp_usages (exp c.in-Count.count) in
    adds_both _ _ _ _ counts (one_part (number c.get-in-Count.result.now)) _ suc c.in_ok-push_count-in-Count.ensures
    (λ s. ap (λ (n : Numbered). one_part n s) (number_count _ _ _ _ _ c.in-Count.is) ∙ ap (λ q. counts ++ one_part (number q) (suc s)) (sym c.get-in-Count.ensures)) c.push_usages.ensures

pub push_parts-loop-part-init : goal.push_parts-loop-part-init
push_parts-loop-part-init t c = λ site. (site, refl)

pub push_parts-loop-part-preserved : goal.push_parts-loop-part-preserved
push_parts-loop-part-preserved t c =
    adds_next number all_parts one_part behind_part c.as_slice-part-items.result.now _ c.loop-part.part-index c.loop-part.uses _ c.part-item.result parts_join c.loop-part-test.true c.part-item.is
    (λ s. c.in_default.ensures s) c.loop-part.invariant

pub push_parts-returns : goal.push_parts-returns
push_parts-returns t c =
    let r = adds_end number all_parts c.as_slice-part-items.result.now _ c.loop-part.part-index c.loop-part.uses (λ s. refl) c.loop-part-test.false c.loop-part.invariant in
    λ site. r site ∙ ap (λ ys. c.args.uses.now ++ all_parts (map number ys) site) c.as_slice-part-items.ensures

pub push_branches-loop-branch-init : goal.push_branches-loop-branch-init
push_branches-loop-branch-init t c = λ site. (site, refl)

pub push_branches-loop-branch-preserved : goal.push_branches-loop-branch-preserved
push_branches-loop-branch-preserved t c =
    adds_next number_branch all_branches one_branch behind_branch c.as_slice-branch-items.result.now _ c.loop-branch.branch-index c.loop-branch.uses _ c.branch-item.result branches_join c.loop-branch-test.true c.branch-item.is
    (λ s. c.in_default.ensures s ∙ ap (λ (n : NumberedBranch). c.loop-branch.uses ++ one_branch n s) (sym (number_branch_out c.branch-item.result))) c.loop-branch.invariant

pub push_branches-returns : goal.push_branches-returns
push_branches-returns t c =
    let r = adds_end number_branch all_branches c.as_slice-branch-items.result.now _ c.loop-branch.branch-index c.loop-branch.uses (λ s. refl) c.loop-branch-test.false c.loop-branch.invariant in
    λ site. r site ∙ ap (λ ys. c.args.uses.now ++ all_branches (map number_branch ys) site) c.as_slice-branch-items.ensures

pub push_guards-loop-guard-init : goal.push_guards-loop-guard-init
push_guards-loop-guard-init t c = λ site. (site, refl)

pub push_guards-loop-guard-preserved : goal.push_guards-loop-guard-preserved
push_guards-loop-guard-preserved t c =
    adds_next number_guard all_guards one_guard behind_guard c.as_slice-guard-items.result.now _ c.loop-guard.guard-index c.loop-guard.uses _ c.guard-item.result guards_join c.loop-guard-test.true c.guard-item.is
    (λ s. c.in_default.ensures s) c.loop-guard.invariant

pub push_guards-returns : goal.push_guards-returns
push_guards-returns t c =
    let r = adds_end number_guard all_guards c.as_slice-guard-items.result.now _ c.loop-guard.guard-index c.loop-guard.uses (λ s. refl) c.loop-guard-test.false c.loop-guard.invariant in
    λ site. r site ∙ ap (λ ys. c.args.uses.now ++ all_guards (map number_guard ys) site) c.as_slice-guard-items.ensures
