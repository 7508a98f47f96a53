use Rattle.std.proofs.Common.{suc, ◌∙◌, ◌++◌, map, sym, ap, refl}
use Rattle.vc_process.specs.ChannelUses.{channel_uses}
use Rattle.vc_process.specs.InOrder.{number}
use Rattle.vc_process.specs.Private.InOrder.{number_branch, number_guard}
use Rattle.vc_process.specs.Numbering.{Numbered, NumberedBranch, NumberedGuard}
use Rattle.vc_process.proofs.ChannelUses.{all_parts, one_part, behind_part, parts_join, all_branches, one_branch, behind_branch, branches_join, all_guards, one_guard, behind_guard, guards_join, all_alternatives}
use Rattle.vc_process.proofs.Numbers.{number_seq, number_par, number_if, number_alt, number_branch_out, number_guard_out}
use Rattle.vc_process.proofs.Walks.{adds_as, adds_next, adds_end}
use Rattle.vc_process.proofs.uses.+uses.Goals as goal

pub push_uses-returns-in-Seq : goal.push_uses-returns-in-Seq
push_uses-returns-in-Seq t c =
    let k = c.args.kinds.now in
    adds_as _ _ _ (all_parts k (map number c.in-Seq.parts)) _ suc (λ s. ap (λ (n : Numbered). one_part k n s) (number_seq _ _ c.in-Seq.is)) c.push_parts.ensures

pub push_uses-returns-in-Par : goal.push_uses-returns-in-Par
push_uses-returns-in-Par t c =
    let k = c.args.kinds.now in
    adds_as _ _ _ (all_parts k (map number c.in-Par.parts)) _ suc (λ s. ap (λ (n : Numbered). one_part k n s) (number_par _ _ c.in-Par.is)) c.push_parts-in-Par.ensures

pub push_uses-returns-in-If : goal.push_uses-returns-in-If
push_uses-returns-in-If t c =
    let k = c.args.kinds.now in
    adds_as _ _ _ (all_branches k (map number_branch c.in-If.branches)) _ suc (λ s. ap (λ (n : Numbered). one_part k n s) (number_if _ _ c.in-If.is)) c.push_branches.ensures

pub push_uses-returns-in-Alt : goal.push_uses-returns-in-Alt
push_uses-returns-in-Alt t c =
    let k = c.args.kinds.now in
    adds_as _ _ _ (all_alternatives k (map number_guard c.in-Alt.guards)) _ suc (λ s. ap (λ (n : Numbered). one_part k n s) (number_alt _ _ c.in-Alt.is)) c.push_alternatives.ensures

pub push_parts-loop-part-init : goal.push_parts-loop-part-init
push_parts-loop-part-init t c = λ site. (site, refl)

pub push_parts-loop-part-preserved : goal.push_parts-loop-part-preserved
push_parts-loop-part-preserved t c =
    let k = c.args.kinds.now in
    adds_next number (all_parts k) (one_part k) (behind_part k) c.as_slice-part-items.result.now _ c.loop-part.part-index c.loop-part.uses _ c.part-item.result (parts_join k) c.loop-part-test.true c.part-item.is
    (λ s. c.in_ok-push_uses.ensures s) c.loop-part.invariant

pub push_parts-returns : goal.push_parts-returns
push_parts-returns t c =
    let k = c.args.kinds.now in
    let r = adds_end number (all_parts k) c.as_slice-part-items.result.now _ c.loop-part.part-index c.loop-part.uses (λ s. refl) c.loop-part-test.false c.loop-part.invariant in
    λ site. r site ∙ ap (λ ys. c.args.uses.now ++ all_parts k (map number ys) site) c.as_slice-part-items.ensures

pub push_branches-loop-branch-init : goal.push_branches-loop-branch-init
push_branches-loop-branch-init t c = λ site. (site, refl)

pub push_branches-loop-branch-preserved : goal.push_branches-loop-branch-preserved
push_branches-loop-branch-preserved t c =
    let k = c.args.kinds.now in
    adds_next number_branch (all_branches k) (one_branch k) (behind_branch k) c.as_slice-branch-items.result.now _ c.loop-branch.branch-index c.loop-branch.uses _ c.branch-item.result (branches_join k) c.loop-branch-test.true c.branch-item.is
    (λ s. c.in_ok-push_uses.ensures s ∙ ap (λ (n : NumberedBranch). c.loop-branch.uses ++ channel_uses c.args.kinds.now (n.then_do.tree s)) (sym (number_branch_out c.branch-item.result))) c.loop-branch.invariant

pub push_branches-returns : goal.push_branches-returns
push_branches-returns t c =
    let k = c.args.kinds.now in
    let r = adds_end number_branch (all_branches k) c.as_slice-branch-items.result.now _ c.loop-branch.branch-index c.loop-branch.uses (λ s. refl) c.loop-branch-test.false c.loop-branch.invariant in
    λ site. r site ∙ ap (λ ys. c.args.uses.now ++ all_branches k (map number_branch ys) site) c.as_slice-branch-items.ensures

pub push_bodies-loop-guard-init : goal.push_bodies-loop-guard-init
push_bodies-loop-guard-init t c = λ site. (site, refl)

pub push_bodies-loop-guard-preserved : goal.push_bodies-loop-guard-preserved
push_bodies-loop-guard-preserved t c =
    let k = c.args.kinds.now in
    adds_next number_guard (all_guards k) (one_guard k) (behind_guard k) c.as_slice-guard-items.result.now _ c.loop-guard.guard-index c.loop-guard.uses _ c.guard-item.result (guards_join k) c.loop-guard-test.true c.guard-item.is
    (λ s. c.in_ok-push_uses.ensures s ∙ ap (λ (n : NumberedGuard). c.loop-guard.uses ++ channel_uses c.args.kinds.now (n.then_do.tree s)) (sym (number_guard_out c.guard-item.result))) c.loop-guard.invariant

pub push_bodies-returns : goal.push_bodies-returns
push_bodies-returns t c =
    let k = c.args.kinds.now in
    let r = adds_end number_guard (all_guards k) c.as_slice-guard-items.result.now _ c.loop-guard.guard-index c.loop-guard.uses (λ s. refl) c.loop-guard-test.false c.loop-guard.invariant in
    λ site. r site ∙ ap (λ ys. c.args.uses.now ++ all_guards k (map number_guard ys) site) c.as_slice-guard-items.ensures
