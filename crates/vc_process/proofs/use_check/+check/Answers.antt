use Rattle.std.proofs.Common.{◌∙◌, suc, map, sym, subst, List, Err}
use Rattle.vc_process.specs.declared.process.Process.{Process}
use Rattle.vc_process.specs.declared.process.Process.TheOpen as layer
use Rattle.vc_process.specs.declared.process.Branch.{Branch}
use Rattle.vc_process.specs.declared.process.Guard.{Guard}
use Rattle.vc_process.specs.InOrder.{number}
use Rattle.vc_process.specs.Private.InOrder.{number_branch, number_guard}
use Rattle.vc_process.specs.Lawful.{FirstOffence, Lawfully, Offends, SideBySide, at_count, at_par}
use Rattle.vc_process.specs.Numbering.{NumberedBranch, NumberedGuard, numbered, parts_from, branches_from, guards_from}
use Rattle.vc_process.specs.Private.Clashes.{Judges}
use Rattle.vc_process.specs.Syntax.{PAR}
use Rattle.vc_process.specs.Terms.{as_test}
use Rattle.vc_process.proofs.Judgements.{judges_err, judges_tree, judges_seq, judges_if, judges_while, judges_alt, judges_par, judges_count, comes_next, comes_fault, comes_end, parts_so, parts_first, part_so, part_first, behind_part, parts_go, branches_so, branches_first, branch_so, branch_first, behind_branch, branches_go, guards_so, guards_first, guard_so, guard_first, behind_guard, guards_go}
use Rattle.vc_process.proofs.Numbers.{number_seq, number_par, number_if, number_while, number_alt, number_branch_out, number_guard_out}
use Rattle.vc_process.proofs.use_check.+check.Goals as goal

pub check_all-loop-part-init : goal.check_all-loop-part-init
check_all-loop-part-init t c = λ site. (site, λ h. h, λ x h. h)

pub check_all-returns-in-Err : goal.check_all-returns-in-Err
check_all-returns-in-Err t c = λ site.
    subst (λ (ps : List Process). Judges (Err c.in-Err.fault) (parts_so (map number ps) site) (parts_first (map number ps) site)) c.as_slice-part-items.ensures
    (comes_fault number parts_so parts_first part_so part_first behind_part parts_go c.as_slice-part-items.result.now c.loop-part.part-index c.part-item.result c.in-Err.fault c.loop-part-test.true c.part-item.is
    c.in-Err.ensures c.loop-part.invariant site)

pub check_all-loop-part-preserved : goal.check_all-loop-part-preserved
check_all-loop-part-preserved t c =
    comes_next number parts_so parts_first part_so part_first behind_part parts_go c.as_slice-part-items.result.now c.loop-part.part-index c.part-item.result c.loop-part-test.true c.part-item.is
    c.in_default.ensures c.loop-part.invariant

pub check_all-returns : goal.check_all-returns
check_all-returns t c = λ site.
    subst (λ (ps : List Process). parts_so (map number ps) site) c.as_slice-part-items.ensures
    (comes_end number parts_so parts_first part_so part_first behind_part parts_go c.as_slice-part-items.result.now c.loop-part.part-index c.loop-part-test.false c.loop-part.invariant site)

pub check_branches-loop-branch-init : goal.check_branches-loop-branch-init
check_branches-loop-branch-init t c = λ site. (site, λ h. h, λ x h. h)

pub check_branches-returns-in-Err : goal.check_branches-returns-in-Err
check_branches-returns-in-Err t c = λ site.
    subst (λ (bs : List Branch). Judges (Err c.in-Err.fault) (branches_so (map number_branch bs) site) (branches_first (map number_branch bs) site)) c.as_slice-branch-items.ensures
    (comes_fault number_branch branches_so branches_first branch_so branch_first behind_branch branches_go c.as_slice-branch-items.result.now c.loop-branch.branch-index c.branch-item.result c.in-Err.fault c.loop-branch-test.true c.branch-item.is
    (λ s. subst (λ (n : NumberedBranch). Judges (Err c.in-Err.fault) (branch_so n s) (branch_first n s)) (sym (number_branch_out c.branch-item.result)) (c.in-Err.ensures s)) c.loop-branch.invariant site)

pub check_branches-loop-branch-preserved : goal.check_branches-loop-branch-preserved
check_branches-loop-branch-preserved t c =
    comes_next number_branch branches_so branches_first branch_so branch_first behind_branch branches_go c.as_slice-branch-items.result.now c.loop-branch.branch-index c.branch-item.result c.loop-branch-test.true c.branch-item.is
    (λ s. subst (λ (n : NumberedBranch). branch_so n s) (sym (number_branch_out c.branch-item.result)) (c.in_default.ensures s)) c.loop-branch.invariant

pub check_branches-returns : goal.check_branches-returns
check_branches-returns t c = λ site.
    subst (λ (bs : List Branch). branches_so (map number_branch bs) site) c.as_slice-branch-items.ensures
    (comes_end number_branch branches_so branches_first branch_so branch_first behind_branch branches_go c.as_slice-branch-items.result.now c.loop-branch.branch-index c.loop-branch-test.false c.loop-branch.invariant site)

pub check_guards-loop-guard-init : goal.check_guards-loop-guard-init
check_guards-loop-guard-init t c = λ site. (site, λ h. h, λ x h. h)

pub check_guards-returns-in-Err : goal.check_guards-returns-in-Err
check_guards-returns-in-Err t c = λ site.
    subst (λ (gs : List Guard). Judges (Err c.in-Err.fault) (guards_so (map number_guard gs) site) (guards_first (map number_guard gs) site)) c.as_slice-guard-items.ensures
    (comes_fault number_guard guards_so guards_first guard_so guard_first behind_guard guards_go c.as_slice-guard-items.result.now c.loop-guard.guard-index c.guard-item.result c.in-Err.fault c.loop-guard-test.true c.guard-item.is
    (λ s. subst (λ (n : NumberedGuard). Judges (Err c.in-Err.fault) (guard_so n s) (guard_first n s)) (sym (number_guard_out c.guard-item.result)) (c.in-Err.ensures s)) c.loop-guard.invariant site)

pub check_guards-loop-guard-preserved : goal.check_guards-loop-guard-preserved
check_guards-loop-guard-preserved t c =
    comes_next number_guard guards_so guards_first guard_so guard_first behind_guard guards_go c.as_slice-guard-items.result.now c.loop-guard.guard-index c.guard-item.result c.loop-guard-test.true c.guard-item.is
    (λ s. subst (λ (n : NumberedGuard). guard_so n s) (sym (number_guard_out c.guard-item.result)) (c.in_default.ensures s)) c.loop-guard.invariant

pub check_guards-returns : goal.check_guards-returns
check_guards-returns t c = λ site.
    subst (λ (gs : List Guard). guards_so (map number_guard gs) site) c.as_slice-guard-items.ensures
    (comes_end number_guard guards_so guards_first guard_so guard_first behind_guard guards_go c.as_slice-guard-items.result.now c.loop-guard.guard-index c.loop-guard-test.false c.loop-guard.invariant site)

pub check_par-returns-in-Err : goal.check_par-returns-in-Err
check_par-returns-in-Err t c = λ i site.
    let ps = parts_from site (map number c.args.parts.now) in
    judges_err c.in-Err.fault (SideBySide ps) (Lawfully (PAR i ps)) (Offends ps) (FirstOffence (PAR i ps)) (λ x f. at_par f) (c.in-Err.ensures site)

pub check_par-returns : goal.check_par-returns
check_par-returns t c = λ i site.
    let ps = parts_from site (map number c.args.parts.now) in
    judges_par i ps c.check_all.result (c.in_default.ensures site) (c.check_all.ensures site)

pub check_count-returns-then-changes : goal.check_count-returns-then-changes
check_count-returns-then-changes t c = λ i site a n. at_count (sym (c.changes.ensures site) ∙ c.if-changes.true)

pub check_count-returns : goal.check_count-returns
check_count-returns t c = λ i site a n.
    judges_count i c.args.var a n ((number c.args.body.now).tree site) c.check_process.result (sym (c.changes.ensures site) ∙ c.if-changes.false) (c.check_process.ensures site)

pub check_process-returns-in-Seq : goal.check_process-returns-in-Seq
check_process-returns-in-Seq t c = λ site.
    let ps = map number c.in-Seq.parts in
    judges_tree _ (numbered (layer.Seq ps)) site c.check_all.result (number_seq c.args.process.now c.in-Seq.parts c.in-Seq.is) (judges_seq site (parts_from (suc site) ps) c.check_all.result (c.check_all.ensures (suc site)))

pub check_process-returns-in-Par : goal.check_process-returns-in-Par
check_process-returns-in-Par t c = λ site.
    let ps = map number c.in-Par.parts in
    judges_tree _ (numbered (layer.Par ps)) site c.check_par.result (number_par c.args.process.now c.in-Par.parts c.in-Par.is) (c.check_par.ensures site (suc site))

pub check_process-returns-in-If : goal.check_process-returns-in-If
check_process-returns-in-If t c = λ site.
    let bs = map number_branch c.in-If.branches in
    judges_tree _ (numbered (layer.If bs)) site c.check_branches.result (number_if c.args.process.now c.in-If.branches c.in-If.is) (judges_if site (branches_from (suc site) bs) c.check_branches.result (c.check_branches.ensures (suc site)))

pub check_process-returns-in-While : goal.check_process-returns-in-While
check_process-returns-in-While t c = λ site.
    let b = c.in-While.cond in
    let p = c.in-While.body in
    judges_tree _ (numbered (layer.While b (number p))) site c.check_process.result (number_while c.args.process.now b p c.in-While.is)
    (judges_while site (as_test b) ((number p).tree (suc site)) c.check_process.result
    (subst (λ (q : Process). Judges c.check_process.result (Lawfully ((number q).tree (suc site))) (FirstOffence ((number q).tree (suc site)))) c.get.ensures (c.check_process.ensures (suc site))))

pub check_process-returns-in-Alt : goal.check_process-returns-in-Alt
check_process-returns-in-Alt t c = λ site.
    let gs = map number_guard c.in-Alt.guards in
    judges_tree _ (numbered (layer.Alt gs)) site c.check_guards.result (number_alt c.args.process.now c.in-Alt.guards c.in-Alt.is) (judges_alt site (guards_from (suc site) gs) c.check_guards.result (c.check_guards.ensures (suc site)))
