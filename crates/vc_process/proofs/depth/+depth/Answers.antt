use Rattle.std.proofs.Common.{◌-◌, ◌∙◌, true, map, sym, ap, refl}
use Rattle.vc_process.specs.InOrder.{number}
use Rattle.vc_process.specs.Private.InOrder.{number_branch, number_guard}
use Rattle.vc_process.specs.Numbering.{NumberedBranch, NumberedGuard}
use Rattle.vc_process.specs.ProcessLimits.{depth_within}
use Rattle.vc_process.proofs.Deep.{all_parts, one_part, behind_part, parts_split, all_branches, one_branch, behind_branch, branches_split, all_guards, one_guard, behind_guard, guards_split}
use Rattle.vc_process.proofs.Numbers.{number_branch_out, number_guard_out}
use Rattle.vc_process.proofs.Walks.{reaches_next, reaches_false, reaches_end}
use Rattle.vc_process.proofs.depth.+depth.Goals as goal

pub parts_within-loop-part-init : goal.parts_within-loop-part-init
parts_within-loop-part-init t c = λ site. (site, refl)

pub parts_within-returns-then-not-depth_within : goal.parts_within-returns-then-not-depth_within
parts_within-returns-then-not-depth_within t c =
    let d = c.args.depth in
    let r = reaches_false number (all_parts d) (one_part d) (behind_part d) c.as_slice-part-items.result.now c.loop-part.part-index c.part-item.result (parts_split d) c.loop-part-test.true c.part-item.is
    (λ s. sym c.if-not-depth_within.true ∙ c.depth_within.ensures s) c.loop-part.invariant in
    λ site. r site ∙ ap (λ ys. all_parts d (map number ys) site) c.as_slice-part-items.ensures

pub parts_within-loop-part-preserved : goal.parts_within-loop-part-preserved
parts_within-loop-part-preserved t c =
    let d = c.args.depth in
    reaches_next number (all_parts d) (one_part d) (behind_part d) c.as_slice-part-items.result.now c.loop-part.part-index c.part-item.result (parts_split d) c.loop-part-test.true c.part-item.is
    (λ s. sym c.if-not-depth_within.false ∙ c.depth_within.ensures s) c.loop-part.invariant

pub parts_within-returns : goal.parts_within-returns
parts_within-returns t c =
    let d = c.args.depth in
    let r = reaches_end number (all_parts d) c.as_slice-part-items.result.now c.loop-part.part-index true (λ s. refl) c.loop-part-test.false c.loop-part.invariant in
    λ site. r site ∙ ap (λ ys. all_parts d (map number ys) site) c.as_slice-part-items.ensures

pub branches_within-loop-branch-init : goal.branches_within-loop-branch-init
branches_within-loop-branch-init t c = λ site. (site, refl)

pub branches_within-returns-then-not-depth_within : goal.branches_within-returns-then-not-depth_within
branches_within-returns-then-not-depth_within t c =
    let d = c.args.depth in
    let r = reaches_false number_branch (all_branches d) (one_branch d) (behind_branch d) c.as_slice-branch-items.result.now c.loop-branch.branch-index c.branch-item.result (branches_split d) c.loop-branch-test.true c.branch-item.is
    (λ s. sym c.if-not-depth_within.true ∙ c.depth_within.ensures s ∙ ap (λ (n : NumberedBranch). depth_within (n.then_do.tree s) c.args.depth) (sym (number_branch_out c.branch-item.result))) c.loop-branch.invariant in
    λ site. r site ∙ ap (λ ys. all_branches d (map number_branch ys) site) c.as_slice-branch-items.ensures

pub branches_within-loop-branch-preserved : goal.branches_within-loop-branch-preserved
branches_within-loop-branch-preserved t c =
    let d = c.args.depth in
    reaches_next number_branch (all_branches d) (one_branch d) (behind_branch d) c.as_slice-branch-items.result.now c.loop-branch.branch-index c.branch-item.result (branches_split d) c.loop-branch-test.true c.branch-item.is
    (λ s. sym c.if-not-depth_within.false ∙ c.depth_within.ensures s ∙ ap (λ (n : NumberedBranch). depth_within (n.then_do.tree s) c.args.depth) (sym (number_branch_out c.branch-item.result))) c.loop-branch.invariant

pub branches_within-returns : goal.branches_within-returns
branches_within-returns t c =
    let d = c.args.depth in
    let r = reaches_end number_branch (all_branches d) c.as_slice-branch-items.result.now c.loop-branch.branch-index true (λ s. refl) c.loop-branch-test.false c.loop-branch.invariant in
    λ site. r site ∙ ap (λ ys. all_branches d (map number_branch ys) site) c.as_slice-branch-items.ensures

pub guards_within-loop-guard-init : goal.guards_within-loop-guard-init
guards_within-loop-guard-init t c = λ site. (site, refl)

pub guards_within-returns-then-not-depth_within : goal.guards_within-returns-then-not-depth_within
guards_within-returns-then-not-depth_within t c =
    let d = c.args.depth in
    let r = reaches_false number_guard (all_guards d) (one_guard d) (behind_guard d) c.as_slice-guard-items.result.now c.loop-guard.guard-index c.guard-item.result (guards_split d) c.loop-guard-test.true c.guard-item.is
    (λ s. sym c.if-not-depth_within.true ∙ c.depth_within.ensures s ∙ ap (λ (n : NumberedGuard). depth_within (n.then_do.tree s) c.args.depth) (sym (number_guard_out c.guard-item.result))) c.loop-guard.invariant in
    λ site. r site ∙ ap (λ ys. all_guards d (map number_guard ys) site) c.as_slice-guard-items.ensures

pub guards_within-loop-guard-preserved : goal.guards_within-loop-guard-preserved
guards_within-loop-guard-preserved t c =
    let d = c.args.depth in
    reaches_next number_guard (all_guards d) (one_guard d) (behind_guard d) c.as_slice-guard-items.result.now c.loop-guard.guard-index c.guard-item.result (guards_split d) c.loop-guard-test.true c.guard-item.is
    (λ s. sym c.if-not-depth_within.false ∙ c.depth_within.ensures s ∙ ap (λ (n : NumberedGuard). depth_within (n.then_do.tree s) c.args.depth) (sym (number_guard_out c.guard-item.result))) c.loop-guard.invariant

pub guards_within-returns : goal.guards_within-returns
guards_within-returns t c =
    let d = c.args.depth in
    let r = reaches_end number_guard (all_guards d) c.as_slice-guard-items.result.now c.loop-guard.guard-index true (λ s. refl) c.loop-guard-test.false c.loop-guard.invariant in
    λ site. r site ∙ ap (λ ys. all_guards d (map number_guard ys) site) c.as_slice-guard-items.ensures
