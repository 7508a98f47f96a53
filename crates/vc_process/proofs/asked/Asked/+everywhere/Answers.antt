use Rattle.std.proofs.Common.{◌∙◌, ◌&&◌, Bool, true, map, sym, ap, refl}
use Rattle.vc_process.specs.Private.Questions.{asking, everywhere}
use Rattle.vc_process.specs.InOrder.{number}
use Rattle.vc_process.specs.Private.InOrder.{number_branch, number_guard}
use Rattle.vc_process.specs.Numbering.{NumberedBranch, NumberedGuard}
use Rattle.vc_process.proofs.Everywhere.{of_if, of_alt, all_parts, one_part, behind_part, parts_split, all_branches, one_branch, behind_branch, branches_split, all_guards, one_guard, behind_guard, guards_split}
use Rattle.vc_process.proofs.Numbers.{number_if, number_alt, number_branch_out, number_guard_out}
use Rattle.vc_process.proofs.Walks.{reaches_next, reaches_false, reaches_end}
use Rattle.vc_process.proofs.asked.Asked.+everywhere.Goals as goal

pub everywhere-returns-in-If : goal.everywhere-returns-in-If
everywhere-returns-in-If t c = λ site.
    of_if (asking c.args.self c.args.kinds.now) (number c.args.process.now) (map number_branch c.in-If.branches) site _ (number_if c.args.process.now c.in-If.branches c.in-If.is) c.in_branches.ensures (sym c.if-not-itself.false ∙ c.itself.ensures site)

pub everywhere-returns-in-Alt : goal.everywhere-returns-in-Alt
everywhere-returns-in-Alt t c = λ site.
    of_alt (asking c.args.self c.args.kinds.now) (number c.args.process.now) (map number_guard c.in-Alt.guards) site _ (number_alt c.args.process.now c.in-Alt.guards c.in-Alt.is) c.in_guards.ensures (sym c.if-not-itself.false ∙ c.itself.ensures site)

pub in_branch-returns-then-condition : goal.in_branch-returns-then-condition
in_branch-returns-then-condition t c = λ site.
    let a = asking c.args.self c.args.kinds.now in
    let b = c.args.branch.now in
    let whole : NumberedBranch → Bool = λ n. a.condition n.when && everywhere a (n.then_do.tree site) in
    c.everywhere.ensures site ∙ ap (λ x. x && everywhere a ((number b.body).tree site)) (sym c.if-condition.true ∙ c.condition.ensures) ∙ ap whole (sym (number_branch_out b))

pub in_guard-returns-then-guard : goal.in_guard-returns-then-guard
in_guard-returns-then-guard t c = λ site.
    let a = asking c.args.self c.args.kinds.now in
    let g = c.args.guard.now in
    let whole : NumberedGuard → Bool = λ n. a.condition n.when && a.channel n.chan && a.variable n.var && everywhere a (n.then_do.tree site) in
    c.everywhere.ensures site ∙ ap (λ x. x && everywhere a ((number g.body).tree site)) (sym c.if-guard.true ∙ c.guard.ensures) ∙ ap whole (sym (number_guard_out g))

pub in_parts-loop-part-init : goal.in_parts-loop-part-init
in_parts-loop-part-init t c = λ site. (site, refl)

pub in_parts-returns-then-not-everywhere : goal.in_parts-returns-then-not-everywhere
in_parts-returns-then-not-everywhere t c =
    let a = asking c.args.self c.args.kinds.now in
    let xs = c.as_slice-part-items.result.now in
    let r = reaches_false number (all_parts a) (one_part a) (behind_part a) xs c.loop-part.part-index c.part-item.result (parts_split a) c.loop-part-test.true c.part-item.is
    (λ s. sym c.if-not-everywhere.true ∙ c.everywhere.ensures s) c.loop-part.invariant in
    λ site. r site ∙ ap (λ ys. all_parts a (map number ys) site) c.as_slice-part-items.ensures

pub in_parts-loop-part-preserved : goal.in_parts-loop-part-preserved
in_parts-loop-part-preserved t c =
    let a = asking c.args.self c.args.kinds.now in
    reaches_next number (all_parts a) (one_part a) (behind_part a) c.as_slice-part-items.result.now c.loop-part.part-index c.part-item.result (parts_split a) c.loop-part-test.true c.part-item.is
    (λ s. sym c.if-not-everywhere.false ∙ c.everywhere.ensures s) c.loop-part.invariant

pub in_parts-returns : goal.in_parts-returns
in_parts-returns t c =
    let a = asking c.args.self c.args.kinds.now in
    let xs = c.as_slice-part-items.result.now in
    let r = reaches_end number (all_parts a) xs c.loop-part.part-index true (λ s. refl) c.loop-part-test.false c.loop-part.invariant in
    λ site. r site ∙ ap (λ ys. all_parts a (map number ys) site) c.as_slice-part-items.ensures

pub in_branches-loop-branch-init : goal.in_branches-loop-branch-init
in_branches-loop-branch-init t c = λ site. (site, refl)

pub in_branches-returns-then-not-in_branch : goal.in_branches-returns-then-not-in_branch
in_branches-returns-then-not-in_branch t c =
    let a = asking c.args.self c.args.kinds.now in
    let xs = c.as_slice-branch-items.result.now in
    let r = reaches_false number_branch (all_branches a) (one_branch a) (behind_branch a) xs c.loop-branch.branch-index c.branch-item.result (branches_split a) c.loop-branch-test.true c.branch-item.is
    (λ s. sym c.if-not-in_branch.true ∙ c.in_branch.ensures s) c.loop-branch.invariant in
    λ site. r site ∙ ap (λ ys. all_branches a (map number_branch ys) site) c.as_slice-branch-items.ensures

pub in_branches-loop-branch-preserved : goal.in_branches-loop-branch-preserved
in_branches-loop-branch-preserved t c =
    let a = asking c.args.self c.args.kinds.now in
    reaches_next number_branch (all_branches a) (one_branch a) (behind_branch a) c.as_slice-branch-items.result.now c.loop-branch.branch-index c.branch-item.result (branches_split a) c.loop-branch-test.true c.branch-item.is
    (λ s. sym c.if-not-in_branch.false ∙ c.in_branch.ensures s) c.loop-branch.invariant

pub in_branches-returns : goal.in_branches-returns
in_branches-returns t c =
    let a = asking c.args.self c.args.kinds.now in
    let xs = c.as_slice-branch-items.result.now in
    let r = reaches_end number_branch (all_branches a) xs c.loop-branch.branch-index true (λ s. refl) c.loop-branch-test.false c.loop-branch.invariant in
    λ site. r site ∙ ap (λ ys. all_branches a (map number_branch ys) site) c.as_slice-branch-items.ensures

pub in_guards-loop-guard-init : goal.in_guards-loop-guard-init
in_guards-loop-guard-init t c = λ site. (site, refl)

pub in_guards-returns-then-not-in_guard : goal.in_guards-returns-then-not-in_guard
in_guards-returns-then-not-in_guard t c =
    let a = asking c.args.self c.args.kinds.now in
    let xs = c.as_slice-guard-items.result.now in
    let r = reaches_false number_guard (all_guards a) (one_guard a) (behind_guard a) xs c.loop-guard.guard-index c.guard-item.result (guards_split a) c.loop-guard-test.true c.guard-item.is
    (λ s. sym c.if-not-in_guard.true ∙ c.in_guard.ensures s) c.loop-guard.invariant in
    λ site. r site ∙ ap (λ ys. all_guards a (map number_guard ys) site) c.as_slice-guard-items.ensures

pub in_guards-loop-guard-preserved : goal.in_guards-loop-guard-preserved
in_guards-loop-guard-preserved t c =
    let a = asking c.args.self c.args.kinds.now in
    reaches_next number_guard (all_guards a) (one_guard a) (behind_guard a) c.as_slice-guard-items.result.now c.loop-guard.guard-index c.guard-item.result (guards_split a) c.loop-guard-test.true c.guard-item.is
    (λ s. sym c.if-not-in_guard.false ∙ c.in_guard.ensures s) c.loop-guard.invariant

pub in_guards-returns : goal.in_guards-returns
in_guards-returns t c =
    let a = asking c.args.self c.args.kinds.now in
    let xs = c.as_slice-guard-items.result.now in
    let r = reaches_end number_guard (all_guards a) xs c.loop-guard.guard-index true (λ s. refl) c.loop-guard-test.false c.loop-guard.invariant in
    λ site. r site ∙ ap (λ ys. all_guards a (map number_guard ys) site) c.as_slice-guard-items.ensures
