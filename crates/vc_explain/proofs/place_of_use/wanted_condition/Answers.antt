use Rattle.std.proofs.Common.{◌∙◌, ◌∷◌, ◌++◌, [], map, ap, sym, refl}
use Rattle.vc_process.specs.declared.process.Process.TheViews.{out-Branch}
use Rattle.vc_process.specs.Private.InOrder.{number_branch}
use Rattle.vc_process.specs.Numbering.{NumberedBranch}
use Rattle.vc_process.specs.Terms.{as_test}
use Rattle.vc_process.specs.Usage.{in_test}
use Rattle.vc_process.proofs.Numbers.{number_branch_out}
use Rattle.vc_reader.specs.declared.path.Step.TheVariants.{Field, Index}
use Rattle.vc_reader.specs.declared.word.Word.TheVariants as word
use Rattle.vc_explain.specs.Uses.{expression}
use Rattle.vc_explain.proofs.Locations.{behind_branch}
use Rattle.vc_explain.proofs.Own.{conditions_open, in_condition, in_conditions, marks_one}
use Rattle.vc_explain.proofs.Sought.{sought_end, sought_found, sought_next}
use Rattle.vc_explain.proofs.place_of_use.wanted_condition.Goals as goal

pub loop-k-init : goal.loop-k-init
loop-k-init c = λ site. (site, refl)

pub returns-in-Some : goal.returns-in-Some
returns-in-Some c =
    let w = c.args.wanted in
    let at = c.args.at.now in
    let k = c.loop-k.k in
    let x = c.branch-item.result in
    let own = marks_one w (at ++ Field word.If ∷ Index k ∷ []) (expression (in_test (as_test (out-Branch x).cond))) c.has_condition.result c.has_condition.ensures in
    let r = sought_found number_branch (in_conditions w at) (in_condition w at) behind_branch c.as_slice-branch-items.result.now k x c.in-Some.found (conditions_open w at) c.loop-k-test.true c.branch-item.is
    (λ s. sym c.in-Some.is ∙ c.in_ok-found.ensures ∙ own ∙ ap (λ (n : NumberedBranch). in_condition w at k n s) (sym (number_branch_out x))) c.loop-k.invariant in
    λ site. r site ∙ ap (λ ys. in_conditions w at 0 (map number_branch ys) site) c.as_slice-branch-items.ensures

pub loop-k-preserved : goal.loop-k-preserved
loop-k-preserved c =
    let w = c.args.wanted in
    let at = c.args.at.now in
    let k = c.loop-k.k in
    let x = c.branch-item.result in
    let own = marks_one w (at ++ Field word.If ∷ Index k ∷ []) (expression (in_test (as_test (out-Branch x).cond))) c.has_condition.result c.has_condition.ensures in
    sought_next number_branch (in_conditions w at) (in_condition w at) behind_branch c.as_slice-branch-items.result.now k x (conditions_open w at) c.loop-k-test.true c.branch-item.is
    (λ s. sym c.in_default.is ∙ c.in_ok-found.ensures ∙ own ∙ ap (λ (n : NumberedBranch). in_condition w at k n s) (sym (number_branch_out x))) c.loop-k.invariant

pub returns : goal.returns
returns c =
    let w = c.args.wanted in
    let at = c.args.at.now in
    let r = sought_end number_branch (in_conditions w at) c.as_slice-branch-items.result.now c.loop-k.k (λ s. refl) c.loop-k-test.false c.loop-k.invariant in
    λ site. r site ∙ ap (λ ys. in_conditions w at 0 (map number_branch ys) site) c.as_slice-branch-items.ensures
