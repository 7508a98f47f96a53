use Rattle.std.proofs.Common.{◌∙◌, ◌∷◌, ◌++◌, [], Option, map, ap, sym, refl, slice_get}
use Rattle.vc_process.specs.declared.process.Process.TheViews.{out-Guard}
use Rattle.vc_process.specs.declared.value_kind.ValueKind.{ValueKind}
use Rattle.vc_process.specs.Private.InOrder.{number_guard}
use Rattle.vc_process.specs.Numbering.{NumberedGuard}
use Rattle.vc_process.specs.Terms.{as_test}
use Rattle.vc_process.specs.Usage.{in_test}
use Rattle.vc_process.proofs.Numbers.{number_guard_out}
use Rattle.vc_reader.specs.declared.path.Step.TheVariants.{Field, Index}
use Rattle.vc_reader.specs.declared.word.Word.TheVariants as word
use Rattle.vc_explain.specs.Uses.{change, expression, input, wants}
use Rattle.vc_explain.proofs.Locations.{behind_guard}
use Rattle.vc_explain.proofs.Own.{in_input, in_inputs, inputs_open, marks_three}
use Rattle.vc_explain.proofs.Sought.{sought_end, sought_found, sought_next}
use Rattle.vc_explain.proofs.place_of_use.wanted_guard.Goals as goal

pub loop-k-init : goal.loop-k-init
loop-k-init c = λ site. (site, refl)

pub returns-in-Some : goal.returns-in-Some
returns-in-Some c =
    let w = c.args.wanted in
    let kinds = c.args.kinds.now in
    let at = c.args.at.now in
    let k = c.loop-k.k in
    let x = c.guard-item.result in
    let g = out-Guard x in
    let own = marks_three w (at ++ Field word.Alt ∷ Index k ∷ []) (expression (in_test (as_test g.cond))) (input g.chan (slice_get kinds g.var)) (change g.var) c.has_condition.result c.has_input.result c.has_change.result
    c.has_condition.ensures (c.has_input.ensures ∙ ap (λ (o : Option ValueKind). wants w (input g.chan o)) c.kind_at.ensures) c.has_change.ensures in
    let r = sought_found number_guard (in_inputs w kinds at) (in_input w kinds at) behind_guard c.as_slice-guard-items.result.now k x c.in-Some.found (inputs_open w kinds at) c.loop-k-test.true c.guard-item.is
    (λ s. sym c.in-Some.is ∙ c.in_ok-found.ensures ∙ own ∙ ap (λ (n : NumberedGuard). in_input w kinds at k n s) (sym (number_guard_out x))) c.loop-k.invariant in
    λ site. r site ∙ ap (λ ys. in_inputs w kinds at 0 (map number_guard ys) site) c.as_slice-guard-items.ensures

pub loop-k-preserved : goal.loop-k-preserved
loop-k-preserved c =
    let w = c.args.wanted in
    let kinds = c.args.kinds.now in
    let at = c.args.at.now in
    let k = c.loop-k.k in
    let x = c.guard-item.result in
    let g = out-Guard x in
    let own = marks_three w (at ++ Field word.Alt ∷ Index k ∷ []) (expression (in_test (as_test g.cond))) (input g.chan (slice_get kinds g.var)) (change g.var) c.has_condition.result c.has_input.result c.has_change.result
    c.has_condition.ensures (c.has_input.ensures ∙ ap (λ (o : Option ValueKind). wants w (input g.chan o)) c.kind_at.ensures) c.has_change.ensures in
    sought_next number_guard (in_inputs w kinds at) (in_input w kinds at) behind_guard c.as_slice-guard-items.result.now k x (inputs_open w kinds at) c.loop-k-test.true c.guard-item.is
    (λ s. sym c.in_default.is ∙ c.in_ok-found.ensures ∙ own ∙ ap (λ (n : NumberedGuard). in_input w kinds at k n s) (sym (number_guard_out x))) c.loop-k.invariant

pub returns : goal.returns
returns c =
    let w = c.args.wanted in
    let kinds = c.args.kinds.now in
    let at = c.args.at.now in
    let r = sought_end number_guard (in_inputs w kinds at) c.as_slice-guard-items.result.now c.loop-k.k (λ s. refl) c.loop-k-test.false c.loop-k.invariant in
    λ site. r site ∙ ap (λ ys. in_inputs w kinds at 0 (map number_guard ys) site) c.as_slice-guard-items.ensures
