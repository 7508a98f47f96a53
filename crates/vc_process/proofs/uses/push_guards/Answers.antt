use Rattle.std.proofs.Common.{◌∙◌, ◌++◌, [], ◌∷◌, map, sym, ap, refl}
use Rattle.vc_process.specs.ChannelUses.{inputs_on}
use Rattle.vc_process.specs.Private.InOrder.{number_guard}
use Rattle.vc_process.specs.Numbering.{NumberedGuard}
use Rattle.vc_process.proofs.ChannelUses.{all_inputs, one_input, behind_input, inputs_join}
use Rattle.vc_process.proofs.Numbers.{number_guard_out}
use Rattle.vc_process.proofs.Walks.{adds_next, adds_end}
use Rattle.vc_process.proofs.uses.push_guards.Goals as goal

pub loop-guard-init : goal.loop-guard-init
loop-guard-init c = λ site. (site, refl)

pub loop-guard-preserved : goal.loop-guard-preserved
loop-guard-preserved c =
    let k = c.args.kinds.now in
    let g = c.guard-item.result in
    let us = c.loop-guard.uses in
    adds_next number_guard (all_inputs k) (one_input k) (behind_input k) c.as_slice-guard-items.result.now _ c.loop-guard.guard-index us _ g (inputs_join k) c.loop-guard-test.true c.guard-item.is
    (λ s. c.in_ok-push_input.ensures ∙ ap (λ o. us ++ inputs_on g.chan o ∷ []) c.kind_at.ensures ∙ ap (λ (n : NumberedGuard). us ++ one_input k n s) (sym (number_guard_out g))) c.loop-guard.invariant

pub returns : goal.returns
returns c =
    let k = c.args.kinds.now in
    let r = adds_end number_guard (all_inputs k) c.as_slice-guard-items.result.now _ c.loop-guard.guard-index c.loop-guard.uses (λ s. refl) c.loop-guard-test.false c.loop-guard.invariant in
    λ site. r site ∙ ap (λ ys. c.args.uses.now ++ all_inputs k (map number_guard ys) site) c.as_slice-guard-items.ensures
