use Rattle.std.proofs.Common.{◌≡◌, ◌∙◌, sym, ap, arith}
use Rattle.vc_switch.specs.Private.Opening.{listed, new_link_out}
use Rattle.vc_switch.proofs.OpeningState.{count_is}
use Rattle.vc_switch.proofs.opening.outputs.Goals as goal

pub returns : goal.returns
returns c =
    let all : c.loop-link._link ≡ 32 = omega arith in
    c.loop-link.invariant ∙ ap (listed (λ link. new_link_out)) (all ∙ sym count_is)
