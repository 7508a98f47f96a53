use Rattle.std.proofs.Common.{◌≡◌, ◌∙◌, sym, ap, arith}
use Rattle.vc_switch.specs.Private.Opening.{listed, new_link_in}
use Rattle.vc_switch.proofs.OpeningState.{count_is}
use Rattle.vc_switch.proofs.opening.inputs.Goals as goal

pub returns : goal.returns
returns c =
    let all : c.loop-link._link ≡ 32 = omega arith in
    c.loop-link.invariant ∙ ap (listed (λ link. new_link_in c.args.limit)) (all ∙ sym count_is)
