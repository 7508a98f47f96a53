use Rattle.std.proofs.Common.{◌≡◌, ◌∙◌, sym, ap, arith}
use Rattle.vc_switch.specs.Private.Opening.{listed}
use Rattle.vc_switch.specs.Opening.{deletes}
use Rattle.vc_switch.proofs.OpeningState.{count_is}
use Rattle.vc_switch.proofs.opening.deletions.Goals as goal

pub returns : goal.returns
returns c =
    let all : c.loop-link.link ≡ 32 = omega arith in
    c.loop-link.invariant ∙ ap (listed (deletes c.args.delete.now)) (all ∙ sym count_is)
