use Rattle.std.proofs.Common.{◌≡◌, ◌∙◌, sym, ap, arith}
use Rattle.vc_switch.specs.Private.Opening.{listed}
use Rattle.vc_switch.specs.Opening.{range_given}
use Rattle.vc_switch.proofs.OpeningState.{count_is}
use Rattle.vc_switch.proofs.opening.ranges.Goals as goal

pub returns : goal.returns
returns c =
    let all : c.loop-link.link ≡ 32 = omega arith in
    c.loop-link.invariant ∙ ap (listed (range_given c.args.random.now)) (all ∙ sym count_is)
