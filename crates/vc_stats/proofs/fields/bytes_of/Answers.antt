use Rattle.std.proofs.Common.{◌≡◌, ◌+◌, ◌-◌, ◌^◌, min, length, arith, subst}
use Rattle.std.specs.List.{sum_by}
use Rattle.vc_blocks.specs.Messages.{listed}
use Rattle.vc_stats.specs.Fields.{bytes_of}
use Rattle.vc_stats.proofs.fields.bytes_of.Goals as goal

pub returns : goal.returns
returns c =
    let all = subst (λ xs. min (c.loop-message.bytes + sum_by length xs) (2 ^ 64 - 1) ≡ bytes_of (listed c.args.messages)) c.in-None.ensures.steps.0 c.loop-message.invariant.1 in
    omega (arith, all, c.loop-message.invariant.0)
