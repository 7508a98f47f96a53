use Rattle.std.proofs.Common.{◌<◌, arith}
use Rattle.vc_plan.specs.Names.{channel_name}
use Rattle.vc_trace.specs.EventOf.{IsChannel}
use Rattle.vc_trace.proofs.DistinctNames.{channel_apart, numbered_more}
use Rattle.vc_trace.proofs.names.channels_of.Goals as goal

pub loop-chan-preserved : goal.loop-chan-preserved
loop-chan-preserved c = λ named.
    let p = c.args.plan.now in
    let n = c.loop-chan.chan in
    let test = c.loop-chan-test.true in
    let many0 = c.len-chan-end.ensures in
    let here : IsChannel p n = omega arith in
    numbered_more (channel_name p) n c.channel_name.result.now c.loop-chan.channels c.insert.new.self c.channel_name.ensures (λ k less. channel_apart p n k named here less)
    c.in_ok-insert.ensures.updates (c.loop-chan.invariant named)

pub returns : goal.returns
returns c = λ named k less.
    let p = c.args.plan.now in
    let test = c.loop-chan-test.false in
    let many0 = c.len-chan-end.ensures in
    let sooner : k < c.loop-chan.chan = omega arith in
    c.loop-chan.invariant named k sooner
