use Rattle.std.proofs.Common.{◌<◌, ◌≤◌, ap, ◌∙◌, map, length, arith}
use Rattle.vc_core.specs.State.{shown, state_of}
use Rattle.vc_actor.proofs.ChannelWays.{few_channels}
use Rattle.vc_text.specs.Views.{shown as traffic_of}
use Rattle.vc_text.proofs.Channels.{viewed_more, viewed_all}
use Rattle.vc_text.proofs.run.views.Goals as goal
use Rattle.vc_switch.proofs.ListWrites.{some_at}

pub loop-chan-preserved : goal.loop-chan-preserved
loop-chan-preserved c = λ p is.
    let many = c.channels-chan-end.ensures p is in
    let test = c.loop-chan-test.true in
    let less : c.loop-chan.chan < length p.channels = omega arith in
    let x = some_at p.channels c.loop-chan.chan less in
    ap (map traffic_of) c.in_ok-push.ensures.items ∙ viewed_more p (shown (state_of c.args.network.now)) c.loop-chan.views.items c.view_of.result c.loop-chan.chan x.0 x.1 less (c.loop-chan.invariant p is) (c.view_of.ensures p x.0 is x.1)

pub returns : goal.returns
returns c = λ p is.
    let many = c.channels-chan-end.ensures p is in
    let few = few_channels p is.accepted in
    let test = c.loop-chan-test.false in
    let past : length p.channels ≤ c.loop-chan.chan = omega arith in
    viewed_all p (shown (state_of c.args.network.now)) c.loop-chan.views.items c.loop-chan.chan past (c.loop-chan.invariant p is)
