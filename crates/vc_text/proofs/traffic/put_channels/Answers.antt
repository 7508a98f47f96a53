use Rattle.vc_text.specs.Traffic.{channel_lines}
use Rattle.vc_text.specs.Views.{shown}
use Rattle.vc_text.proofs.TextWrites.{any_err, fails_item, passes_item}
use Rattle.vc_text.proofs.traffic.put_channels.Goals as goal

pub returns-in_err-put_channel-clause-err : goal.returns-in_err-put_channel-clause-err
returns-in_err-put_channel-clause-err g c =
    any_err c.from_residual.result
    (fails_item (λ view. channel_lines (shown view)) c.args.views.now c.loop-view.view-index c.view-item.result _ _ _ c.args.piece.now.items _ c.loop-view-test.true c.view-item.is c.loop-view.invariant c.in_err-put_channel.ensures.err)

pub loop-view-preserved : goal.loop-view-preserved
loop-view-preserved g c =
    passes_item (λ view. channel_lines (shown view)) c.args.views.now c.loop-view.view-index c.view-item.result _ _ _ c.args.piece.now.items _ _ c.loop-view-test.true c.view-item.is c.loop-view.invariant c.in_ok-put_channel.ensures.ok
