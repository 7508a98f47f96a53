use Rattle.std.proofs.lemmas.Result.{on_err_weaker, on_ok_weaker}
use Rattle.vc_text.specs.Traffic.{channel_line, message_lines}
use Rattle.vc_text.specs.Views.{shown}
use Rattle.vc_text.proofs.TextWrites.{any_err, front_first, passes_front, passes_two}
use Rattle.vc_text.proofs.traffic.put_channel.Goals as goal

pub returns-in_err-put_head-clause-err : goal.returns-in_err-put_head-clause-err
returns-in_err-put_head-clause-err g c =
    let x = shown c.args.view.now in
    any_err c.from_residual.result (front_first _ _ c.args.piece.now.items (channel_line x) (message_lines x.kind 0 x.taken) c.in_err-put_head.ensures.err)

pub returns-clause-ok : goal.returns-clause-ok
returns-clause-ok g c =
    let x = shown c.args.view.now in
    on_ok_weaker c.put_messages.result (passes_two _ _ _ c.args.piece.now.items _ _ (channel_line x) (message_lines x.kind 0 x.taken) c.in_ok-put_head.ensures.ok) c.put_messages.ensures.ok

pub returns-clause-err : goal.returns-clause-err
returns-clause-err g c =
    let x = shown c.args.view.now in
    on_err_weaker c.put_messages.result (passes_front _ _ _ c.args.piece.now.items _ (channel_line x) (message_lines x.kind 0 x.taken) c.in_ok-put_head.ensures.ok) c.put_messages.ensures.err
