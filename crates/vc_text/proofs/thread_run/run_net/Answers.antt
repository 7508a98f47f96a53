use Rattle.std.proofs.Common.{Err, false, refl, subst, sym}
use Rattle.vc_core.specs.State.{shown, state_of}
use Rattle.vc_threads.specs.declared.report.Ending.{Ending}
use Rattle.vc_text.specs.ChannelStates.{channels_of}
use Rattle.vc_text.specs.Tail.{IsTail}
use Rattle.vc_text.specs.ThreadsText.{RunsInThreads}
use Rattle.vc_text.specs.Traffic.{traffic}
use Rattle.vc_text.proofs.StepText.{handed_on, writes_one}
use Rattle.vc_text.proofs.ThreadText.{threads_unwritten}
use Rattle.vc_text.proofs.thread_run.run_net.Goals as goal

pub returns-in_err-write_traffic : goal.returns-in_err-write_traffic
returns-in_err-write_traffic g c =
    let p = c.in_ok-accepted.accepted in
    let r = c.in_ok-report.report in
    let e : Ending = record { state = r.state; stops = r.stops; close = r.close } in
    let x = shown (state_of r.state) in
    let known = g.R.Read.remaining c.args.reader.now in
    let old = g.W.Write.contents c.args.writer.now in
    let new = g.W.Write.contents c.write_traffic.new.writer in
    let fault = c.in_err-write_traffic.field-0.0 in
    let wrote = writes_one (IsTail false p r.steps.items x r.close) old new (traffic (channels_of p x) r.close) (Err fault) refl (c.in_err-write_traffic.ensures p c.in_ok-report.ensures.replays.is) in
    subst (RunsInThreads c.args.turns c.args.seed known old new) (sym (handed_on c.from_residual-in_err-write_traffic.result c.in_err-write_traffic.field-0.0 c.from_residual-in_err-write_traffic.ensures))
    (threads_unwritten (IsTail false) c.args.turns c.args.seed known old new p e r.steps.items fault c.in_ok-accepted.ensures c.in_ok-report.ensures wrote)

pub returns : goal.returns
returns g c =
    let p = c.in_ok-accepted.accepted in
    let r = c.in_ok-report.report in
    let x = shown (state_of r.state) in
    (p, c.in_ok-accepted.ensures, c.in_ok-report.ensures, (traffic (channels_of p x) r.close, refl, c.in_ok-write_traffic.ensures p c.in_ok-report.ensures.replays.is))
