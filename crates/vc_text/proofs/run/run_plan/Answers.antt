use Rattle.std.proofs.Common.{subst, sym}
use Rattle.vc_core.specs.State.{shown, state_of}
use Rattle.vc_text.specs.RunText.{RunsPlan}
use Rattle.vc_text.proofs.StepText.{handed_on, unwritten}
use Rattle.vc_text.proofs.run.run_plan.Goals as goal

pub returns-in_err-write_traffic : goal.returns-in_err-write_traffic
returns-in_err-write_traffic g c =
    let p = c.args.accepted.now in
    let ran = c.in_ok-network.ensures.run in
    let x = shown (state_of c.in_ok-network.network) in
    let report = c.in_ok-network.report in
    let old = g.W.Write.contents c.args.writer.now in
    let new = g.W.Write.contents c.write_traffic.new.writer in
    subst (RunsPlan p old new c.args.limit) (sym (handed_on c.from_residual-in_err-write_traffic.result c.in_err-write_traffic.field-0.0 c.from_residual-in_err-write_traffic.ensures))
    (unwritten old new c.args.limit p report.events x report.close c.in_err-write_traffic.field-0.0 ran (c.in_err-write_traffic.ensures p c.in_ok-network.ensures.is))

pub returns : goal.returns
returns g c =
    let p = c.args.accepted.now in
    (shown (state_of c.in_ok-network.network), c.in_ok-network.ensures.run, c.in_ok-write_traffic.ensures p c.in_ok-network.ensures.is)
