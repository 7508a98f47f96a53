use Rattle.std.proofs.Common.{Err, subst, sym}
use Rattle.vc_core.specs.State.{shown, state_of}
use Rattle.vc_text.specs.RunText.{WritesRun}
use Rattle.vc_text.proofs.StepText.{handed_on, run_unwritten, writes_one}
use Rattle.vc_stats.specs.declared.form.Form.TheVariants.{Json}
use Rattle.vc_stats.specs.Private.Told.{told_text}
use Rattle.vc_stats.specs.Texts.{IsTrafficJson}
use Rattle.vc_stats.proofs.step_run.json_plan.Goals as goal

pub returns-in_err-write_told : goal.returns-in_err-write_told
returns-in_err-write_told g c =
    let p = c.args.accepted.now in
    let x = shown (state_of c.in_ok-network.network) in
    let close = c.in_ok-network.close in
    let ran = c.in_ok-network.ensures.run in
    let old = g.W.Write.contents c.args.writer.now in
    let new = g.W.Write.contents c.write_told.new.writer in
    let fault = c.in_err-write_told.field-0.0 in
    let text = told_text Json c.in_ok-tail.tail in
    let is = c.in_ok-tail.ensures p ran.0 c.in_ok-network.ensures.is in
    let wrote = c.in_err-write_told.ensures in
    subst (WritesRun IsTrafficJson p old new c.args.options.schedule c.args.options.limit) (sym (handed_on c.from_residual-in_err-write_told.result fault c.from_residual-in_err-write_told.ensures))
    (run_unwritten IsTrafficJson old new c.args.options.schedule c.args.options.limit p ran.0 x close fault ran.1 (writes_one (IsTrafficJson p ran.0 x close) old new text (Err fault) is wrote))
