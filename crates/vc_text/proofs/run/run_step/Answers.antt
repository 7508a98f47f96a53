use Rattle.vc_text.specs.CheckText.{ReadsAccepted}
use Rattle.vc_text.proofs.CheckText.{memory_any}
use Rattle.vc_text.proofs.StepText.{steps_by}
use Rattle.vc_text.proofs.run.run_step.Goals as goal

pub returns : goal.returns
returns g c =
    let known = g.R.Read.remaining c.args.reader.now in
    steps_by (ReadsAccepted known) (memory_any known) c.in_ok-accepted.accepted (g.W.Write.contents c.args.writer.now) _ c.args.limit _ c.in_ok-accepted.ensures c.run_plan.ensures
