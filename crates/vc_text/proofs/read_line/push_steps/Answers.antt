use Rattle.vc_text.specs.FaultLine.{step_text}
use Rattle.vc_text.proofs.Texts.{text_more}
use Rattle.vc_text.proofs.read_line.push_steps.Goals as goal

pub loop-n-preserved : goal.loop-n-preserved
loop-n-preserved c =
    rw (c.in_ok-push_step.ensures.ok, c.loop-n.invariant)
    (text_more step_text c.args.path.now c.loop-n.n c.step.result c.args.out.now.items c.step.ensures)
