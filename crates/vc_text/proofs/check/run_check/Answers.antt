use Rattle.vc_text.specs.CheckText.{accepted_text}
use Rattle.vc_text.proofs.CheckText.{tells_accepted}
use Rattle.vc_text.proofs.check.run_check.Goals as goal

pub returns : goal.returns
returns g c = tells_accepted accepted_text _ _ _ c.in_ok-accepted.accepted _ c.in_ok-accepted.ensures (rw c.plan.ensures.plan at c.write_accepted.ensures)
