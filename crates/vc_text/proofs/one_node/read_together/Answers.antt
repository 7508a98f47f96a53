use Rattle.vc_text.proofs.StepText.{reads_together}
use Rattle.vc_text.proofs.one_node.read_together.Goals as goal

pub returns : goal.returns
returns g c = reads_together _ c.in_ok-accepted.accepted _ c.in_ok-accepted.ensures c.joined.ensures
