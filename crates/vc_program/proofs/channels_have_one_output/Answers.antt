use Rattle.vc_program.proofs.OneEnd.{outputs_once}
use Rattle.vc_program.proofs.channels_have_one_output.Goals as goal

pub returns : goal.returns
returns c = outputs_once
