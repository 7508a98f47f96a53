use Rattle.vc_program.proofs.OneEnd.{inputs_once}
use Rattle.vc_program.proofs.channels_have_one_input.Goals as goal

pub returns : goal.returns
returns c = inputs_once
