use Rattle.vc_switch.proofs.Steps.{each_comes}
use Rattle.vc_switch.proofs.laws.each_token_comes.Goals as goal

pub returns : goal.returns
returns c = each_comes
