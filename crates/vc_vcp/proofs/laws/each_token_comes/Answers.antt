use Rattle.vc_vcp.proofs.Arrivals.{comes_always}
use Rattle.vc_vcp.proofs.laws.each_token_comes.Goals as goal

pub returns : goal.returns
returns c = comes_always
