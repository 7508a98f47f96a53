use Rattle.vc_tokens.proofs.StreamReads.{cut_anyhow}
use Rattle.vc_tokens.proofs.laws.cuttings_agree.Goals as goal

pub returns : goal.returns
returns c = cut_anyhow
