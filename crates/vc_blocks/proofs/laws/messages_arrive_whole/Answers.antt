use Rattle.vc_blocks.proofs.WholeMessages.{arrive_whole}
use Rattle.vc_blocks.proofs.laws.messages_arrive_whole.Goals as goal

pub returns : goal.returns
returns c = arrive_whole
