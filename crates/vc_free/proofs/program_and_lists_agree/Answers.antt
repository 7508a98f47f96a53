use Rattle.vc_free.proofs.Agreement.{program_and_lists_agree}
use Rattle.vc_free.proofs.program_and_lists_agree.Goals as goal

pub returns : goal.returns
returns c = program_and_lists_agree
