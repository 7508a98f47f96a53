use Rattle.vc_program.proofs.Reduction.{meet}
use Rattle.vc_program.proofs.apart_moves_meet.Goals as goal

pub returns : goal.returns
returns c = meet
