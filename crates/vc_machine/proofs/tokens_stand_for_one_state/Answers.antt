use Rattle.vc_machine.proofs.TokenUnique.{view_one}
use Rattle.vc_machine.proofs.tokens_stand_for_one_state.Goals as goal

pub returns : goal.returns
returns c = λ net t s v h k. view_one net t s v h k
