-- By the ranks, upwards and downwards.
use Rattle.vc_machine.proofs.Still.{still_is_clear}
use Rattle.vc_machine.proofs.a_still_network_is_clear.Goals as goal

pub returns : goal.returns
returns c = λ net back waiting most accepted headers ranks wires stay es u run still w real.
    still_is_clear net back waiting most accepted headers ranks wires stay es u run still w real
