use Rattle.vc_machine.proofs.Functional.{seen_is}
use Rattle.vc_machine.proofs.the_state_is_seen.Goals as goal

pub returns : goal.returns
returns c = λ net t s view. seen_is net t s view
