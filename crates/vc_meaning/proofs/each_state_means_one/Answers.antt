use Rattle.vc_meaning.proofs.Events.{states_are_meant}
use Rattle.vc_meaning.proofs.each_state_means_one.Goals as goal

pub returns : goal.returns
returns c = states_are_meant
