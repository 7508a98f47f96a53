use Rattle.vc_program.proofs.Reduction.{quiet_states}
use Rattle.vc_program.proofs.quiet_states_are_found.Goals as goal

pub returns : goal.returns
returns c = quiet_states
