use Rattle.vc_machine.proofs.Refinement.{steps_are_steps}
use Rattle.vc_machine.proofs.each_token_step_is_at_most_two.Goals as goal

pub returns : goal.returns
returns c = λ net back waiting ranges. steps_are_steps net back waiting ranges
