use Rattle.vc_program.proofs.NoChoices.{no_choices}
use Rattle.vc_program.proofs.no_choices_stay.Goals as goal

pub returns : goal.returns
returns c = no_choices
