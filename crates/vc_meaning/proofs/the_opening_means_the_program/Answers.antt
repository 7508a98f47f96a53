use Rattle.vc_meaning.proofs.Opening.{opening_means}
use Rattle.vc_meaning.proofs.the_opening_means_the_program.Goals as goal

pub returns : goal.returns
returns c = opening_means
