use Rattle.vc_program.proofs.Alone.{stays}
use Rattle.vc_program.proofs.nothing_takes_it_away.Goals as goal

pub returns : goal.returns
returns c = stays
