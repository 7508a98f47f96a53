use Rattle.vc_meaning.proofs.Events.{events_keep}
use Rattle.vc_meaning.proofs.events_keep_the_meaning.Goals as goal

pub returns : goal.returns
returns c = events_keep
