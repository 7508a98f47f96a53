use Rattle.vc_meaning.proofs.Endings.{ends_anywhere}
use Rattle.vc_meaning.proofs.ends_anywhere.Goals as goal

pub returns : goal.returns
returns c = ends_anywhere
