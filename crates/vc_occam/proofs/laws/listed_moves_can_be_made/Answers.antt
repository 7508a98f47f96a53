use Rattle.vc_occam.proofs.Made.{can_be_made}
use Rattle.vc_occam.proofs.laws.listed_moves_can_be_made.Goals as goal

pub returns : goal.returns
returns c = can_be_made
